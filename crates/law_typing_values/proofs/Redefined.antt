-- The redefinitions of a family, as well typed trees ask for them.
use Rattle.std.proofs.Common.{sym, ◌∙◌, List, [], ◌∷◌}
use Rattle.ob_tree.specs.declared.names.QName.{QName}
use Rattle.ob_types.specs.declared.types.Mode.{Mode}
use Rattle.ob_types.specs.declared.types.TypeRef.{TypeRef}
use Rattle.ob_types.specs.declared.desc.Receiver.{Receiver}
use Rattle.ob_types.specs.declared.desc.Receiver.TheVariants as receiver
use Rattle.ob_types.specs.declared.typed.TypedParameter.{TypedParameter}
use Rattle.ob_meaning.specs.Values.{Program, record_in}
use Rattle.law_simulation_relation.specs.Relation.{Sub}
use Rattle.law_simulation_relation.specs.Typed.{ReceiverOk}
use Rattle.law_simulation_calls.specs.Signatures.{Alike}
use Rattle.law_simulation_calls.specs.Tables.{Redefined}
use Rattle.law_typing_forms.specs.Formed.{AreParameters, behind}
use Rattle.law_typing_values.specs.Families.{FamiliesRedefined}

module _ (program : Program) where
  -- parameters that are alike are those of one signature
  alike_parameters : (ps qs : List TypedParameter) → Alike program ps qs → (ks : List (Mode × TypeRef)) → AreParameters program ps ks → AreParameters program qs ks
  alike_parameters [] [] a ks h = h
  alike_parameters [] (q ∷ qs) a ks h = absurd a
  alike_parameters (p ∷ ps) [] a ks h = absurd a
  alike_parameters (p ∷ ps) (q ∷ qs) a [] h = absurd h
  alike_parameters (p ∷ ps) (q ∷ qs) a (k ∷ ks) h = (sym a.0.1 ∙ h.0, (sym a.0.0 ∙ h.1.0, alike_parameters ps qs a.1 ks h.1.1))

  behind_alike : (k : Receiver) (d : QName) (ps qs : List TypedParameter) → Redefined program k d ps qs → (ks : List (Mode × TypeRef)) → AreParameters program (behind ps) ks → AreParameters program (behind qs) ks
  behind_alike k d [] qs r ks h = absurd r
  behind_alike k d (p ∷ ps) [] r ks h = absurd r
  behind_alike k d (p ∷ ps) (q ∷ qs) r ks h = alike_parameters ps qs r.1 ks h

  of_first : (k : Receiver) (t : QName) (q : TypedParameter) (qs : List TypedParameter) → ReceiverOk program k t (q ∷ []) → ReceiverOk program k t (q ∷ qs)
  of_first receiver.Record t q qs h = h
  of_first receiver.Pointer t q qs h = h

  received : (k : Receiver) (d : QName) (ps qs : List TypedParameter) → Redefined program k d ps qs → (t : QName) × (ReceiverOk program k t qs × Sub (record_in program d) (record_in program t))
  received k d [] qs r = absurd r
  received k d (p ∷ ps) [] r = absurd r
  received k d (p ∷ ps) (q ∷ qs) r = let x = r.0 in (x.0, (of_first k x.0 q qs x.1, x.2))

pub families_redefined : FamiliesRedefined
families_redefined c stand t f k q p is near found takes d of s =
    let r = stand t f k q p is near found takes d of s in
    let x = received c.program k d p.parameters r.procedure.parameters r.parameters in
    record {
      name = r.q;
      procedure = r.procedure;
      near = r.near;
      found = r.is;
      result = r.result;
      parameters = behind_alike c.program k d p.parameters r.procedure.parameters r.parameters;
      t = x.0;
      receives = x.1.0;
      above = x.1.1;
    }
