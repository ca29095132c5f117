-- Procedures that redefine others are alike, and receive records of their kind.
use Rattle.std.proofs.Common.{◌≡◌, refl, sym, ◌∙◌, subst, ◌≤◌, List, [], ◌∷◌, false, arith}
use Rattle.ob_tree.specs.declared.names.QName.{QName}
use Rattle.ob_types.specs.declared.types.Mode.{Mode}
use Rattle.ob_types.specs.declared.types.TypeRef.{TypeRef}
use Rattle.ob_types.specs.declared.desc.Receiver.{Receiver}
use Rattle.ob_types.specs.declared.desc.Receiver.TheVariants as receiver
use Rattle.ob_types.specs.declared.typed.Family.{Family}
use Rattle.ob_types.specs.declared.typed.TypedParameter.{TypedParameter}
use Rattle.ob_types.specs.TypedSyntax.{Procedure}
use Rattle.ob_meaning.specs.Values.{Program}
use Rattle.law_simulation_relation.specs.Relation.{ModulesOk}
use Rattle.law_simulation_relation.specs.Setting.{Setting}
use Rattle.law_simulation_relation.specs.Typed.{ReceiverOk}
use Rattle.ob_link.specs.Members.{empty_image}
use Rattle.law_simulation_calls.specs.Signatures.{Alike}
use Rattle.law_simulation_calls.specs.Tables.{Redefined, Redefinition}
use Rattle.law_typing_forms.specs.Formed.{AreParameters, behind}
use Rattle.law_typing_forms.proofs.Modules.{modules_ok}
use Rattle.law_typing.specs.Redefined.{IsRedefined, AreRedefined}
use Rattle.law_image_tables.specs.Declared.{BasesBuilt}
use Rattle.law_image_tables.specs.Redefined.{RedefinitionsKept}
use Rattle.law_image_tables.proofs.Redefined.{families_stand}
use Rattle.law_image_tables.proofs.Settled.{built_from}
use Rattle.law_program_runs.specs.Builds.{program_of}
use Rattle.law_program_image.proofs.Settled.{sound_are_settled}
use Rattle.law_program_image.proofs.Like.{like_are_redefined}
use Rattle.law_builds_loaded.proofs.inherited_laws.Loaded.{loaded_have_bindings}
use Rattle.law_builds_bodies.specs.built_laws.Built.{LikeAreNearest, LoadedAreRedefined}

few : 0 ≤ 4194304
few = omega arith

module _ (program : Program) where
  -- parameters that are alike are those of one signature
  same_parameters : (ps qs : List TypedParameter) (ks : List (Mode × TypeRef)) → Alike program ps qs → AreParameters program ps ks → AreParameters program qs ks
  same_parameters [] [] ks a h = h
  same_parameters [] (q ∷ qs) ks a h = absurd a
  same_parameters (p ∷ ps) [] ks a h = absurd a
  same_parameters (p ∷ ps) (q ∷ qs) [] a h = absurd h
  same_parameters (p ∷ ps) (q ∷ qs) (k ∷ ks) a h = (sym a.0.1 ∙ h.0, (sym a.0.0 ∙ h.1.0, same_parameters ps qs ks a.1 h.1.1))

  -- a receiver before others
  with_others : (k : Receiver) (t : QName) (q : TypedParameter) (qs : List TypedParameter) → ReceiverOk program k t (q ∷ []) → ReceiverOk program k t (q ∷ qs)
  with_others receiver.Record t q qs h = h
  with_others receiver.Pointer t q qs h = h

  -- a setting of the program alone
  abbrev alone : ModulesOk program program → Setting
  alone ok = record {
    program = program;
    has = λ fs q. false;
    img = empty_image;
    heap = 0;
    behind = [];
    ok = ok;
    globals = refl;
    stack = refl;
    activations = refl;
    operands = refl;
    heap_few = few;
  }

  module _ (ok : ModulesOk program program) (f : Family) (k : Receiver) (p : Procedure) (d : QName) where
    near_redefined : (r : Redefinition (alone ok) f k p d) → (ps qs : List TypedParameter) → p.parameters ≡ ps → r.procedure.parameters ≡ qs → Redefined program k d ps qs → IsRedefined program f k p d
    near_redefined r [] qs e g h = absurd h
    near_redefined r (x ∷ ps) [] e g h = absurd h
    near_redefined r (x ∷ ps) (y ∷ qs) e g h = record {
      name = r.q;
      procedure = r.procedure;
      near = r.near;
      found = r.is;
      result = r.result;
      parameters = λ ks a.
          let mine : AreParameters program ps ks = subst (λ (l : List TypedParameter). AreParameters program (behind l) ks) e a in
          subst (λ (l : List TypedParameter). AreParameters program (behind l) ks) (sym g) (same_parameters ps qs ks h.1 mine);
      t = h.0.0;
      receives = subst (ReceiverOk program k h.0.0) (sym g) (with_others k h.0.0 y qs h.0.1);
      above = h.0.2;
    }

  redefined_from : ModulesOk program program → BasesBuilt program → RedefinitionsKept program → AreRedefined program
  redefined_from ok built kept t f k q p is near found takes d extends sub =
      let r = families_stand (alone ok) built kept t f k q p is near found takes d extends sub in
      near_redefined ok f k p d r p.parameters r.procedure.parameters refl refl r.parameters

pub like_are_nearest : LikeAreNearest
like_are_nearest program sound whole bindings like =
    redefined_from program (modules_ok program whole) (built_from program (sound_are_settled program sound)) (like_are_redefined program sound whole bindings like)

pub loaded_are_redefined : LoadedAreRedefined
loaded_are_redefined written locality differ sound whole like bs l = like_are_nearest (program_of bs) (sound bs l) (whole bs l) (loaded_have_bindings written locality differ bs l) (like bs l)
