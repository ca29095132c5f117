-- Where all modules of a program stand as they were compiled and their procedures are checked, the image is linked as the law of
-- simulation asks.
use Rattle.std.proofs.Common.{◌≡◌, ℕ, suc, List, [], ◌∷◌, refl, sym, ap, ◌∙◌, subst, Option, Some}
use Rattle.std.specs.Prelude.{unwrap_or, Bool, true, false, bytes_eq, if◌then◌else◌, slice_get}
use Rattle.std.proofs.lemmas.Option.{none-some}
use Rattle.ob_tree.specs.declared.names.QName.{QName}
use Rattle.ob_types.specs.declared.desc.Desc.{Desc}
use Rattle.ob_types.specs.TypedSyntax.{Procedure, Module}
use Rattle.ob_instr.specs.Image.{ModuleImage}
use Rattle.ob_meaning.specs.Values.{procedure_named, procedure_of}
use Rattle.ob_meaning.specs.Commands.{body_name, body_procedure}
use Rattle.ob_scheme.specs.Procedures.{body_of, all_procedures}
use Rattle.law_simulation_relation.specs.Layout.{procedure_number}
use Rattle.law_simulation_relation.specs.Setting.{Setting}
use Rattle.ob_scheme.specs.Descriptions.{method_number}
use Rattle.law_simulation_relation.specs.Linked.{ProcedureStands, Linked}
use Rattle.law_simulation_relation.proofs.Names.{bytes_true}
use Rattle.law_image_code.specs.Fits.{IsNamed}
use Rattle.law_image_code.specs.Compiled.{IsCompiled, IsChecked, ProceduresChecked, AllCompiled}
use Rattle.law_image_code.proofs.Procedures.{index_named, procedure_stands, procedure_methods}

module _ (c : Setting) where
  record Named (types : QName → Option Desc) (md : Module) (ps : List Procedure) (x : List ℕ) (p : Procedure) : Type 0 where
    pub found : slice_get ps (procedure_number ps x) ≡ Some p
    pub named : IsNamed x
    pub checked : IsChecked c types md p

  named_found : (types : QName → Option Desc) (md : Module) (ps : List Procedure) (x : List ℕ) (p : Procedure) → procedure_named ps x ≡ Some p → ProceduresChecked c types md ps → Named types md ps x p
  named_found types md [] x p e h = absurd (none-some _ e)
  named_found types md (r ∷ ps) x p e h = go (bytes_eq x r.name) refl e (λ f. named_found types md ps x p f h.1)
    where
      go : (b : Bool) → bytes_eq x r.name ≡ b → (if b then Some r else procedure_named ps x) ≡ Some p → (procedure_named ps x ≡ Some p → Named types md ps x p) → Named types md (r ∷ ps) x p
      go true t e more = record { found = ap (λ b. slice_get (r ∷ ps) (if b then 0 else suc (procedure_number ps x))) t ∙ e; named = subst IsNamed (sym (bytes_true x r.name t)) h.0.0; checked = subst (IsChecked c types md) (ap (λ o. unwrap_or o r) e) h.0.1 }
      go false t e more =
          let n = more e in
          record { found = ap (λ b. slice_get (r ∷ ps) (if b then 0 else suc (procedure_number ps x))) t ∙ n.found; named = n.named; checked = n.checked }

  abbrev called : List ℕ → List ℕ → QName
  called m x = record { «module» = m; object = x }

  -- it stands, with the numbers of families of its module's descriptions
  pub record StandsBy (types : QName → Option Desc) (q : QName) (p : Procedure) : Type 0 where
    pub stands : ProcedureStands c q p
    pub methods_are : stands.methods ≡ (λ f. method_number types f.owner f.name)

  pub one_stands : (types : QName → Option Desc) (md : Module) (m : ℕ) (u : ModuleImage) → IsCompiled c types md m u → ProceduresChecked c types md md.procedures → (q : QName) (p : Procedure) → bytes_eq q.module md.name ≡ true → procedure_named md.procedures q.object ≡ Some p → StandsBy types q p
  one_stands types md m u is checked q p t e =
      let n = named_found types md md.procedures q.object p e checked in
      let f = subst (λ k. slice_get (all_procedures md) k ≡ Some p) (index_named md.procedures q.object n.named) n.found in
      subst (λ k. StandsBy types (called k q.object) p) (sym (bytes_true q.module md.name t))
      (record { stands = procedure_stands types md c m u is q.object p f n.checked; methods_are = procedure_methods types md c m u is q.object p f n.checked })

  pub procedures_stand : (ms : List Module) (q : QName) (p : Procedure) → AllCompiled c ms → procedure_of ms q ≡ Some p → ProcedureStands c q p
  procedures_stand [] q p all e = absurd (none-some _ e)
  procedures_stand (md ∷ ms) q p all e = go (bytes_eq q.module md.name) refl e (λ f. procedures_stand ms q p all.1 f)
    where
      go : (b : Bool) → bytes_eq q.module md.name ≡ b → (if b then procedure_named md.procedures q.object else procedure_of ms q) ≡ Some p → (procedure_of ms q ≡ Some p → ProcedureStands c q p) → ProcedureStands c q p
      go true t e more = let a = all.0 in (one_stands a.0 md a.1 a.2 a.3 a.4 q p t e).stands
      go false t e more = more e

  -- THE LINKED PROGRAM, and a module's body
  pub linked : AllCompiled c c.program → Linked c
  linked all q p e = procedures_stand c.program q p all e

  pub body_stands : (types : QName → Option Desc) (md : Module) (m : ℕ) (u : ModuleImage) → IsCompiled c types md m u → IsChecked c types md (body_of md) → ProcedureStands c (body_name md) (body_procedure md)
  body_stands types md m u k h = procedure_stands types md c m u k [] (body_of md) refl h

  -- with the numbers of families of the module's descriptions
  pub body_stands_by : (types : QName → Option Desc) (md : Module) (m : ℕ) (u : ModuleImage) → IsCompiled c types md m u → IsChecked c types md (body_of md) → StandsBy types (body_name md) (body_procedure md)
  body_stands_by types md m u k h = record { stands = procedure_stands types md c m u k [] (body_of md) refl h; methods_are = procedure_methods types md c m u k [] (body_of md) refl h }
