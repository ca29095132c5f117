-- The parameters of a sound program are passed as suits their types.
use Rattle.std.proofs.Common.{◌≡◌, refl, sym, subst, true, List, [], ◌∷◌, Option, Some, None}
use Rattle.std.specs.List.{AllByRecursion}
use Rattle.ob_tree.specs.declared.names.QName.{QName}
use Rattle.ob_types.specs.declared.types.Mode.{Mode}
use Rattle.ob_types.specs.declared.types.Mode.TheVariants as mode
use Rattle.ob_types.specs.declared.types.TypeRef.{TypeRef}
use Rattle.ob_types.specs.declared.types.TypeRef.TheVariants as ref
use Rattle.ob_types.specs.declared.desc.Desc.{Desc}
use Rattle.ob_types.specs.declared.desc.Desc.TheVariants as desc
use Rattle.ob_types.specs.declared.typed.Passing.{Passing}
use Rattle.ob_types.specs.declared.typed.TypedParameter.{TypedParameter}
use Rattle.ob_types.specs.Relations.{Is, is_open}
use Rattle.ob_meaning.specs.Values.{Program, Form, BasicForm, PointerForm, ProcedureForm, ArrayForm, OpenForm, RecordForm, form_in, record_in, number_of_types, description}
use Rattle.law_simulation_relation.specs.Relation.{FormOk}
use Rattle.law_simulation_relation.specs.Typed.{IsOpen, passing_for}
use Rattle.law_image_code.specs.Compiled.{ParameterFits, ParametersFit}
use Rattle.law_typing_forms.specs.Said.{IsSound}
use Rattle.law_typing_forms.specs.Whole.{IsPassed}
use Rattle.law_typing_forms.proofs.Built.{declared_stands, found, built}
use Rattle.law_typing_forms.proofs.Shapes.{basic_is}
use Rattle.law_typing_forms.proofs.Within.{form_described}
use Rattle.law_program_typing.proofs.Names.{nothing_form}

module _ (program : Program) (sound : IsSound program) where
  open_described : (q : QName) (d : Desc) → description program q ≡ Some d → is_open d ≡ true → IsOpen (record_in program q)
  open_described q (desc.OpenArray m t) e h = subst IsOpen (sym (form_described program sound q (desc.OpenArray m t) e)) tt
  open_described q (desc.Const v) e h = absurd cc
  open_described q (desc.Var m t) e h = absurd cc
  open_described q (desc.Proc s) e h = absurd cc
  open_described q (desc.Alias m t) e h = absurd cc
  open_described q (desc.Array m n t) e h = absurd cc
  open_described q (desc.Pointer m t) e h = absurd cc
  open_described q (desc.ProcType m s) e h = absurd cc
  open_described q (desc.Record r) e h = absurd cc

  open_is : (t : TypeRef) → Is (description program) is_open t → IsOpen (form_in program t)
  open_is t h = let x = found program sound is_open t h in subst IsOpen (sym (declared_stands program sound x.stands)) (open_described x.q x.d x.has x.is)

  -- what is no open array can be built
  pub closed_ok : (t : TypeRef) → (IsOpen (form_in program t) → ⊥) → FormOk program (form_in program t)
  closed_ok (ref.Basic b) never = subst (FormOk program) (sym (basic_is program b)) tt
  closed_ok (ref.Named q) never = by (description program q) refl
    where
      by : (o : Option Desc) → description program q ≡ o → FormOk program (form_in program (ref.Named q))
      by None e = subst (FormOk program) (sym (nothing_form (description program) (number_of_types program) q e)) tt
      by (Some d) e = let w = sound.ends q d e in built program sound w.0 (ref.Named q) w.1 (λ k. never (open_is (ref.Named q) k))

  passed_fits : (x : TypedParameter) → IsPassed program x → ParameterFits program x.passing (form_in program x.of)
  passed_fits x p = subst (λ (h : Passing). ParameterFits program h (form_in program x.of)) (sym p.passing) (by p.mode (form_in program x.of) refl)
    where
      ok : (f : Form) → form_in program x.of ≡ f → (IsOpen f → ⊥) → FormOk program f
      ok f e never = subst (FormOk program) e (closed_ok x.of (λ k. never (subst IsOpen e k)))

      by : (m : Mode) (f : Form) → form_in program x.of ≡ f → ParameterFits program (passing_for m f) f
      by mode.Value (BasicForm b) e = tt
      by mode.Value (PointerForm t) e = tt
      by mode.Value (ProcedureForm fs) e = tt
      by mode.Value (ArrayForm n t) e = ok (ArrayForm n t) e (λ k. k)
      by mode.Value (OpenForm t) e = (t, refl)
      by mode.Value (RecordForm line fs) e = ok (RecordForm line fs) e (λ k. k)
      by mode.Var (BasicForm b) e = tt
      by mode.Var (PointerForm t) e = tt
      by mode.Var (ProcedureForm fs) e = tt
      by mode.Var (ArrayForm n t) e = tt
      by mode.Var (OpenForm t) e = tt
      by mode.Var (RecordForm line fs) e = tt

  pub all_fit : (ps : List TypedParameter) → AllByRecursion (IsPassed program) ps → ParametersFit program ps
  all_fit [] h = tt
  all_fit (p ∷ ps) h = (passed_fits p h.0, all_fit ps h.1)
