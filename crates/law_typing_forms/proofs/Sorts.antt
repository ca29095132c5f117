-- What a held type is, in a steady map: how it is passed, and that it is built as types are.
use Rattle.std.proofs.Common.{◌≡◌, ℕ, zero, suc, List, ◌∷◌, Option, Some, None, refl, sym, ap, subst, ◌∙◌}
use Rattle.std.specs.Prelude.{Bool, true, false, ◌||◌, IsTrue, MatchOption, is_some}
use Rattle.std.specs.List.{AllByRecursion}
use Rattle.ob_tree.specs.declared.names.QName.{QName}
use Rattle.ob_tree.specs.declared.ident.Mark.{Mark}
use Rattle.ob_types.specs.declared.types.Basic.{Basic}
use Rattle.ob_types.specs.declared.types.Mode.{Mode}
use Rattle.ob_types.specs.declared.types.Mode.TheVariants as mode
use Rattle.ob_types.specs.declared.types.TypeRef.{TypeRef}
use Rattle.ob_types.specs.declared.types.TypeRef.TheVariants as ref
use Rattle.ob_types.specs.declared.types.Signature.{Signature}
use Rattle.ob_types.specs.declared.desc.Desc.{Desc}
use Rattle.ob_types.specs.declared.desc.Desc.TheVariants as desc
use Rattle.ob_types.specs.declared.desc.RecordDesc.{RecordDesc}
use Rattle.ob_types.specs.declared.typed.Passing.{Passing}
use Rattle.ob_types.specs.Maps.{is_type, stands_on, IsHeld, IsWithin}
use Rattle.ob_types.specs.Relations as relations
use Rattle.ob_types.specs.Relations.{is_alias, IsOwn, StandsFor, itself, equated, Is, is_structure, Keeps}
use Rattle.ob_types.specs.Tests.{target, shape_at}
use Rattle.ob_meaning.specs.Values.{Program, Form, BasicForm, PointerForm, ProcedureForm, ArrayForm, OpenForm, RecordForm, joined, base_line, base_fields, Fields, form_in, record_in, formals_in}
use Rattle.law_simulation_relation.specs.Relation.{FormOk, Scalar}
use Rattle.law_simulation_relation.specs.Typed.{passing_for}
use Rattle.ob_rules.specs.Shapes.{shape, record_at, array_at, open_at, is_structured, passing_of, by_value, by_var}
use Rattle.law_typing_forms.specs.Formed.{IsDeclared, Formed}
use Rattle.law_typing_forms.specs.Steady.{IsSteady}
use Rattle.law_typing_forms.proofs.Steady.{at_steady}
use Rattle.law_typing_forms.proofs.Shapes as shapes

module _ (map : QName → Option Desc) (program : Program) (formed : Formed map program) (steady : IsSteady map) where
  abbrev form : TypeRef → Form
  form = form_in program

  -- A TYPE IS WHAT IT STANDS FOR

  own_of : {t u : TypeRef} → StandsFor map t u → IsOwn map u
  own_of (itself own) = own
  own_of (equated e s) = own_of s

  pub data Sort (t : TypeRef) : Type 0 where
    basic : (b : Basic) → target map 201 t ≡ ref.Basic b → Sort t
    named : (q : QName) (d : Desc) → target map 201 t ≡ ref.Named q → map q ≡ Some d → is_type d ≡ true → is_alias d ≡ false → Sort t

  pub sort : (t : TypeRef) → IsHeld map t → Sort t
  sort t h =
      let x = at_steady map steady t h in
      by (target map 201 t) refl (own_of x.stands) x.held
    where
      on : (q : QName) → target map 201 t ≡ ref.Named q → (o : Option Desc) → map q ≡ o → MatchOption o (Unit {0}) (λ d. is_alias d ≡ false) → MatchOption o ⊥ (λ d. IsTrue (is_type d)) → Sort t
      on q is None e own held = absurd held
      on q is (Some d) e own held = named q d is e held own

      by : (u : TypeRef) → target map 201 t ≡ u → IsOwn map u → IsHeld map u → Sort t
      by (ref.Basic b) is own held = basic b is
      by (ref.Named q) is own held = on q is (map q) refl own held

  -- what is said of a type by its name and its description
  at_shape : {A : Type 0} (F : TypeRef → Option Desc → A) (t : TypeRef) (q : QName) (d : Desc) → target map 201 t ≡ ref.Named q → map q ≡ Some d → F (target map 201 t) (shape map t) ≡ F (ref.Named q) (Some d)
  at_shape F t q d is e = ap (λ u. F u (shape_at map u)) is ∙ ap (λ o. F (ref.Named q) o) e

  at_basic : {A : Type 0} (F : TypeRef → Option Desc → A) (t : TypeRef) (b : Basic) → target map 201 t ≡ ref.Basic b → F (target map 201 t) (shape map t) ≡ F (ref.Basic b) None
  at_basic F t b is = ap (λ u. F u (shape_at map u)) is

  named_form : (t : TypeRef) (q : QName) → target map 201 t ≡ ref.Named q → form t ≡ record_in program q
  named_form t q is = sym (shapes.target_form map program formed 201 t) ∙ ap form is

  basic_form : (t : TypeRef) (b : Basic) → target map 201 t ≡ ref.Basic b → form t ≡ BasicForm b
  basic_form t b is = sym (shapes.target_form map program formed 201 t) ∙ ap form is ∙ shapes.basic_is program b

  -- HOW IT IS PASSED

  passing_at : Mode → TypeRef → Option Desc → Passing
  passing_at mode.Value u o = by_value (is_some (open_at o)) (is_some (array_at o) || is_some (record_at u o))
  passing_at mode.Var u o = by_var (is_some (open_at o)) (is_some (record_at u o))

  pub passing_form : (k : Mode) (t : TypeRef) → IsHeld map t → IsDeclared t → passing_of map k t ≡ passing_for k (form t)
  unfolding passing_at
  passing_form k t h d = whole k ∙ by (sort t h)
    where
      whole : (k : Mode) → passing_of map k t ≡ passing_at k (target map 201 t) (shape map t)
      whole mode.Value = refl
      whole mode.Var = refl

      so : (f : Form) → form t ≡ f → passing_at k (target map 201 t) (shape map t) ≡ passing_for k f → passing_at k (target map 201 t) (shape map t) ≡ passing_for k (form t)
      so f e p = p ∙ sym (ap (passing_for k) e)

      of_basic : (k : Mode) (b : Basic) → passing_at k (ref.Basic b) None ≡ passing_for k (BasicForm b)
      of_basic mode.Value b = refl
      of_basic mode.Var b = refl

      of_array : (k : Mode) (q : QName) (m : Mark) (n : ℕ) (u : TypeRef) → passing_at k (ref.Named q) (Some (desc.Array m n u)) ≡ passing_for k (ArrayForm n (form u))
      of_array mode.Value q m n u = refl
      of_array mode.Var q m n u = refl

      of_open : (k : Mode) (q : QName) (m : Mark) (u : TypeRef) → passing_at k (ref.Named q) (Some (desc.OpenArray m u)) ≡ passing_for k (OpenForm (form u))
      of_open mode.Value q m u = refl
      of_open mode.Var q m u = refl

      of_pointer : (k : Mode) (q : QName) (m : Mark) (u : TypeRef) → passing_at k (ref.Named q) (Some (desc.Pointer m u)) ≡ passing_for k (PointerForm u)
      of_pointer mode.Value q m u = refl
      of_pointer mode.Var q m u = refl

      of_procedure : (k : Mode) (q : QName) (m : Mark) (s : Signature) → passing_at k (ref.Named q) (Some (desc.ProcType m s)) ≡ passing_for k (ProcedureForm (formals_in program s))
      of_procedure mode.Value q m s = refl
      of_procedure mode.Var q m s = refl

      of_record : (k : Mode) (q : QName) (r : RecordDesc) (line : List QName) (fs : Fields) → passing_at k (ref.Named q) (Some (desc.Record r)) ≡ passing_for k (RecordForm line fs)
      of_record mode.Value q r line fs = refl
      of_record mode.Var q r line fs = refl

      on : (q : QName) (d : Desc) → target map 201 t ≡ ref.Named q → map q ≡ Some d → is_type d ≡ true → is_alias d ≡ false → passing_at k (target map 201 t) (shape map t) ≡ passing_for k (form t)
      on q (desc.Const v) is e ty al = absurd cc
      on q (desc.Var m u) is e ty al = absurd cc
      on q (desc.Proc s) is e ty al = absurd cc
      on q (desc.Alias m u) is e ty al = absurd cc
      on q (desc.Array m n u) is e ty al = so (ArrayForm n (form u)) (named_form t q is ∙ formed.arrays q m n u e) (at_shape (passing_at k) t q (desc.Array m n u) is e ∙ of_array k q m n u)
      on q (desc.OpenArray m u) is e ty al = so (OpenForm (form u)) (named_form t q is ∙ formed.opens q m u e (subst IsDeclared is (shapes.declared_target map program formed 201 t d))) (at_shape (passing_at k) t q (desc.OpenArray m u) is e ∙ of_open k q m u)
      on q (desc.Pointer m u) is e ty al = so (PointerForm u) (named_form t q is ∙ formed.pointers q m u e) (at_shape (passing_at k) t q (desc.Pointer m u) is e ∙ of_pointer k q m u)
      on q (desc.ProcType m s) is e ty al = so (ProcedureForm (formals_in program s)) (named_form t q is ∙ formed.procedures q m s e) (at_shape (passing_at k) t q (desc.ProcType m s) is e ∙ of_procedure k q m s)
      on q (desc.Record r) is e ty al = so (RecordForm (q ∷ base_line form r.base) (joined (base_fields form r.base) (formed.records q r e).own)) (named_form t q is ∙ (formed.records q r e).is) (at_shape (passing_at k) t q (desc.Record r) is e ∙ of_record k q r (q ∷ base_line form r.base) (joined (base_fields form r.base) (formed.records q r e).own))

      by : Sort t → passing_at k (target map 201 t) (shape map t) ≡ passing_for k (form t)
      by (basic b is) = so (BasicForm b) (basic_form t b is) (at_basic (passing_at k) t b is ∙ of_basic k b)
      by (named q d is e ty al) = on q d is e ty al

  -- SCALARS

  structured_at : TypeRef → Option Desc → Bool
  structured_at u o = is_some (array_at o) || is_some (record_at u o)

  pub scalar_form : (t : TypeRef) → IsHeld map t → is_structured map t ≡ false → Scalar (form t)
  unfolding structured_at
  scalar_form t h never = by (sort t h)
    where
      so : (f : Form) → form t ≡ f → Scalar f → Scalar (form t)
      so f e s = subst Scalar (sym e) s

      wrong : (q : QName) (d : Desc) → target map 201 t ≡ ref.Named q → map q ≡ Some d → structured_at (ref.Named q) (Some d) ≡ true → Scalar (form t)
      wrong q d is e s = let bad : true ≡ false = sym s ∙ sym (at_shape structured_at t q d is e) ∙ never in absurd cc

      on : (q : QName) (d : Desc) → target map 201 t ≡ ref.Named q → map q ≡ Some d → is_type d ≡ true → is_alias d ≡ false → Scalar (form t)
      on q (desc.Const v) is e ty al = absurd cc
      on q (desc.Var m u) is e ty al = absurd cc
      on q (desc.Proc s) is e ty al = absurd cc
      on q (desc.Alias m u) is e ty al = absurd cc
      on q (desc.Array m n u) is e ty al = wrong q (desc.Array m n u) is e refl
      on q (desc.OpenArray m u) is e ty al = wrong q (desc.OpenArray m u) is e refl
      on q (desc.Pointer m u) is e ty al = so (PointerForm u) (named_form t q is ∙ formed.pointers q m u e) tt
      on q (desc.ProcType m s) is e ty al = so (ProcedureForm (formals_in program s)) (named_form t q is ∙ formed.procedures q m s e) tt
      on q (desc.Record r) is e ty al = wrong q (desc.Record r) is e refl

      by : Sort t → Scalar (form t)
      by (basic b is) = so (BasicForm b) (basic_form t b is) tt
      by (named q d is e ty al) = on q d is e ty al

  -- the result of a procedure, which is neither array nor record
  pub plain_form : (t : TypeRef) → IsHeld map t → (Is map is_structure t → ⊥) → Scalar (form t)
  plain_form t h never = by (sort t h)
    where
      so : (f : Form) → form t ≡ f → Scalar f → Scalar (form t)
      so f e s = subst Scalar (sym e) s

      wrong : (q : QName) (d : Desc) → target map 201 t ≡ ref.Named q → map q ≡ Some d → is_structure d ≡ true → Scalar (form t)
      wrong q d is e s =
          let stands : StandsFor map t (ref.Named q) = subst (λ u. StandsFor map t u) is (at_steady map steady t h).stands in
          absurd (never (q, (stands, subst (λ o. MatchOption o ⊥ (λ d. IsTrue (is_structure d))) (sym e) s)))

      on : (q : QName) (d : Desc) → target map 201 t ≡ ref.Named q → map q ≡ Some d → is_type d ≡ true → is_alias d ≡ false → Scalar (form t)
      on q (desc.Const v) is e ty al = absurd cc
      on q (desc.Var m u) is e ty al = absurd cc
      on q (desc.Proc s) is e ty al = absurd cc
      on q (desc.Alias m u) is e ty al = absurd cc
      on q (desc.Array m n u) is e ty al = wrong q (desc.Array m n u) is e refl
      on q (desc.OpenArray m u) is e ty al = wrong q (desc.OpenArray m u) is e refl
      on q (desc.Pointer m u) is e ty al = so (PointerForm u) (named_form t q is ∙ formed.pointers q m u e) tt
      on q (desc.ProcType m s) is e ty al = so (ProcedureForm (formals_in program s)) (named_form t q is ∙ formed.procedures q m s e) tt
      on q (desc.Record r) is e ty al = wrong q (desc.Record r) is e refl

      by : Sort t → Scalar (form t)
      by (basic b is) = so (BasicForm b) (basic_form t b is) tt
      by (named q d is e ty al) = on q d is e ty al

  -- TYPES AS THEY ARE BUILT

  keeps : (q : QName) (d : Desc) → map q ≡ Some d → Keeps map d
  keeps = steady.keeps

  within_ok : (n : ℕ) (t : TypeRef) → IsWithin map n t → (Is map relations.is_open t → ⊥) → FormOk program (form t)
  unfolding IsWithin
  within_ok zero (ref.Basic b) h never = subst (FormOk program) (sym (shapes.basic_is program b)) tt
  within_ok zero (ref.Named q) h never = absurd h
  within_ok (suc n) (ref.Basic b) h never = subst (FormOk program) (sym (shapes.basic_is program b)) tt
  within_ok (suc n) (ref.Named q) h never = by (map q) refl h (λ t h never. within_ok n t h never)
    where
      so : (f : Form) → record_in program q ≡ f → FormOk program f → FormOk program (record_in program q)
      so f e k = subst (FormOk program) (sym e) k

      by : (o : Option Desc) → map q ≡ o → MatchOption o ⊥ (λ d. IsTrue (is_type d) × AllByRecursion (λ t. IsWithin map n t) (stands_on d)) → ((t : TypeRef) → IsWithin map n t → (Is map relations.is_open t → ⊥) → FormOk program (form t)) → FormOk program (record_in program q)
      by None e h r = absurd h
      by (Some (desc.Const v)) e h r = absurd cc
      by (Some (desc.Var m u)) e h r = absurd cc
      by (Some (desc.Proc s)) e h r = absurd cc
      by (Some (desc.Alias m u)) e h r = so (form u) (formed.aliases q m u e) (r u h.1.0 (keeps q (desc.Alias m u) e))
      by (Some (desc.Array m k u)) e h r = so (ArrayForm k (form u)) (formed.arrays q m k u e) (formed.lengths q m k u e, r u h.1.0 (keeps q (desc.Array m k u) e))
      by (Some (desc.OpenArray m u)) e h r = absurd (never (q, (itself (subst (λ o. MatchOption o (Unit {0}) (λ d. is_alias d ≡ false)) (sym e) refl), subst (λ o. MatchOption o ⊥ (λ d. IsTrue (relations.is_open d))) (sym e) refl)))
      by (Some (desc.Pointer m u)) e h r = so (PointerForm u) (formed.pointers q m u e) tt
      by (Some (desc.ProcType m s)) e h r = so (ProcedureForm (formals_in program s)) (formed.procedures q m s e) tt
      by (Some (desc.Record s)) e h r = (formed.records q s e).fits

  pub form_ok : (t : TypeRef) → IsHeld map t → (Is map relations.is_open t → ⊥) → FormOk program (form t)
  form_ok t h never = let e = steady.ends t h in within_ok e.0 t e.1 never
