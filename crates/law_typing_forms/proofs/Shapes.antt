-- What stands for a type has its form, and what the map has of it says which.
use Rattle.std.proofs.Common.{◌≡◌, ℕ, zero, suc, ◌∷◌, Option, Some, None, refl, sym, ap, subst, ◌∙◌}
use Rattle.std.specs.Prelude.{true}
use Rattle.ob_tree.specs.declared.names.QName.{QName}
use Rattle.ob_tree.specs.declared.ident.Mark.{Mark}
use Rattle.ob_types.specs.declared.types.Basic.{Basic}
use Rattle.ob_types.specs.declared.types.TypeRef.{TypeRef}
use Rattle.ob_types.specs.declared.types.TypeRef.TheVariants as ref
use Rattle.ob_types.specs.declared.types.Signature.{Signature}
use Rattle.ob_types.specs.declared.desc.Desc.{Desc}
use Rattle.ob_types.specs.declared.desc.Desc.TheVariants as desc
use Rattle.ob_types.specs.declared.desc.RecordDesc.{RecordDesc}
use Rattle.ob_types.specs.Relations.{StandsFor, itself, equated, Same}
use Rattle.ob_types.specs.Tests.{alias_of, follow, target, same_at, shape_at}
use Rattle.ob_types.proofs.Sameness.{type_eq_decides}
use Rattle.ob_meaning.specs.Values.{Program, base_line, Form, BasicForm, PointerForm, ProcedureForm, ArrayForm, OpenForm, RecordForm, fields_of, form_in, record_in, formals_in, form_within, description, number_of_types}
use Rattle.law_simulation_relation.specs.Typed.{IsRecordType}
use Rattle.ob_rules.specs.Shapes.{shape, basic_of, record_of, record_if, pointed, pointed_record, array_of, open_element, signature_at}
use Rattle.law_typing_forms.specs.Formed.{IsDeclared, IsRecordOf, Formed}
use Rattle.law_typing_forms.proofs.Finds as finds

-- the form of a basic type is itself
pub basic_is : (program : Program) (b : Basic) → form_in program (ref.Basic b) ≡ BasicForm b
basic_is program b = by (number_of_types program)
  where
    by : (n : ℕ) → form_within (description program) n (ref.Basic b) ≡ BasicForm b
    by zero = refl
    by (suc n) = refl

module _ (map : QName → Option Desc) (program : Program) (formed : Formed map program) where
  abbrev form : TypeRef → Form
  form = form_in program

  -- WHAT A TYPE STANDS FOR

  alias_form : (t u : TypeRef) → alias_of map t ≡ Some u → form t ≡ form u
  alias_form (ref.Basic b) u e = absurd cc
  alias_form (ref.Named q) u e =
      let h = finds.is_alias (map q) u e in
      formed.aliases q h.0 u h.1

  pub target_form : (n : ℕ) (t : TypeRef) → form (target map n t) ≡ form t
  unfolding target
  target_form zero t = refl
  target_form (suc n) t = by (alias_of map t) refl (λ u. target_form n u)
    where
      by : (o : Option TypeRef) → alias_of map t ≡ o → ((u : TypeRef) → form (target map n u) ≡ form u) → form (follow o t (λ u. target map n u)) ≡ form t
      by None e r = refl
      by (Some u) e r = r u ∙ sym (alias_form t u e)

  pub stands_form : {t u : TypeRef} → StandsFor map t u → form t ≡ form u
  stands_form (itself own) = refl
  stands_form (equated {q = q} {m = m} {t = t} e s) = formed.aliases q m t e ∙ stands_form s

  pub same_form : (a b : TypeRef) → same_at map a b ≡ true → form a ≡ form b
  unfolding same_at
  same_form a b e =
      let h : target map 201 a ≡ target map 201 b = (type_eq_decides (target map 201 a) (target map 201 b)).0 e in
      sym (target_form 201 a) ∙ ap form h ∙ target_form 201 b

  pub are_same_form : (a b : TypeRef) → Same map a b → form a ≡ form b
  are_same_form a b s = stands_form s.1.0 ∙ sym (stands_form s.1.1)

  -- THE DESCRIPTION OF WHAT A TYPE STANDS FOR

  pub record Shaped (t : TypeRef) (d : Desc) : Type 0 where
    pub q : QName
    pub is : target map 201 t ≡ ref.Named q
    pub has : map q ≡ Some d
    pub form : form_in program t ≡ record_in program q

  pub shaped : (t : TypeRef) (d : Desc) → shape map t ≡ Some d → Shaped t d
  shaped t d e = by (target map 201 t) refl e
    where
      by : (u : TypeRef) → target map 201 t ≡ u → shape_at map u ≡ Some d → Shaped t d
      by (ref.Basic b) is e = absurd cc
      by (ref.Named q) is e = record { q = q; is = is; has = e; form = sym (target_form 201 t) ∙ ap form is }

  pub basic_form : (t : TypeRef) (b : Basic) → basic_of map t ≡ Some b → form t ≡ BasicForm b
  basic_form t b e = sym (target_form 201 t) ∙ ap form (finds.is_basic (target map 201 t) b e) ∙ basic_is program b

  pub pointer_form : (t u : TypeRef) → pointed map t ≡ Some u → form t ≡ PointerForm u
  pointer_form t u e =
      let h = finds.is_pointer (shape map t) u e in
      let s = shaped t (desc.Pointer h.0 u) h.1 in
      s.form ∙ formed.pointers s.q h.0 u s.has

  pub procedure_form : (t : TypeRef) (s : Signature) → signature_at map t ≡ Some s → form t ≡ ProcedureForm (formals_in program s)
  procedure_form t g e =
      let h = finds.is_procedure (shape map t) g e in
      let s = shaped t (desc.ProcType h.0 g) h.1 in
      s.form ∙ formed.procedures s.q h.0 g s.has

  pub array_form : (t : TypeRef) (n : ℕ) (u : TypeRef) → array_of map t ≡ Some (Some n, u) → form t ≡ ArrayForm n (form u)
  array_form t n u e =
      let h = finds.is_array (shape map t) n u e in
      let s = shaped t (desc.Array h.0 n u) h.1 in
      s.form ∙ formed.arrays s.q h.0 n u s.has

  -- a record type, as the map and the program have it
  pub record Recorded (t : TypeRef) (q : QName) : Type 0 where
    pub r : RecordDesc
    pub has : map q ≡ Some (desc.Record r)
    pub form : form_in program t ≡ record_in program q
    pub is : IsRecordOf program q r

  pub record_form : (t : TypeRef) (q : QName) → record_of map t ≡ Some q → Recorded t q
  record_form t q e =
      let h = finds.is_record (target map 201 t) (shape map t) q e in
      let has : map q ≡ Some (desc.Record h.1.0) = sym (ap (shape_at map) h.0) ∙ h.1.1 in
      record { r = h.1.0; has = has; form = sym (target_form 201 t) ∙ ap form h.0; is = formed.records q h.1.0 has }

  pub record_type : (q : QName) (r : RecordDesc) → IsRecordOf program q r → IsRecordType program q
  record_type q r k = (base_line (form_in program) r.base, k.is ∙ ap (λ fs. RecordForm (q ∷ base_line (form_in program) r.base) fs) (sym (ap fields_of k.is)))

  -- a pointer to a record
  pub record PointsTo (t : TypeRef) (q : QName) : Type 0 where
    pub u : TypeRef
    pub pointed_is : pointed map t ≡ Some u
    pub form : form_in program t ≡ PointerForm u
    pub to : Recorded u q

  pub pointed_record_form : (t : TypeRef) (q : QName) → pointed_record map t ≡ Some q → PointsTo t q
  pointed_record_form t q e = by (pointed map t) refl e
    where
      by : (o : Option TypeRef) → pointed map t ≡ o → record_if map o ≡ Some q → PointsTo t q
      by None is e = absurd cc
      by (Some u) is e = record { u = u; pointed_is = is; form = pointer_form t u is; to = record_form u q e }

  -- OPEN ARRAYS

  pub declared_target : (n : ℕ) (t : TypeRef) → IsDeclared t → IsDeclared (target map n t)
  unfolding target
  declared_target zero t h = h
  declared_target (suc n) t h = by (alias_of map t) refl (λ u k. declared_target n u k)
    where
      alias_declared : (t u : TypeRef) → alias_of map t ≡ Some u → IsDeclared u
      alias_declared (ref.Basic b) u e = absurd cc
      alias_declared (ref.Named q) u e = let a = finds.is_alias (map q) u e in (formed.declared q (desc.Alias a.0 u) a.1).0

      by : (o : Option TypeRef) → alias_of map t ≡ o → ((u : TypeRef) → IsDeclared u → IsDeclared (target map n u)) → IsDeclared (follow o t (λ u. target map n u))
      by None e r = h
      by (Some u) e r = r u (alias_declared t u e)

  open_shape : (t u : TypeRef) → IsDeclared t → (m : Mark) → shape map t ≡ Some (desc.OpenArray m u) → form t ≡ OpenForm (form u)
  open_shape t u h m e =
      let s = shaped t (desc.OpenArray m u) e in
      s.form ∙ formed.opens s.q m u s.has (subst IsDeclared s.is (declared_target 201 t h))

  pub open_form : (t u : TypeRef) → IsDeclared t → open_element map t ≡ Some u → form t ≡ OpenForm (form u)
  open_form t u h e = let k = finds.is_open (shape map t) u e in open_shape t u h k.0 k.1

  pub open_array_form : (t u : TypeRef) → IsDeclared t → array_of map t ≡ Some (None, u) → form t ≡ OpenForm (form u)
  open_array_form t u h e = let k = finds.is_open_array (shape map t) u e in open_shape t u h k.0 k.1
