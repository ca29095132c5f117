-- What extends a type can stand for it.
use Rattle.std.proofs.Common.{◌≡◌, ℕ, zero, suc, List, [], ◌∷◌, Option, Some, None, refl, sym, ap, subst, ◌∙◌}
use Rattle.std.specs.Prelude.{Bool, true, IfSome}
use Rattle.ob_tree.specs.declared.names.QName.{QName}
use Rattle.ob_types.specs.declared.types.TypeRef.{TypeRef}
use Rattle.ob_types.specs.declared.types.TypeRef.TheVariants as ref
use Rattle.ob_types.specs.declared.desc.Desc.{Desc}
use Rattle.ob_types.specs.declared.desc.Desc.TheVariants as desc
use Rattle.ob_types.specs.declared.desc.RecordDesc.{RecordDesc}
use Rattle.ob_types.specs.Tests.{target, alias_of, target_of, same_at, shape_at, base_of, holds_of, climbs, both, extends_at}
use Rattle.ob_types.proofs.Targets.{stays}
use Rattle.ob_meaning.specs.Values.{Program, Form, PointerForm, RecordForm, Fields, joined, line_of, fields_of, base_line, base_fields, form_in, record_in, Formals, Held}
use Rattle.law_simulation_relation.specs.Relation.{Sub, itself, extended, opened, LengthFits, Scalar}
use Rattle.law_simulation_relation.specs.Typed.{Widens, pointers, itself as widens_itself, IsRecordForm, TestOk}
use Rattle.law_simulation_relation.proofs.Actuals.{sub_on}
use Rattle.ob_rules.specs.Shapes.{shape, record_at, record_of, pointed, extends_record}
use Rattle.law_typing_forms.specs.Formed.{IsRecordOf, Formed}
use Rattle.law_typing_forms.proofs.Finds as finds
use Rattle.law_typing_forms.proofs.Shapes as shapes
use Rattle.law_lists.proofs.Lists.{or_either}

-- one type can stand for another, also behind a pointer
pub record Above (t u : Form) : Type 0 where
  pub sub : Sub t u
  pub lengths : (has : Bool) → LengthFits t has → LengthFits u has

pub above_same : (t u : Form) → t ≡ u → Above t u
above_same t u e = subst (λ v. Above t v) e (record { sub = itself; lengths = λ has h. h })

pub above_on : (t u v : Form) → Above t u → Above u v → Above t v
above_on t u v a b = record { sub = sub_on a.sub b.sub; lengths = λ has h. b.lengths has (a.lengths has h) }

module _ (map : QName → Option Desc) (program : Program) (formed : Formed map program) where
  abbrev form : TypeRef → Form
  form = form_in program

  -- A RECORD AND ITS BASE

  some_of : (P : TypeRef → Type 0) (c : TypeRef) (o : Option TypeRef) → o ≡ Some c → IfSome o P → P c
  some_of P c o e h = subst (λ (o : Option TypeRef). IfSome o P) e h

  pub base_above : (q : QName) (r : RecordDesc) (c : TypeRef) → IsRecordOf program q r → r.base ≡ Some c → Above (record_in program q) (form c)
  base_above q r c k e =
      let b : IsRecordForm (form c) = some_of (λ t. IsRecordForm (form t)) c r.base e k.base in
      let line : base_line form r.base ≡ b.0 = ap (base_line form) e ∙ ap line_of b.1 in
      let fields : base_fields form r.base ≡ fields_of (form c) = ap (base_fields form) e in
      let is : record_in program q ≡ RecordForm (q ∷ b.0) (joined (fields_of (form c)) k.own) = k.is ∙ ap (λ l. RecordForm (q ∷ l) (joined (base_fields form r.base) k.own)) line ∙ ap (λ fs. RecordForm (q ∷ b.0) (joined fs k.own)) fields in
      let one : Above (RecordForm (q ∷ b.0) (joined (fields_of (form c)) k.own)) (RecordForm b.0 (fields_of (form c))) = record { sub = extended (q ∷ []) k.own; lengths = λ has h. tt } in
      subst (λ t. Above t (form c)) (sym is) (subst (λ u. Above (RecordForm (q ∷ b.0) (joined (fields_of (form c)) k.own)) u) (sym b.1) one)

  -- EXTENSIONS

  pub climbs_above : (n : ℕ) (a b : TypeRef) → climbs map n a b ≡ true → Above (form a) (form b)
  unfolding climbs
  climbs_above zero a b e = above_same (form a) (form b) (shapes.same_form map program formed a b e)
  climbs_above (suc n) a b e =
      or_either (same_at map a b) (holds_of (base_of (shape_at map (target map 201 a))) (λ c. climbs map n c b)) e (Above (form a) (form b))
      (λ e. above_same (form a) (form b) (shapes.same_form map program formed a b e))
      (λ e. by (base_of (shape_at map (target map 201 a))) refl e (λ c up. climbs_above n c b up))
    where
      by : (o : Option TypeRef) → base_of (shape_at map (target map 201 a)) ≡ o → holds_of o (λ c. climbs map n c b) ≡ true → ((c : TypeRef) → climbs map n c b ≡ true → Above (form c) (form b)) → Above (form a) (form b)
      by None is e r = absurd cc
      by (Some c) is e r =
          let h = finds.has_base (shape map a) c is in
          let s = shapes.shaped map program formed a (desc.Record h.0) h.1 in
          above_on (form a) (form c) (form b) (subst (λ t. Above t (form c)) (sym s.form) (base_above s.q h.0 c (formed.records s.q h.0 s.has) h.2)) (r c e)

  -- what extends a type is a record or a pointer like it
  pub data Extended (a b : TypeRef) : Type 0 where
    above : Above (form a) (form b) → Extended a b
    through : (s t : TypeRef) → pointed map a ≡ Some s → pointed map b ≡ Some t → Above (form s) (form t) → Extended a b

  pub extends_form : (a b : TypeRef) → extends_at map a b ≡ true → Extended a b
  unfolding extends_at
  extends_form a b e =
      or_either (climbs map 201 a b) (both (λ s t. climbs map 201 s t) (pointed map a) (pointed map b)) e (Extended a b)
      (λ e. above (climbs_above 201 a b e))
      (λ e. by (pointed map a) (pointed map b) refl refl e)
    where
      by : (x y : Option TypeRef) → pointed map a ≡ x → pointed map b ≡ y → both (λ s t. climbs map 201 s t) x y ≡ true → Extended a b
      by None None ea eb e = absurd cc
      by None (Some t) ea eb e = absurd cc
      by (Some s) None ea eb e = absurd cc
      by (Some s) (Some t) ea eb e = through s t ea eb (climbs_above 201 s t e)

  pub scalar_same : (t u : Form) → Sub t u → Scalar u → t ≡ u
  scalar_same _ _ itself h = refl
  scalar_same _ _ (extended more gs) h = absurd h
  scalar_same _ _ (opened n) h = absurd h

  -- RECORDS

  apart : (t u : TypeRef) (q : QName) → form t ≡ PointerForm u → shapes.Recorded map program formed t q → ⊥
  apart t u q e k = absurd (wrong (sym e ∙ k.form ∙ k.is.is))
    where
      wrong : {line : List QName} {fs : Fields} → PointerForm u ≡ RecordForm line fs → ⊥
      wrong e = absurd cc

  -- a type that extends a record type can stand for it
  pub extends_records : (a b : TypeRef) (q : QName) → record_of map b ≡ Some q → extends_at map a b ≡ true → Above (form a) (form b)
  extends_records a b q k e = by (extends_form a b e)
    where
      by : Extended a b → Above (form a) (form b)
      by (above h) = h
      by (through s t ea eb h) = absurd (apart b t q (shapes.pointer_form map program formed b t eb) (shapes.record_form map program formed b q k))

  -- the name of a record type is its own
  pub named_record : (q : QName) (r : RecordDesc) → map q ≡ Some (desc.Record r) → record_of map (ref.Named q) ≡ Some q
  named_record q r e =
      let none : alias_of map (ref.Named q) ≡ None = ap target_of e in
      let is : target map 201 (ref.Named q) ≡ ref.Named q = stays map 201 (ref.Named q) none in
      ap (λ t. record_at t (shape_at map t)) is ∙ ap (λ o. record_at (ref.Named q) o) e

  pub record_above : (p q : QName) (r : RecordDesc) → map q ≡ Some (desc.Record r) → extends_record map p q ≡ true → Above (record_in program p) (record_in program q)
  record_above p q r e h = extends_records (ref.Named p) (ref.Named q) q (named_record q r e) h

  -- the record type of a guard or a test extends the static one
  pub test_ok : (p q : QName) (r s : RecordDesc) → map p ≡ Some (desc.Record r) → map q ≡ Some (desc.Record s) → extends_record map q p ≡ true → TestOk program q (record_in program p)
  test_ok p q r s ep eq e = (shapes.record_type map program formed q s (formed.records q s eq), (record_above q p r ep e).sub)

  -- SCALARS

  module _ (Has : Formals → QName → Type 0) (unit : List ℕ) (held : List Held) (result : Option TypeRef) where
    -- an extension of a pointer widens to it
    pub extends_widens : (a b : TypeRef) → Scalar (form b) → extends_at map a b ≡ true → Widens program Has unit held result (form a) (form b)
    extends_widens a b h e = by (extends_form a b e)
      where
        by : Extended a b → Widens program Has unit held result (form a) (form b)
        by (above k) = subst (λ t. Widens program Has unit held result t (form b)) (sym (scalar_same (form a) (form b) k.sub h)) widens_itself
        by (through s t ea eb k) =
            let one = shapes.pointer_form map program formed a s ea in
            let two = shapes.pointer_form map program formed b t eb in
            subst (λ x. Widens program Has unit held result x (form b)) (sym one) (subst (λ y. Widens program Has unit held result (PointerForm s) y) (sym two) (pointers s t (λ x l. sub_on l k.sub) k.lengths))
