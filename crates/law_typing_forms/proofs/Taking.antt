-- What a variable takes, by the forms of types.
use Rattle.std.proofs.Common.{◌≡◌, ◌⊎◌, inl, inr, ℕ, ◌<◌, List, ◌∷◌, Option, Some, None, refl, sym, ap, subst, ◌∙◌, arith}
use Rattle.std.proofs.lemmas.Bool.Decides.{nat_tests}
use Rattle.std.specs.Prelude.{true, not, ◌&&◌, ◌||◌, nat_lt}
use Rattle.ob_tree.specs.declared.names.QName.{QName}
use Rattle.ob_types.specs.declared.types.Basic.{Basic}
use Rattle.ob_types.specs.declared.types.Basic.TheVariants as basic
use Rattle.ob_types.specs.declared.types.TypeRef.{TypeRef}
use Rattle.ob_types.specs.declared.types.TypeRef.TheVariants as ref
use Rattle.ob_types.specs.declared.desc.Desc.{Desc}
use Rattle.ob_types.specs.declared.desc.Desc.TheVariants as desc
use Rattle.ob_types.specs.declared.typed.Width.{Width}
use Rattle.ob_types.specs.declared.typed.Width.TheVariants as width
use Rattle.ob_types.specs.Tests.{target, same_at, extends_at}
use Rattle.ob_types.specs.Assigning.{includes, is_extensible}
use Rattle.ob_types.specs.AssigningTests.{is_at, widens, takes_type, has_room, takes_text}
use Rattle.ob_types.specs.Relations as relations
use Rattle.ob_types.proofs.Sameness.{type_eq_decides}
use Rattle.ob_meaning.specs.Values.{Program, Form, BasicForm, ArrayForm, OpenForm, form_in, record_in, Formals, Held}
use Rattle.law_simulation_relation.specs.Relation.{IsLength, Sub, itself, Scalar}
use Rattle.law_simulation_relation.specs.Typed as typed
use Rattle.law_simulation_relation.specs.Typed.{Widens, Within, short, shorter, middle, integer, char, IsArrayOf, IsText, IsRecordForm}
use Rattle.ob_rules.specs.Shapes.{shape, same_basic, is_this, is_basic, basic_of, width_of, record_of, array_of, element_is, is_char_array}
use Rattle.ob_rules.specs.Calls.{both_records, takes_variable}
use Rattle.law_typing_forms.specs.Formed.{IsDeclared, Formed}
use Rattle.law_typing_forms.proofs.Finds as finds
use Rattle.law_typing_forms.proofs.Shapes as shapes
use Rattle.law_typing_forms.proofs.Extending as extending
use Rattle.law_typing_forms.proofs.Extending.{Above}
use Rattle.law_lists.proofs.Lists.{and_parts, or_either}

basic_same : (a b : Basic) → same_basic a b ≡ true → a ≡ b
basic_same a b e =
    let h : ref.Basic a ≡ ref.Basic b = (type_eq_decides (ref.Basic a) (ref.Basic b)).0 e in
    cc

module _ (map : QName → Option Desc) (program : Program) (formed : Formed map program) where
  abbrev form : TypeRef → Form
  form = form_in program

  -- BASIC TYPES

  pub this_form : (b : Basic) (t : TypeRef) → is_basic map b t ≡ true → form t ≡ BasicForm b
  this_form b t e = by (basic_of map t) refl e
    where
      by : (o : Option Basic) → basic_of map t ≡ o → is_this b o ≡ true → form t ≡ BasicForm b
      by None is e = absurd cc
      by (Some c) is e = shapes.basic_form map program formed t c is ∙ ap (λ x. BasicForm x) (sym (basic_same b c e))

  pub width_form : (t : TypeRef) (w : Width) → width_of (basic_of map t) ≡ Some w → form t ≡ integer w
  width_form t w e = by (basic_of map t) refl e
    where
      so : (c : Basic) (v : Width) → basic_of map t ≡ Some c → BasicForm c ≡ integer v → Some v ≡ Some w → form t ≡ integer w
      so c v is k e = let h : v ≡ w = cc in shapes.basic_form map program formed t c is ∙ k ∙ ap integer h

      by : (o : Option Basic) → basic_of map t ≡ o → width_of o ≡ Some w → form t ≡ integer w
      by None is e = absurd cc
      by (Some basic.Boolean) is e = absurd cc
      by (Some basic.Char) is e = absurd cc
      by (Some basic.Set) is e = absurd cc
      by (Some basic.ShortInt) is e = so basic.ShortInt width.ShortInt is refl e
      by (Some basic.Integer) is e = so basic.Integer width.Integer is refl e
      by (Some basic.LongInt) is e = so basic.LongInt width.LongInt is refl e

  -- ARRAYS

  pub array_length : (t : TypeRef) (n : ℕ) (u : TypeRef) → array_of map t ≡ Some (Some n, u) → IsLength n
  array_length t n u e =
      let h = finds.is_array (shape map t) n u e in
      let s = shapes.shaped map program formed t (desc.Array h.0 n u) h.1 in
      formed.lengths s.q h.0 n u s.has

  pub element_form : (t e : TypeRef) → IsDeclared t → element_is map e (array_of map t) ≡ true → IsArrayOf (form t) (form e)
  element_form t e d h = by (array_of map t) refl h
    where
      by : (o : Option (Option ℕ × TypeRef)) → array_of map t ≡ o → element_is map e o ≡ true → IsArrayOf (form t) (form e)
      by None is h = absurd cc
      by (Some (None, u)) is h = inl (shapes.open_array_form map program formed t u d is ∙ ap (λ x. OpenForm x) (shapes.same_form map program formed u e h))
      by (Some (Some n, u)) is h = inr (n, shapes.array_form map program formed t n u is ∙ ap (λ x. ArrayForm n x) (shapes.same_form map program formed u e h))

  pub char_form : form (ref.Basic basic.Char) ≡ char
  char_form = shapes.basic_is program basic.Char

  -- a string or a character constant, as an array of more characters
  pub room_form : (v : TypeRef) (k : ℕ) → takes_text map v k ≡ true → (n : ℕ) × (form v ≡ ArrayForm n char) × (k < n)
  unfolding takes_text
  room_form v k e = by (shape map v) refl e
    where
      by : (o : Option Desc) → shape map v ≡ o → has_room map o k ≡ true → (n : ℕ) × (form v ≡ ArrayForm n char) × (k < n)
      by None is e = absurd cc
      by (Some (desc.Const c)) is e = absurd cc
      by (Some (desc.Var m t)) is e = absurd cc
      by (Some (desc.Proc s)) is e = absurd cc
      by (Some (desc.Alias m t)) is e = absurd cc
      by (Some (desc.Array m n t)) is e =
          let h = and_parts (nat_lt k n) (same_at map t (ref.Basic basic.Char)) e in
          let s = shapes.shaped map program formed v (desc.Array m n t) is in
          let lt : nat_lt k n ≡ true = h.0 in
          (n, s.form ∙ formed.arrays s.q m n t s.has ∙ ap (λ x. ArrayForm n x) (shapes.same_form map program formed t (ref.Basic basic.Char) h.1 ∙ char_form), grind (arith, nat_tests))
      by (Some (desc.OpenArray m t)) is e = absurd cc
      by (Some (desc.Pointer m t)) is e = absurd cc
      by (Some (desc.ProcType m s)) is e = absurd cc
      by (Some (desc.Record r)) is e = absurd cc

  -- VARIABLES

  module _ (Has : Formals → QName → Type 0) (unit : List ℕ) (held : List Held) (result : Option TypeRef) where
    abbrev W : Form → Form → Type 0
    W = Widens program Has unit held result

    -- arrays of characters, open or of a length
    pub text_form : (t : TypeRef) → IsDeclared t → is_char_array map t ≡ true → IsText program Has unit held result (form t)
    text_form t d h = by (element_form t (ref.Basic basic.Char) d h)
      where
        by : IsArrayOf (form t) (form (ref.Basic basic.Char)) → IsText program Has unit held result (form t)
        by (inl e) = subst (IsText program Has unit held result) (sym e) char_form
        by (inr (n, e)) = subst (IsText program Has unit held result) (sym e) char_form

    pub widens_scalar : (t u : Form) → W t u → Scalar u → Scalar t
    widens_scalar _ _ typed.itself h = h
    widens_scalar _ _ (typed.integers v w i) h = tt
    widens_scalar _ _ (typed.pointers t u f g) h = tt
    widens_scalar _ _ (typed.procedures s t f) h = tt

    widens_basic : (a b : Basic) → includes b a ≡ true → W (BasicForm a) (BasicForm b)
    widens_basic basic.Boolean basic.Boolean e = absurd cc
    widens_basic basic.Char basic.Boolean e = absurd cc
    widens_basic basic.ShortInt basic.Boolean e = absurd cc
    widens_basic basic.Integer basic.Boolean e = absurd cc
    widens_basic basic.LongInt basic.Boolean e = absurd cc
    widens_basic basic.Set basic.Boolean e = absurd cc
    widens_basic basic.Boolean basic.Char e = absurd cc
    widens_basic basic.Char basic.Char e = absurd cc
    widens_basic basic.ShortInt basic.Char e = absurd cc
    widens_basic basic.Integer basic.Char e = absurd cc
    widens_basic basic.LongInt basic.Char e = absurd cc
    widens_basic basic.Set basic.Char e = absurd cc
    widens_basic basic.Boolean basic.ShortInt e = absurd cc
    widens_basic basic.Char basic.ShortInt e = absurd cc
    widens_basic basic.ShortInt basic.ShortInt e = absurd cc
    widens_basic basic.Integer basic.ShortInt e = absurd cc
    widens_basic basic.LongInt basic.ShortInt e = absurd cc
    widens_basic basic.Set basic.ShortInt e = absurd cc
    widens_basic basic.Boolean basic.Integer e = absurd cc
    widens_basic basic.Char basic.Integer e = absurd cc
    widens_basic basic.ShortInt basic.Integer e = typed.integers width.ShortInt width.Integer short
    widens_basic basic.Integer basic.Integer e = absurd cc
    widens_basic basic.LongInt basic.Integer e = absurd cc
    widens_basic basic.Set basic.Integer e = absurd cc
    widens_basic basic.Boolean basic.LongInt e = absurd cc
    widens_basic basic.Char basic.LongInt e = absurd cc
    widens_basic basic.ShortInt basic.LongInt e = typed.integers width.ShortInt width.LongInt shorter
    widens_basic basic.Integer basic.LongInt e = typed.integers width.Integer width.LongInt middle
    widens_basic basic.LongInt basic.LongInt e = absurd cc
    widens_basic basic.Set basic.LongInt e = absurd cc
    widens_basic basic.Boolean basic.Set e = absurd cc
    widens_basic basic.Char basic.Set e = absurd cc
    widens_basic basic.ShortInt basic.Set e = absurd cc
    widens_basic basic.Integer basic.Set e = absurd cc
    widens_basic basic.LongInt basic.Set e = absurd cc
    widens_basic basic.Set basic.Set e = absurd cc

    widened : (v t : TypeRef) → widens (target map 201 v) (target map 201 t) ≡ true → Scalar (form v) × W (form t) (form v)
    widened v t e = by (target map 201 v) (target map 201 t) refl refl e
      where
        by : (x y : TypeRef) → target map 201 v ≡ x → target map 201 t ≡ y → widens x y ≡ true → Scalar (form v) × W (form t) (form v)
        by (ref.Named q) y ex ey e = absurd cc
        by (ref.Basic b) (ref.Named q) ex ey e = absurd cc
        by (ref.Basic b) (ref.Basic a) ex ey e =
            let fv : form v ≡ BasicForm b = sym (shapes.target_form map program formed 201 v) ∙ ap form ex ∙ shapes.basic_is program b in
            let ft : form t ≡ BasicForm a = sym (shapes.target_form map program formed 201 t) ∙ ap form ey ∙ shapes.basic_is program a in
            (subst Scalar (sym fv) tt, subst (λ x. W x (form v)) (sym ft) (subst (λ x. W (BasicForm a) x) (sym fv) (widens_basic a b e)))

    -- a variable of a scalar type takes what widens to it
    pub scalar_takes : (v t : TypeRef) → takes_type map v t ≡ true → Scalar (form v) → Scalar (form t) × W (form t) (form v)
    unfolding takes_type
    scalar_takes v t e h =
        or_either (same_at map t v && not (is_at map relations.is_open v)) (widens (target map 201 v) (target map 201 t) || (is_at map is_extensible v && extends_at map t v)) e (Scalar (form t) × W (form t) (form v))
        (λ e. let k = shapes.same_form map program formed t v (and_parts (same_at map t v) (not (is_at map relations.is_open v)) e).0 in both (subst (λ x. W x (form v)) (sym k) typed.itself))
        (λ e. or_either (widens (target map 201 v) (target map 201 t)) (is_at map is_extensible v && extends_at map t v) e (Scalar (form t) × W (form t) (form v))
        (λ e. both (widened v t e).1)
        (λ e. both (extending.extends_widens map program formed Has unit held result t v h (and_parts (is_at map is_extensible v) (extends_at map t v) e).1)))
      where
        both : W (form t) (form v) → Scalar (form t) × W (form t) (form v)
        both w = (widens_scalar (form t) (form v) w h, w)

    -- any other variable takes what can stand for it
    pub takes_sub : (v t : TypeRef) → takes_type map v t ≡ true → Sub (form t) (form v) ⊎ Scalar (form v)
    unfolding takes_type
    takes_sub v t e =
        or_either (same_at map t v && not (is_at map relations.is_open v)) (widens (target map 201 v) (target map 201 t) || (is_at map is_extensible v && extends_at map t v)) e (Sub (form t) (form v) ⊎ Scalar (form v))
        (λ e. let k = shapes.same_form map program formed t v (and_parts (same_at map t v) (not (is_at map relations.is_open v)) e).0 in inl (subst (λ x. Sub x (form v)) (sym k) itself))
        (λ e. or_either (widens (target map 201 v) (target map 201 t)) (is_at map is_extensible v && extends_at map t v) e (Sub (form t) (form v) ⊎ Scalar (form v))
        (λ e. inr (widened v t e).0)
        (λ e. by (extending.extends_form map program formed t v (and_parts (is_at map is_extensible v) (extends_at map t v) e).1)))
      where
        by : extending.Extended map program formed t v → Sub (form t) (form v) ⊎ Scalar (form v)
        by (extending.above k) = inl k.sub
        by (extending.through a b ea eb k) = inr (subst Scalar (sym (shapes.pointer_form map program formed v b eb)) tt)

  -- PARAMETERS BY VAR

  -- what a parameter by VAR of a type takes that is no open array: a variable of the same form, or one of an extension of a record type
  pub data Referrable (t p : TypeRef) : Type 0 where
    same : form p ≡ form t → Referrable t p
    record_extends : (a b : QName) → record_of map p ≡ Some a → record_of map t ≡ Some b → Above (form p) (form t) → Referrable t p

  pub referred_form : (t p : TypeRef) → takes_variable map None t p ≡ true → Referrable t p
  referred_form t p e =
      or_either (same_at map p t) (both_records map (record_of map p) (record_of map t)) e (Referrable t p)
      (λ e. same (shapes.same_form map program formed p t e))
      (λ e. by (record_of map p) (record_of map t) refl refl e)
    where
      by : (x y : Option QName) → record_of map p ≡ x → record_of map t ≡ y → both_records map x y ≡ true → Referrable t p
      by None y ex ey e = absurd cc
      by (Some a) None ex ey e = absurd cc
      by (Some a) (Some b) ex ey e =
          let ra = shapes.record_form map program formed p a ex in
          let rb = shapes.record_form map program formed t b ey in
          let k = extending.record_above map program formed a b rb.r rb.has e in
          record_extends a b ex ey (subst (λ x. Above x (form t)) (sym ra.form) (subst (λ x. Above (record_in program a) x) (sym rb.form) k))

  -- a record type has the form of one
  pub is_record_form : (t : TypeRef) (q : QName) → record_of map t ≡ Some q → IsRecordForm (form t)
  is_record_form t q e =
      let k = shapes.record_form map program formed t q e in
      let h = shapes.record_type map program formed q k.r k.is in
      subst IsRecordForm (sym k.form) (q ∷ h.0, h.1)
