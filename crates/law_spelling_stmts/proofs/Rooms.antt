-- A string that is passed by value leaves room for its 0X.
use Rattle.std.proofs.Common.{◌≡◌, ◌<◌, ℕ, List, [], ◌∷◌, Option, Some, None, Bool, true, false, refl, sym, ap, ◌∙◌, subst, inl, inr}
use Rattle.std.specs.Prelude.{◌⊎◌, ◌&&◌, ◌||◌, not, nat_eq, length, is_some}
use Rattle.ob_tree.specs.declared.names.QName.{QName}
use Rattle.ob_types.specs.declared.types.Basic.{Basic}
use Rattle.ob_types.specs.declared.types.Basic.TheVariants as basic
use Rattle.ob_types.specs.declared.types.Mode.TheVariants as mode
use Rattle.ob_types.specs.declared.types.TypeRef.{TypeRef}
use Rattle.ob_types.specs.declared.types.TypeRef.TheVariants as ref
use Rattle.ob_types.specs.declared.value.Value.{Value}
use Rattle.ob_types.specs.declared.value.Value.TheVariants as literal
use Rattle.ob_types.specs.declared.typed.Passing.{Passing}
use Rattle.ob_types.specs.declared.typed.Passing.TheVariants as passing
use Rattle.ob_types.specs.declared.typed.TypedExpr.TheVariants as e
use Rattle.ob_types.specs.TypedSyntax.{Expr, Constant}
use Rattle.ob_types.specs.TypedView.{expr_view}
use Rattle.ob_types.proofs.TypedViews.{view_constant, view_value_of}
use Rattle.ob_types.specs.Relations.{is_open as is_open_desc}
use Rattle.ob_types.specs.Assigning.{is_extensible}
use Rattle.ob_types.specs.Tests.{target, shape_at, same_at, type_eq, climbs, extends_at, both, pointer_of}
use Rattle.ob_types.specs.AssigningTests.{is_at, widens, takes_type, takes_text, takes_constant}
use Rattle.ob_rules.specs.declared.values.Valued.{Valued}
use Rattle.ob_rules.specs.declared.values.Valued.TheVariants as valued
use Rattle.ob_rules.specs.Shapes.{Map, record_at, array_at, open_element, is_open, is_structured, by_value, passing_of}
use Rattle.ob_rules.specs.Calls.{takes_value, tree_for}
use Rattle.law_spelling_stmts.specs.Fits.{PassedFits}
use Rattle.law_spelling_stmts.proofs.Setting.{Setting, NoText, ValuedOk}

false_true : {B : Type 0} → false ≡ true → B
false_true {B} e = absurd cc

named_basic : {B : Type 0} (p : QName) (b : Basic) → ref.Named p ≡ ref.Basic b → B
named_basic {B} p b e = absurd cc

or_true : (a b : Bool) → (a || b) ≡ true → (a ≡ true) ⊎ (b ≡ true)
or_true true b e = inl refl
or_true false b e = inr e

and_true : (a b : Bool) → (a && b) ≡ true → b ≡ true
and_true true b e = e
and_true false b e = false_true e

module _ (words : TypeRef → ℕ) (f : Map) (room : (t : TypeRef) (n : ℕ) → takes_text f t n ≡ true → n < words t) where
  -- ---- no array and no record takes a character alone

  none_both : (o : Option TypeRef) (g : TypeRef → TypeRef → Bool) → both g None o ≡ false
  none_both None g = refl
  none_both (Some t) g = refl

  char_extends : (t : TypeRef) (q : QName) → target f 201 t ≡ ref.Named q → extends_at f (ref.Basic basic.Char) t ≡ false
  unfolding extends_at climbs same_at target
  char_extends t q e =
      ap (λ u. (type_eq (ref.Basic basic.Char) u || false) || both (λ s t. climbs f 201 s t) None (pointer_of (shape_at f (target f 201 t)))) e
      ∙ none_both (pointer_of (shape_at f (target f 201 t))) (λ s t. climbs f 201 s t)

  and_false : (a b : Bool) → b ≡ false → (a && b) ≡ false
  and_false true b e = e
  and_false false b e = refl

  char_taken : (t : TypeRef) (q : QName) → target f 201 t ≡ ref.Named q → takes_type f t (ref.Basic basic.Char) ≡ false
  unfolding takes_type same_at target
  char_taken t q e =
      ap (λ u. (type_eq (ref.Basic basic.Char) u && not (is_at f is_open_desc t)) || (widens u (ref.Basic basic.Char) || (is_at f is_extensible t && extends_at f (ref.Basic basic.Char) t))) e
      ∙ and_false (is_at f is_extensible t) (extends_at f (ref.Basic basic.Char) t) (char_extends t q e)

  -- what is structured has a name
  structured_named : (u : TypeRef) → (is_some (array_at (shape_at f u)) || is_some (record_at u (shape_at f u))) ≡ true → (q : QName) × (u ≡ ref.Named q)
  structured_named (ref.Basic b) e = false_true e
  structured_named (ref.Named q) e = (q, refl)

  -- ---- values that are passed

  room_no : (how : Passing) (x : Expr) (t : TypeRef) → NoText x → PassedFits words how t x
  room_no passing.Structure (Constant (literal.Str s)) t h = absurd h
  room_no how x t h = tt

  str_room : (t : TypeRef) (s : List ℕ) → is_structured f t ≡ true → takes_constant f t (literal.Str s) ≡ true → length s < words t
  str_room t s st e = by (or_true (takes_text f t (length s)) (nat_eq (length s) 1 && takes_type f t (ref.Basic basic.Char)) e)
    where
      by : (takes_text f t (length s) ≡ true) ⊎ ((nat_eq (length s) 1 && takes_type f t (ref.Basic basic.Char)) ≡ true) → length s < words t
      by (inl h) = room t (length s) h
      by (inr h) = let q = structured_named (target f 201 t) st in false_true (sym (char_taken t q.0 q.1) ∙ and_true (nat_eq (length s) 1) (takes_type f t (ref.Basic basic.Char)) h)

  chr_room : (t : TypeRef) (c : ℕ) → is_structured f t ≡ true → takes_constant f t (literal.Char c) ≡ true → 1 < words t
  chr_room t c st e = by (or_true (takes_text f t 1) (takes_type f t (ref.Basic basic.Char)) e)
    where
      by : (takes_text f t 1 ≡ true) ⊎ (takes_type f t (ref.Basic basic.Char) ≡ true) → 1 < words t
      by (inl h) = room t 1 h
      by (inr h) = let q = structured_named (target f 201 t) st in false_true (sym (char_taken t q.0 q.1) ∙ h)

  -- a constant as it is passed
  constant_passed : (v : Value) (t : TypeRef) (b : Bool) → is_structured f t ≡ true → takes_constant f t v ≡ true → PassedFits words passing.Structure t (expr_view (tree_for b (valued.Constant v)))
  constant_passed (literal.Str s) t true st e = subst (λ x. PassedFits words passing.Structure t x) (sym (view_constant (literal.Str s))) (str_room t s st e)
  constant_passed (literal.Str s) t false st e = subst (λ x. PassedFits words passing.Structure t x) (sym (view_constant (literal.Str s))) (str_room t s st e)
  constant_passed (literal.Char c) t true st e = subst (λ x. PassedFits words passing.Structure t x) (sym (view_constant (literal.Str (c ∷ [])))) (chr_room t c st e)
  constant_passed (literal.Char c) t false st e = subst (λ x. PassedFits words passing.Structure t x) (sym (view_constant (literal.Char c))) tt
  constant_passed (literal.Bool c) t true st e = subst (λ x. PassedFits words passing.Structure t x) (sym (view_constant (literal.Bool c))) tt
  constant_passed (literal.Bool c) t false st e = subst (λ x. PassedFits words passing.Structure t x) (sym (view_constant (literal.Bool c))) tt
  constant_passed (literal.Int z) t true st e = subst (λ x. PassedFits words passing.Structure t x) (sym (view_constant (literal.Int z))) tt
  constant_passed (literal.Int z) t false st e = subst (λ x. PassedFits words passing.Structure t x) (sym (view_constant (literal.Int z))) tt
  constant_passed (literal.Set s) t true st e = subst (λ x. PassedFits words passing.Structure t x) (sym (view_constant (literal.Set s))) tt
  constant_passed (literal.Set s) t false st e = subst (λ x. PassedFits words passing.Structure t x) (sym (view_constant (literal.Set s))) tt
  constant_passed literal.Nil t true st e = subst (λ x. PassedFits words passing.Structure t x) (sym (view_constant literal.Nil)) tt
  constant_passed literal.Nil t false st e = subst (λ x. PassedFits words passing.Structure t x) (sym (view_constant literal.Nil)) tt

  none_open : (o : Option TypeRef) → is_some o ≡ false → o ≡ None
  none_open None e = refl
  none_open (Some t) e = absurd cc

  constant_by : (v : Value) (t : TypeRef) (b o structured : Bool) → is_open f t ≡ o → is_structured f t ≡ structured → takes_value f (open_element f t) t (valued.Constant v) ≡ true → PassedFits words (by_value o structured) t (expr_view (tree_for b (valued.Constant v)))
  constant_by v t b true structured i j e = tt
  constant_by v t b false true i j e = constant_passed v t b j (sym (ap (λ o. takes_value f o t (valued.Constant v)) (none_open (open_element f t) i)) ∙ e)
  constant_by v t b false false i j e = tt

  -- A VALUE THAT IS PASSED
  pub value_room : (k : Setting) (x : Valued) (t : TypeRef) (b : Bool) → ValuedOk k x → takes_value f (open_element f t) t x ≡ true → PassedFits words (passing_of f mode.Value t) t (expr_view (tree_for b x))
  value_room k (valued.Constant v) t b h i = constant_by v t b (is_open f t) (is_structured f t) refl refl i
  value_room k (valued.Place p) t true h i = room_no (passing_of f mode.Value t) (expr_view (e.Designator p.designator.inner)) t (subst NoText (sym (view_value_of p.designator.inner)) tt)
  value_room k (valued.Place p) t false h i = room_no (passing_of f mode.Value t) (expr_view (e.Designator p.designator.inner)) t (subst NoText (sym (view_value_of p.designator.inner)) tt)
  value_room k (valued.Node n) t true h i = room_no (passing_of f mode.Value t) (expr_view n.tree.inner) t h.1
  value_room k (valued.Node n) t false h i = room_no (passing_of f mode.Value t) (expr_view n.tree.inner) t h.1
