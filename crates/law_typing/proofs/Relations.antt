-- Relations between operands that are well typed.
use Rattle.std.proofs.Common.{◌≡◌, ◌⊎◌, inl, inr, ⊎_elim, refl, sym, ap, ◌∙◌, subst, ℕ, List, [], ◌∷◌, Option, Some, None, Bool, true, false}
use Rattle.std.specs.Prelude.{◌&&◌, ◌||◌, is_some}
use Rattle.ob_tree.specs.declared.pos.Pos.{Pos}
use Rattle.ob_tree.specs.declared.names.QName.{QName}
use Rattle.ob_tree.specs.declared.expr.Relation.{Relation}
use Rattle.ob_types.specs.declared.types.Basic.{Basic}
use Rattle.ob_types.specs.declared.types.Basic.TheVariants as basic
use Rattle.ob_types.specs.declared.types.TypeRef.{TypeRef}
use Rattle.ob_types.specs.declared.types.TypeRef.TheVariants as ref
use Rattle.ob_types.specs.declared.types.Signature.{Signature}
use Rattle.ob_types.specs.declared.typed.Width.{Width}
use Rattle.ob_types.specs.declared.typed.Width.TheVariants as width
use Rattle.ob_types.specs.declared.value.Value.{Value as Literal}
use Rattle.ob_types.specs.declared.value.Value.TheVariants as literal
use Rattle.ob_types.specs.declared.typed.Binary.TheVariants as binary
use Rattle.ob_types.specs.declared.typed.Comparison.{Comparison}
use Rattle.ob_types.specs.declared.typed.Comparison.TheVariants as comparison
use Rattle.ob_types.specs.declared.typed.Compared.{Compared}
use Rattle.ob_types.specs.declared.typed.Compared.TheVariants as compared
use Rattle.ob_types.specs.declared.typed.TypedExpr.TheVariants as e
use Rattle.ob_types.specs.declared.typed.ExprType.{ExprType}
use Rattle.ob_types.specs.declared.typed.ExprType.TheVariants as kind
use Rattle.ob_types.specs.Tests.{shape_at, pointer_of, signature_of}
use Rattle.ob_types.specs.TypedSyntax.{Expr, CompareTexts}
use Rattle.ob_types.specs.TypedKinds.{of_basic, constant_type}
use Rattle.ob_types.specs.TypedView.{designator_view, expr_view}
use Rattle.ob_types.proofs.TypedViews.{view_constant, view_value_of, view_compare_texts}
use Rattle.ob_meaning.specs.Values.{Program, Form, BasicForm, PointerForm, ProcedureForm, ArrayForm, OpenForm, form_in, Formals, formals_in, Held}
use Rattle.law_simulation_relation.specs.Relation.{Scalar}
use Rattle.law_simulation_relation.specs.Typed as typed
use Rattle.law_simulation_relation.specs.Typed.{longint, boolean, char, set, integer, IsEquality}
use Rattle.ob_rules.specs.declared.values.Valued.{Valued}
use Rattle.ob_rules.specs.declared.values.Valued.TheVariants as valued
use Rattle.ob_rules.specs.Shapes.{Map, pointed, signature_at, array_of, array_at, is_char_array, element_is}
use Rattle.ob_rules.specs.Constants.{fold_texts}
use Rattle.ob_rules.specs.Values.{is, width as width_at, is_integer, tree, type, type_in, computed, text_tree, is_chars, is_nil, points, signature}
use Rattle.ob_rules.specs.Operators.{texts, integers, wider_of, are, comparison_of, is_equality, is_text, extends_either, signatures_match, are_pointers, are_procedures, choose, chosen, compared_as, compare_as, contained, compare, related}
use Rattle.law_typing.specs.Makes.{IfThere, Makes}
use Rattle.law_typing.specs.Forms.{IsDeclared, ArrayIs, Forms}
use Rattle.law_typing.specs.Kept.{NodeIs, ValuedIs}
use Rattle.law_typing.proofs.Makes.{Each}
use Rattle.law_typing.proofs.Constants.{fold_texts_is}
use Rattle.law_typing.proofs.Basics.{form_basic, target_basic, not_true, number_type, smallest_of, within_long}
use Rattle.law_typing.proofs.Values.{Fits, W, place_fits, shown_place, shown_constant, width_fits, basic_fits, basic_node}
use Rattle.law_typing.proofs.Operators.{Operands, and_is, two_is, dyadic_is, both_are}
use Rattle.law_typing.proofs.Designators.{form_is, long_fits}
use Rattle.law_lists.proofs.Lists.{none_some, some_same}

pub some_of : {A : Type 0} (o : Option A) → is_some o ≡ true → (x : A) × (o ≡ Some x)
some_of None e = not_true e
some_of (Some x) e = (x, refl)

pub or_is : (a b : Bool) → a || b ≡ true → (a ≡ true) ⊎ (b ≡ true)
or_is true b e = inl refl
or_is false b e = inr e

three_are : (a b c : Bool) → a && b && c ≡ true → (a ≡ true) × (b ≡ true) × (c ≡ true)
three_are true true true e = (refl, refl, refl)
three_are true true false e = not_true e
three_are true false true e = not_true e
three_are true false false e = not_true e
three_are false true c e = not_true e
three_are false false c e = not_true e

one_is : (a b c : Bool) → a || b || c ≡ true → (a ≡ true) ⊎ ((b ≡ true) ⊎ (c ≡ true))
one_is true b c e = inl refl
one_is false true c e = inr (inl refl)
one_is false false true e = inr (inr refl)
one_is false false false e = not_true e

pub pointed_basic : (map : Map) (b : Basic) → pointed map (ref.Basic b) ≡ None
pointed_basic map b = ap (λ t. pointer_of (shape_at map t)) (target_basic map b)

pub signature_basic : (map : Map) (b : Basic) → signature_at map (ref.Basic b) ≡ None
signature_basic map b = ap (λ t. signature_of (shape_at map t)) (target_basic map b)

pub array_basic : (map : Map) (b : Basic) → array_of map (ref.Basic b) ≡ None
array_basic map b = ap (λ t. array_at (shape_at map t)) (target_basic map b)

-- the type of a constant with a name is basic
pub constant_of_basic : (c : Literal) (t : TypeRef) → type_in (constant_type c) ≡ Some t → (b : Basic) × (t ≡ ref.Basic b)
constant_of_basic (literal.Bool b) t e = (basic.Boolean, sym (some_same e))
constant_of_basic (literal.Char c) t e = (basic.Char, sym (some_same e))
constant_of_basic (literal.Int z) t e = (typed.basic_of (smallest_of z), sym (some_same (sym (ap type_in (number_type z)) ∙ e)))
constant_of_basic (literal.Set n) t e = (basic.Set, sym (some_same e))
constant_of_basic (literal.Str text) t e = none_some e
constant_of_basic literal.Nil t e = none_some e

pub equality_is : (r : Comparison) → is_equality r ≡ true → IsEquality r
equality_is comparison.Equal e = tt
equality_is comparison.NotEqual e = tt
equality_is comparison.Less e = not_true e
equality_is comparison.LessEqual e = not_true e
equality_is comparison.Greater e = not_true e
equality_is comparison.GreaterEqual e = not_true e

choose_is : {A : Type 0} (P : A → Type 0) (b : Bool) (x : A) (rest : Option A) → (b ≡ true → P x) → IfThere P rest → IfThere P (choose b x rest)
choose_is P true x rest h k = h refl
choose_is P false x rest h k = k

chosen_is : {A : Type 0} (P : A → Type 0) (ps : List (Bool × A)) → Each (λ (p : Bool × A). p.0 ≡ true → P p.1) ps → IfThere P (chosen ps)
chosen_is P [] h = tt
chosen_is P (p ∷ ps) h = choose_is P p.0 p.1 (chosen ps) h.0 (chosen_is P ps h.1)

module _ (program : Program) (Has : Formals → QName → Type 0) (unit : List ℕ) (held : List Held) (result : Option TypeRef) (map : Map) (forms : Forms program Has unit held result map) where
  abbrev Ex : Expr → Form → Type 0
  Ex x t = Fits program Has unit held result x t

  abbrev Is : Valued → Type 0
  Is x = ValuedIs program Has unit held result map x

  -- the value of a pointer, of its type
  pub pointer_fits : (x : Valued) (t u : TypeRef) → Is x → type_in (type x) ≡ Some t → pointed map t ≡ Some u → Ex (expr_view (tree x)) (PointerForm u)
  pointer_fits (valued.Constant c) t u h e f = let b = constant_of_basic c t e in none_some (sym (ap (pointed map) b.1 ∙ pointed_basic map b.0) ∙ f)
  pointer_fits (valued.Place p) t u h e f =
      let g : form_in program p.of ≡ PointerForm u = ap (form_in program) (some_same e) ∙ (forms.pointers t u f).0 in
      shown_place program Has unit held result map forms p (PointerForm u) (place_fits program Has unit held result map forms (designator_view p.designator.inner) p.of p.var_record (PointerForm u) (PointerForm u) h g tt typed.itself)
  pointer_fits (valued.Node n) t u h e f = by n.of h e
    where
      by : (k : ExprType) → NodeIs program Has unit held result map (expr_view n.tree.inner) k → type_in k ≡ Some t → Ex (expr_view n.tree.inner) (PointerForm u)
      by (kind.Of s) h e = h.2 (PointerForm u) (subst (λ g. W program Has unit held result g (PointerForm u)) (sym (ap (form_in program) (some_same e) ∙ (forms.pointers t u f).0)) typed.itself)
      by (kind.Procedure s) h e = none_some e
      by kind.Str h e = none_some e
      by kind.Nil h e = none_some e
      by kind.Nothing h e = none_some e

  points_is : (k : ExprType) → points map k ≡ true → (t : TypeRef) × (type_in k ≡ Some t) × (u : TypeRef) × (pointed map t ≡ Some u)
  points_is (kind.Of t) e = let s = some_of (pointed map t) e in (t, refl, s.0, s.1)
  points_is (kind.Procedure s) e = not_true e
  points_is kind.Str e = not_true e
  points_is kind.Nil e = not_true e
  points_is kind.Nothing e = not_true e

  pub some_pointer : (x : Valued) → Is x → points map (type x) ≡ true → (u : TypeRef) × Ex (expr_view (tree x)) (PointerForm u)
  some_pointer x h e = let p = points_is (type x) e in (p.2, pointer_fits x p.0 p.2 h p.1 p.3)

  -- NIL fits what NIL fits
  pub nil_fits : (x : Valued) (f : Form) → Is x → is_nil (type x) ≡ true → typed.ConstantOk program Has unit held result literal.Nil f → Ex (expr_view (tree x)) f
  nil_fits (valued.Constant literal.Nil) f h e k = shown_constant program Has unit held result map forms literal.Nil f k
  nil_fits (valued.Constant (literal.Bool b)) f h e k = not_true e
  nil_fits (valued.Constant (literal.Char c)) f h e k = not_true e
  nil_fits (valued.Constant (literal.Int z)) f h e k = not_true (sym (ap is_nil (number_type z)) ∙ e)
  nil_fits (valued.Constant (literal.Set n)) f h e k = not_true e
  nil_fits (valued.Constant (literal.Str text)) f h e k = not_true e
  nil_fits (valued.Place p) f h e k = not_true e
  nil_fits (valued.Node n) f h e k = by n.of h e
    where
      by : (k : ExprType) → NodeIs program Has unit held result map (expr_view n.tree.inner) k → is_nil k ≡ true → Ex (expr_view n.tree.inner) f
      by (kind.Of t) h e = not_true e
      by (kind.Procedure s) h e = not_true e
      by kind.Str h e = absurd h
      by kind.Nil h e = absurd h
      by kind.Nothing h e = absurd h

  -- a procedure, of some signature
  pub some_procedure : (x : Valued) (s : Signature) → Is x → signature map (type x) ≡ Some s → (t : Formals) × Ex (expr_view (tree x)) (ProcedureForm t)
  some_procedure (valued.Constant c) s h r = by c r
    where
      basic_none : (b : Basic) → signature map (of_basic b) ≡ Some s → (t : Formals) × Ex (expr_view (e.Constant c)) (ProcedureForm t)
      basic_none b e = none_some (sym (signature_basic map b) ∙ e)

      by : (d : Literal) → signature map (constant_type d) ≡ Some s → (t : Formals) × Ex (expr_view (e.Constant c)) (ProcedureForm t)
      by (literal.Bool b) e = basic_none basic.Boolean e
      by (literal.Char c) e = basic_none basic.Char e
      by (literal.Int z) e = basic_none (typed.basic_of (smallest_of z)) (sym (ap (signature map) (number_type z)) ∙ e)
      by (literal.Set n) e = basic_none basic.Set e
      by (literal.Str text) e = none_some e
      by literal.Nil e = none_some e
  some_procedure (valued.Place p) s h e =
      (formals_in program s, shown_place program Has unit held result map forms p (ProcedureForm (formals_in program s)) (place_fits program Has unit held result map forms (designator_view p.designator.inner) p.of p.var_record (ProcedureForm (formals_in program s)) (ProcedureForm (formals_in program s)) h (forms.procedures p.of s e).0 tt typed.itself))
  some_procedure (valued.Node n) s h e = by n.of h e
    where
      by : (k : ExprType) → NodeIs program Has unit held result map (expr_view n.tree.inner) k → signature map k ≡ Some s → (t : Formals) × Ex (expr_view n.tree.inner) (ProcedureForm t)
      by (kind.Of t) h e = (formals_in program s, h.2 (ProcedureForm (formals_in program s)) (subst (λ g. W program Has unit held result g (ProcedureForm (formals_in program s))) (sym (forms.procedures t s e).0) typed.itself))
      by (kind.Procedure t) h e = (formals_in program t, h.1)
      by kind.Str h e = none_some e
      by kind.Nil h e = none_some e
      by kind.Nothing h e = none_some e

  -- WHAT IS COMPARED

  abbrev Compares : Comparison → Valued → Valued → Compared → Type 0
  Compares r a b c = Operands program Has unit held result (binary.Compare r c) a b

  integers_compared : (r : Comparison) (a b : Valued) → Is a → Is b → is_some (integers map a b) ≡ true → Compares r a b compared.Integer
  integers_compared r a b h k e = go (width_at map a) (width_at map b) refl refl e
    where
      go : (o p : Option Width) → width_at map a ≡ o → width_at map b ≡ p → is_some (wider_of o p) ≡ true → Compares r a b compared.Integer
      go None p f g e = not_true e
      go (Some v) None f g e = not_true e
      go (Some v) (Some w) f g e = record { u = longint; v = longint; ok = typed.integers r; left = width_fits program Has unit held result map forms a v width.LongInt h f (within_long v); right = width_fits program Has unit held result map forms b w width.LongInt k g (within_long w) }

  pointers_compared : (r : Comparison) (a b : Valued) → IsEquality r → Is a → Is b → are_pointers map a b ≡ true → Compares r a b compared.Pointer
  pointers_compared r a b q h k e =
      ⊎_elim (λ f. let p = three_are (points map (type a)) (points map (type b)) (extends_either map (type_in (type a)) (type_in (type b))) f in pair (some_pointer a h p.0) (some_pointer b k p.1))
      (λ g. ⊎_elim (λ f. let p = and_is (is_nil (type a)) (points map (type b)) f in let s = some_pointer b k p.1 in pair (s.0, nil_fits a (PointerForm s.0) h p.0 (inl (s.0, refl))) s)
      (λ f. let p = and_is (is_nil (type b)) (points map (type a)) f in let s = some_pointer a h p.1 in pair s (s.0, nil_fits b (PointerForm s.0) k p.0 (inl (s.0, refl)))) g)
      (one_is (points map (type a) && points map (type b) && extends_either map (type_in (type a)) (type_in (type b))) (is_nil (type a) && points map (type b)) (is_nil (type b) && points map (type a)) e)
    where
      pair : (t : TypeRef) × Ex (expr_view (tree a)) (PointerForm t) → (u : TypeRef) × Ex (expr_view (tree b)) (PointerForm u) → Compares r a b compared.Pointer
      pair x y = record { u = PointerForm x.0; v = PointerForm y.0; ok = typed.pointers r x.0 y.0 q; left = x.1; right = y.1 }

  matching : (o p : Option Signature) → signatures_match map o p ≡ true → (is_some o ≡ true) × (is_some p ≡ true)
  matching None p e = not_true e
  matching (Some s) None e = not_true e
  matching (Some s) (Some t) e = (refl, refl)

  procedures_compared : (r : Comparison) (a b : Valued) → IsEquality r → Is a → Is b → are_procedures map a b ≡ true → Compares r a b compared.Procedure
  procedures_compared r a b q h k e =
      ⊎_elim (λ f. let p = matching (signature map (type a)) (signature map (type b)) f in pair (held_by a h p.0) (held_by b k p.1))
      (λ g. ⊎_elim (λ f. let p = and_is (is_nil (type a)) (is_some (signature map (type b))) f in let s = held_by b k p.1 in pair (s.0, nil_fits a (ProcedureForm s.0) h p.0 (inr (s.0, refl))) s)
      (λ f. let p = and_is (is_nil (type b)) (is_some (signature map (type a))) f in let s = held_by a h p.1 in pair s (s.0, nil_fits b (ProcedureForm s.0) k p.0 (inr (s.0, refl)))) g)
      (one_is (signatures_match map (signature map (type a)) (signature map (type b))) (is_nil (type a) && is_some (signature map (type b))) (is_nil (type b) && is_some (signature map (type a))) e)
    where
      held_by : (x : Valued) → Is x → is_some (signature map (type x)) ≡ true → (t : Formals) × Ex (expr_view (tree x)) (ProcedureForm t)
      held_by x h e = let s = some_of (signature map (type x)) e in some_procedure x s.0 h s.1

      pair : (t : Formals) × Ex (expr_view (tree a)) (ProcedureForm t) → (u : Formals) × Ex (expr_view (tree b)) (ProcedureForm u) → Compares r a b compared.Procedure
      pair x y = record { u = ProcedureForm x.0; v = ProcedureForm y.0; ok = typed.procedures r x.0 y.0 q; left = x.1; right = y.1 }

  compared_is : (r : Comparison) (a b : Valued) → Is a → Is b → IfThere (Compares r a b) (compared_as map (is_equality r) a b)
  compared_is r a b h k = chosen_is (Compares r a b)
      ((is_some (integers map a b), compared.Integer) ∷ (are map basic.Char a b, compared.Char) ∷ (is_equality r && are map basic.Boolean a b, compared.Boolean) ∷ (is_equality r && are map basic.Set a b, compared.Set) ∷ (is_equality r && are_pointers map a b, compared.Pointer) ∷ (is_equality r && are_procedures map a b, compared.Procedure) ∷ []) (
      (integers_compared r a b h k, ((λ e. let p = both_are program Has unit held result map forms basic.Char a b refl h k e in record { u = char; v = char; ok = typed.chars r; left = p.0; right = p.1 }), ((λ e. let f = and_is (is_equality r) (are map basic.Boolean a b) e in let p = both_are program Has unit held result map forms basic.Boolean a b refl h k f.1 in record { u = boolean; v = boolean; ok = typed.booleans r (equality_is r f.0); left = p.0; right = p.1 }), ((λ e. let f = and_is (is_equality r) (are map basic.Set a b) e in let p = both_are program Has unit held result map forms basic.Set a b refl h k f.1 in record { u = set; v = set; ok = typed.sets r (equality_is r f.0); left = p.0; right = p.1 }), ((λ e. let f = and_is (is_equality r) (are_pointers map a b) e in pointers_compared r a b (equality_is r f.0) h k f.1), ((λ e. let f = and_is (is_equality r) (are_procedures map a b) e in procedures_compared r a b (equality_is r f.0) h k f.1), tt)))))))

  -- STRINGS AND ARRAYS OF CHARACTERS

  abbrev Text : Expr → Type 0
  Text x = typed.TextOk program Has unit held result x

  pub char_array_is : (t : TypeRef) → IsDeclared t → is_char_array map t ≡ true → typed.IsText program Has unit held result (form_in program t)
  char_array_is t d e = go (array_of map t) refl e
    where
      text_of_array : (n : Option ℕ) (u : TypeRef) → ArrayIs program map (form_in program t) n u → form_in program u ≡ char → typed.IsText program Has unit held result (form_in program t)
      text_of_array None u a f = subst (typed.IsText program Has unit held result) (sym a.0) f
      text_of_array (Some n) u a f = subst (typed.IsText program Has unit held result) (sym a.0) f

      go : (o : Option (Option ℕ × TypeRef)) → array_of map t ≡ o → element_is map (ref.Basic basic.Char) o ≡ true → typed.IsText program Has unit held result (form_in program t)
      go None f e = not_true e
      go (Some a) f e = text_of_array a.0 a.1 (forms.arrays t a.1 a.0 d f) (forms.same a.1 (ref.Basic basic.Char) e ∙ form_basic program basic.Char)

  no_text : (t : Form) → Scalar t → typed.IsText program Has unit held result t → ⊥
  no_text (BasicForm b) s x = x
  no_text (PointerForm u) s x = x
  no_text (ProcedureForm u) s x = x
  no_text (ArrayForm n u) s x = s
  no_text (OpenForm u) s x = s
  no_text t s x = x

  pub text_fits : (x : Valued) → Is x → is_text map x ≡ true → Text (expr_view (text_tree x))
  text_fits (valued.Constant (literal.Char c)) h e = subst Text (sym (view_constant (literal.Str (c ∷ [])))) (h, tt)
  text_fits (valued.Constant (literal.Str text)) h e = subst Text (sym (view_constant (literal.Str text))) h.0
  text_fits (valued.Constant (literal.Bool b)) h e = ⊎_elim (λ f. not_true (sym (ap (element_is map (ref.Basic basic.Char)) (array_basic map basic.Boolean)) ∙ f)) (λ f. not_true f) (or_is _ _ e)
  text_fits (valued.Constant (literal.Int z)) h e = ⊎_elim (λ f. not_true (sym (ap (is_chars_of map) (number_type z) ∙ ap (element_is map (ref.Basic basic.Char)) (array_basic map (typed.basic_of (smallest_of z)))) ∙ f)) (λ f. not_true f) (or_is _ _ e)
    where
      is_chars_of : Map → ExprType → Bool
      is_chars_of map (kind.Of t) = is_char_array map t
      is_chars_of map k = false
  text_fits (valued.Constant (literal.Set n)) h e = ⊎_elim (λ f. not_true (sym (ap (element_is map (ref.Basic basic.Char)) (array_basic map basic.Set)) ∙ f)) (λ f. not_true f) (or_is _ _ e)
  text_fits (valued.Constant literal.Nil) h e = not_true e
  text_fits (valued.Place p) h e =
      let d = designator_view p.designator.inner in
      let f : is_char_array map p.of ≡ true = ⊎_elim (λ f. f) (λ f. not_true f) (or_is (is_char_array map p.of) false e) in
      subst Text (sym (view_value_of p.designator.inner)) (h.fits, subst (typed.IsText program Has unit held result) (sym (form_is program Has unit held result map forms d p.of p.var_record h)) (char_array_is p.of h.declared.0 f))
  text_fits (valued.Node n) h e = by n.of h (⊎_elim (λ f. f) (λ f. not_true f) (or_is (is_chars map (valued.Node n)) false e))
    where
      by : (k : ExprType) → NodeIs program Has unit held result map (expr_view n.tree.inner) k → is_chars map (valued.Node (record n { of = k })) ≡ true → Text (expr_view n.tree.inner)
      by (kind.Of t) h e = absurd (no_text (form_in program t) h.1 (char_array_is t h.0 e))
      by (kind.Procedure s) h e = not_true e
      by kind.Str h e = absurd h
      by kind.Nil h e = absurd h
      by kind.Nothing h e = absurd h

  texts_is : (r : Comparison) (at : Pos) (a b : Valued) → Is a → Is b → Text (expr_view (text_tree a)) → Text (expr_view (text_tree b)) → Makes Is (texts r at a b)
  texts_is r at a b h k f g =
      let y = CompareTexts r (expr_view (text_tree a)) (expr_view (text_tree b)) at in
      let n : NodeIs program Has unit held result map y (of_basic basic.Boolean) = basic_node program Has unit held result map forms y basic.Boolean (λ v w. (f, (g, w))) in
      two_is program Has unit held result map forms (fold_texts r) at a b (computed (e.CompareTexts r (text_tree a) (text_tree b) at) (of_basic basic.Boolean)) h k (λ c d i j. fold_texts_is r c d) (subst (λ y. NodeIs program Has unit held result map y (of_basic basic.Boolean)) (sym (view_compare_texts r (text_tree a) (text_tree b) at)) n)

  compare_as_is : (o : Option Compared) (x : Bool) (r : Comparison) (at : Pos) (a b : Valued) → Is a → Is b → IfThere (Compares r a b) o → (x ≡ true → Text (expr_view (text_tree a)) × Text (expr_view (text_tree b))) → Makes Is (compare_as o x r at a b)
  compare_as_is (Some c) x r at a b h k f g = dyadic_is program Has unit held result map forms (binary.Compare r c) at a b h k f
  compare_as_is None true r at a b h k f g = let p = g refl in texts_is r at a b h k p.0 p.1
  compare_as_is None false r at a b h k f g = record { node = tt }

  contained_is : (x : Bool) (at : Pos) (a b : Valued) → Is a → Is b → (x ≡ true → Ex (expr_view (tree a)) longint × Ex (expr_view (tree b)) set) → Makes Is (contained x at a b)
  contained_is true at a b h k f = let p = f refl in dyadic_is program Has unit held result map forms binary.In at a b h k (record { u = longint; v = set; ok = typed.inside; left = p.0; right = p.1 })
  contained_is false at a b h k f = record { node = tt }

  compare_is : (o : Option Comparison) (at : Pos) (a b : Valued) → Is a → Is b → Makes Is (compare map o at a b)
  compare_is (Some r) at a b h k = compare_as_is (compared_as map (is_equality r) a b) (is_text map a && is_text map b) r at a b h k (compared_is r a b h k) (λ e. let f = and_is (is_text map a) (is_text map b) e in (text_fits a h f.0, text_fits b k f.1))
  compare_is None at a b h k = contained_is (is_integer map a && is map basic.Set b) at a b h k (λ e. let f = and_is (is_integer map a) (is map basic.Set b) e in (long_fits program Has unit held result map forms a h f.0, basic_fits program Has unit held result map forms b basic.Set refl k f.1))

  -- a relation, but IS
  pub related_is : (o : Relation) (at : Pos) (a b : Valued) → Is a → Is b → Makes Is (related map o at a b)
  related_is o at a b h k = compare_is (comparison_of o) at a b h k
