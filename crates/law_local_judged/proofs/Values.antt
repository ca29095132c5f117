-- What the rules ask of values, over maps that agree.
use Rattle.std.proofs.Common.{◌≡◌, refl, ap, ◌∙◌, subst, ℕ, Option, Some, None, Bool}
use Rattle.std.specs.Prelude.{◌&&◌, ◌||◌, is_some}
use Rattle.ob_tree.specs.declared.pos.Pos.{Pos}
use Rattle.ob_tree.specs.declared.names.QName.{QName}
use Rattle.ob_tree.specs.declared.expr.Operator.{Operator}
use Rattle.ob_tree.specs.declared.expr.Operator.TheVariants as op
use Rattle.ob_tree.specs.declared.expr.Relation.{Relation}
use Rattle.ob_tree.specs.declared.expr.Sign.{Sign}
use Rattle.ob_types.specs.declared.types.Basic.{Basic}
use Rattle.ob_types.specs.declared.types.Basic.TheVariants as basic
use Rattle.ob_types.specs.declared.types.TypeRef.{TypeRef}
use Rattle.ob_types.specs.declared.types.TypeRef.TheVariants as ref
use Rattle.ob_types.specs.declared.types.Signature.{Signature}
use Rattle.ob_types.specs.declared.typed.Binary.TheVariants as binary
use Rattle.ob_types.specs.declared.typed.Comparison.{Comparison}
use Rattle.ob_types.specs.declared.typed.Compared.TheVariants as compared
use Rattle.ob_types.specs.declared.typed.Connective.TheVariants as connective
use Rattle.ob_types.specs.declared.typed.ExprType.{ExprType}
use Rattle.ob_types.specs.declared.typed.ExprType.TheVariants as kind
use Rattle.ob_types.specs.Tests.{same_at, equal_at}
use Rattle.ob_rules.specs.declared.values.Valued.{Valued}
use Rattle.ob_rules.specs.Shapes.{Map, basic_of, is_this, is_basic, width_of, array_of, element_is, is_char_array, is_pointer}
use Rattle.ob_rules.specs.Values.{type, constant_in, is, type_is, width_in, width, is_integer, text_of, is_chars, is_nil, points, signature, fits, type_in}
use Rattle.ob_rules.specs.Operators.{connected, if_fit, dyadic, wider_of, integers, are, if_are, integers_or_sets, of_integers, binary_of, combined, negated, opposite, signed_as, signed, comparison_of, is_equality, is_text, extends_either, signatures_match, are_pointers, are_procedures, choose, compared_as, compare_as, contained, compare, related, if_integer, if_integers, element}
use Rattle.law_local_judged.specs.Agreement.{IsIn, Agree}
use Rattle.law_local_judged.specs.Said.{SignatureIn, KindIn}
use Rattle.law_local_judged.proofs.Tests.{two, same_same, extends_same, equal_same, signatures_same, pointed_same, elements_in, signature_at_in, taken_same, target_basics, array_same, signature_same}
use Rattle.law_lists.proofs.Lists.{none_some, some_same}

pub three : {A B C D : Type 0} {a b : A} {c d : B} {x y : C} (f : A → B → C → D) → a ≡ b → c ≡ d → x ≡ y → f a c x ≡ f b d y
three {A} {B} {C} {D} {a} {b} {c} {d} {x} {y} f e k l = ap (λ z. f z c x) e ∙ (ap (λ z. f b z x) k ∙ ap (f b d) l)

module _ (P : QName → Type 0) (f g : Map) (agree : Agree P f g) where
  abbrev In : TypeRef → Type 0
  In t = IsIn P t

  -- the type of the value is among the names
  abbrev VK : Valued → Type 0
  VK x = KindIn P (type x)

  type_is_same : (F G : TypeRef → Bool) → ((t : TypeRef) → In t → F t ≡ G t) → (k : ExprType) → KindIn P k → type_is F k ≡ type_is G k
  type_is_same F G h (kind.Of t) i = h t i
  type_is_same F G h (kind.Procedure s) i = refl
  type_is_same F G h kind.Nil i = refl
  type_is_same F G h kind.Str i = refl
  type_is_same F G h kind.Nothing i = refl

  basics_same : (t : TypeRef) → In t → basic_of g t ≡ basic_of f t
  basics_same = target_basics P f g agree

  pub is_same : (b : Basic) (x : Valued) → VK x → is g b x ≡ is f b x
  is_same b x h = type_is_same (is_basic g b) (is_basic f b) (λ t i. ap (is_this b) (basics_same t i)) (type x) h

  width_kind_same : (k : ExprType) → KindIn P k → width_in g k ≡ width_in f k
  width_kind_same (kind.Of t) i = ap (λ o. width_of o) (basics_same t i)
  width_kind_same (kind.Procedure s) i = refl
  width_kind_same kind.Nil i = refl
  width_kind_same kind.Str i = refl
  width_kind_same kind.Nothing i = refl

  pub width_same : (x : Valued) → VK x → width g x ≡ width f x
  width_same x h = width_kind_same (type x) h

  pub integer_same : (x : Valued) → VK x → is_integer g x ≡ is_integer f x
  integer_same x h = ap (λ o. is_some o) (width_same x h)

  pub element_is_same : (t : TypeRef) → In t → (o : Option (Option ℕ × TypeRef)) → ((a : Option ℕ × TypeRef) → o ≡ Some a → In a.1) → element_is g t o ≡ element_is f t o
  element_is_same t i None h = refl
  element_is_same t i (Some a) h = same_same P f g agree a.1 t (h a refl) i

  pub elements_same : (t u : TypeRef) → In t → In u → element_is g t (array_of g u) ≡ element_is f t (array_of f u)
  elements_same t u i k = ap (element_is g t) (array_same P f g agree u k) ∙ element_is_same t i (array_of f u) (λ a e. elements_in P f g agree u a k e)

  pub chars_same : (x : Valued) → VK x → is_chars g x ≡ is_chars f x
  chars_same x h = type_is_same (is_char_array g) (is_char_array f) (λ t i. elements_same (ref.Basic basic.Char) t tt i) (type x) h

  pub kind_points : (k : ExprType) → KindIn P k → points g k ≡ points f k
  kind_points k h = type_is_same (is_pointer g) (is_pointer f) (λ t i. ap (λ o. is_some o) (pointed_same P f g agree t i)) k h

  pub points_same : (x : Valued) → VK x → points g (type x) ≡ points f (type x)
  points_same x h = kind_points (type x) h

  pub kind_signature : (k : ExprType) → KindIn P k → signature g k ≡ signature f k
  kind_signature (kind.Of t) i = signature_same P f g agree t i
  kind_signature (kind.Procedure s) i = refl
  kind_signature kind.Nil i = refl
  kind_signature kind.Str i = refl
  kind_signature kind.Nothing i = refl

  kind_signature_in : (k : ExprType) (s : Signature) → KindIn P k → signature f k ≡ Some s → SignatureIn P s
  kind_signature_in (kind.Of t) s i e = signature_at_in P f g agree t s i e
  kind_signature_in (kind.Procedure r) s i e = subst (SignatureIn P) (some_same e) i
  kind_signature_in kind.Nil s i e = none_some e
  kind_signature_in kind.Str s i e = none_some e
  kind_signature_in kind.Nothing s i e = none_some e

  pub type_in_in : (k : ExprType) (t : TypeRef) → KindIn P k → type_in k ≡ Some t → In t
  type_in_in (kind.Of t) u i e = subst (IsIn P) (some_same e) i
  type_in_in (kind.Procedure r) u i e = none_some e
  type_in_in kind.Nil u i e = none_some e
  type_in_in kind.Str u i e = none_some e
  type_in_in kind.Nothing u i e = none_some e

  pub fits_same : (t : TypeRef) (x : Valued) → In t → VK x → fits g t x ≡ fits f t x
  fits_same t x h k = taken_same P f g agree t (constant_in x) (type x) h k

  pub text_same : (x : Valued) → VK x → is_text g x ≡ is_text f x
  text_same x h = ap (λ b. b || is_some (text_of x)) (chars_same x h)

  -- ---- operators

  integers_same : (a b : Valued) → VK a → VK b → integers g a b ≡ integers f a b
  integers_same a b h k = two wider_of (width_same a h) (width_same b k)

  are_same : (t : Basic) (a b : Valued) → VK a → VK b → are g t a b ≡ are f t a b
  are_same t a b h k = two (λ x y. x && y) (is_same t a h) (is_same t b k)

  binary_of_same : (o : Operator) (a b : Valued) → VK a → VK b → binary_of g o a b ≡ binary_of f o a b
  binary_of_same op.Add a b h k = two (λ w t. integers_or_sets w t binary.Add binary.Union) (integers_same a b h k) (are_same basic.Set a b h k)
  binary_of_same op.Subtract a b h k = two (λ w t. integers_or_sets w t binary.Subtract binary.Difference) (integers_same a b h k) (are_same basic.Set a b h k)
  binary_of_same op.Multiply a b h k = two (λ w t. integers_or_sets w t binary.Multiply binary.Intersection) (integers_same a b h k) (are_same basic.Set a b h k)
  binary_of_same op.Divide a b h k = ap (λ t. if_are t binary.SymmetricDifference) (are_same basic.Set a b h k)
  binary_of_same op.Quotient a b h k = ap (λ w. of_integers w binary.Quotient) (integers_same a b h k)
  binary_of_same op.Remainder a b h k = ap (λ w. of_integers w binary.Remainder) (integers_same a b h k)
  binary_of_same op.Or a b h k = refl
  binary_of_same op.And a b h k = refl

  other_combined : (o : Operator) (at : Pos) (a b : Valued) → VK a → VK b → if_fit (binary_of g o a b) at (λ o. dyadic o at a b) ≡ if_fit (binary_of f o a b) at (λ o. dyadic o at a b)
  other_combined o at a b h k = ap (λ r. if_fit r at (λ o. dyadic o at a b)) (binary_of_same o a b h k)

  pub combined_same : (o : Operator) (at : Pos) (a b : Valued) → VK a → VK b → combined g o at a b ≡ combined f o at a b
  combined_same op.Or at a b h k = ap (λ t. connected t connective.Or at a b) (are_same basic.Boolean a b h k)
  combined_same op.And at a b h k = ap (λ t. connected t connective.And at a b) (are_same basic.Boolean a b h k)
  combined_same op.Add at a b h k = other_combined op.Add at a b h k
  combined_same op.Subtract at a b h k = other_combined op.Subtract at a b h k
  combined_same op.Multiply at a b h k = other_combined op.Multiply at a b h k
  combined_same op.Divide at a b h k = other_combined op.Divide at a b h k
  combined_same op.Quotient at a b h k = other_combined op.Quotient at a b h k
  combined_same op.Remainder at a b h k = other_combined op.Remainder at a b h k

  pub opposite_same : (at : Pos) (x : Valued) → VK x → opposite g at x ≡ opposite f at x
  opposite_same at x h = ap (λ t. negated t at x) (is_same basic.Boolean x h)

  pub signed_same : (s : Sign) (at : Pos) (x : Valued) → VK x → signed g s at x ≡ signed f s at x
  signed_same s at x h = two (λ w t. signed_as s w t at x) (width_same x h) (is_same basic.Set x h)

  -- ---- relations

  either_same : (o p : Option TypeRef) → ((t : TypeRef) → o ≡ Some t → In t) → ((t : TypeRef) → p ≡ Some t → In t) → extends_either g o p ≡ extends_either f o p
  either_same None p h k = refl
  either_same (Some a) None h k = refl
  either_same (Some a) (Some b) h k = two (λ x y. x || y) (extends_same P f g agree a b (h a refl) (k b refl)) (extends_same P f g agree b a (k b refl) (h a refl))

  pub signatures_match_same : (o p : Option Signature) → ((s : Signature) → o ≡ Some s → SignatureIn P s) → ((s : Signature) → p ≡ Some s → SignatureIn P s) → signatures_match g o p ≡ signatures_match f o p
  signatures_match_same None p h k = refl
  signatures_match_same (Some a) None h k = refl
  signatures_match_same (Some a) (Some b) h k = signatures_same P f g agree (equal_at g 201) (equal_at f 201) (same_at g) (same_at f) (equal_same P f g agree 201) (same_same P f g agree) a b (h a refl) (k b refl)

  pointers_same : (a b : Valued) → VK a → VK b → are_pointers g a b ≡ are_pointers f a b
  pointers_same a b h k =
      three (λ x y z. (x && y && z) || (is_nil (type a) && y) || (is_nil (type b) && x)) (points_same a h) (points_same b k)
      (either_same (type_in (type a)) (type_in (type b)) (λ t e. type_in_in (type a) t h e) (λ t e. type_in_in (type b) t k e))

  procedures_same : (a b : Valued) → VK a → VK b → are_procedures g a b ≡ are_procedures f a b
  procedures_same a b h k =
      two (λ x y. signatures_match g x y || (is_nil (type a) && is_some y) || (is_nil (type b) && is_some x)) (kind_signature (type a) h) (kind_signature (type b) k)
      ∙ ap (λ z. z || (is_nil (type a) && is_some (signature f (type b))) || (is_nil (type b) && is_some (signature f (type a))))
      (signatures_match_same (signature f (type a)) (signature f (type b)) (λ s e. kind_signature_in (type a) s h e) (λ s e. kind_signature_in (type b) s k e))

  compared_same : (eq : Bool) (a b : Valued) → VK a → VK b → compared_as g eq a b ≡ compared_as f eq a b
  compared_same eq a b h k =
      two (λ x r. choose x compared.Integer r) (ap (λ o. is_some o) (integers_same a b h k))
      (two (λ x r. choose x compared.Char r) (are_same basic.Char a b h k)
      (two (λ x r. choose (eq && x) compared.Boolean r) (are_same basic.Boolean a b h k)
      (two (λ x r. choose (eq && x) compared.Set r) (are_same basic.Set a b h k)
      (two (λ x y. choose (eq && x) compared.Pointer (choose (eq && y) compared.Procedure None)) (pointers_same a b h k) (procedures_same a b h k)))))

  compare_same : (o : Option Comparison) (at : Pos) (a b : Valued) → VK a → VK b → compare g o at a b ≡ compare f o at a b
  compare_same (Some r) at a b h k = two (λ c t. compare_as c t r at a b) (compared_same (is_equality r) a b h k) (two (λ x y. x && y) (text_same a h) (text_same b k))
  compare_same None at a b h k = ap (λ t. contained t at a b) (two (λ x y. x && y) (integer_same a h) (is_same basic.Set b k))

  pub related_same : (r : Relation) (at : Pos) (a b : Valued) → VK a → VK b → related g r at a b ≡ related f r at a b
  related_same r at a b h k = compare_same (comparison_of r) at a b h k

  -- ---- elements of sets

  pub element_same : (at : Pos) (a : Valued) (o : Option Valued) → VK a → ((b : Valued) → o ≡ Some b → VK b) → element g at a o ≡ element f at a o
  element_same at a None h k = ap (λ t. if_integer t at a) (integer_same a h)
  element_same at a (Some b) h k = ap (λ t. if_integers t at a b) (two (λ x y. x && y) (integer_same a h) (integer_same b (k b refl)))
