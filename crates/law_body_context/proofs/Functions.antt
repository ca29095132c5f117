-- Predeclared procedures on constants come to constants.
use Rattle.std.proofs.Common.{◌≡◌, refl, ℕ, zero, suc, List, [], ◌∷◌, Option, Some, None, Bool, true, false, arith}
use Rattle.std.specs.Prelude.{ℤ, pos, negsuc, ◌&&◌, nat_eq}
use Rattle.std.specs.List.{AllByRecursion}
use Rattle.ob_tree.specs.declared.pos.Pos.{Pos}
use Rattle.ob_tree.specs.declared.names.QName.{QName}
use Rattle.ob_tree.specs.declared.ident.Mark.{Mark}
use Rattle.ob_types.specs.declared.types.Basic.{Basic}
use Rattle.ob_types.specs.declared.types.Basic.TheVariants as basic
use Rattle.ob_types.specs.declared.types.TypeRef.{TypeRef}
use Rattle.ob_types.specs.declared.types.TypeRef.TheVariants as ref
use Rattle.ob_types.specs.declared.value.Value.TheVariants as literal
use Rattle.ob_types.specs.declared.desc.Desc.{Desc}
use Rattle.ob_types.specs.declared.desc.Desc.TheVariants as desc
use Rattle.ob_types.specs.declared.typed.Unary.{Unary}
use Rattle.ob_types.specs.declared.typed.Unary.TheVariants as unary
use Rattle.ob_types.specs.declared.typed.Binary.TheVariants as binary
use Rattle.ob_types.specs.declared.typed.Update.{Update}
use Rattle.ob_types.specs.declared.typed.Update.TheVariants as update
use Rattle.ob_types.specs.declared.typed.Width.{Width}
use Rattle.ob_rules.specs.declared.meant.Meant.{Meant}
use Rattle.ob_rules.specs.declared.meant.Meant.TheVariants as means
use Rattle.ob_rules.specs.declared.broken.Predeclared.{Predeclared}
use Rattle.ob_rules.specs.declared.broken.Predeclared.TheVariants as pre
use Rattle.ob_rules.specs.declared.values.Place.{Place}
use Rattle.ob_rules.specs.declared.values.Valued.{Valued}
use Rattle.ob_rules.specs.declared.broken.Rule.TheVariants as rule
use Rattle.ob_rules.specs.Judged.{Judged, sound, also}
use Rattle.ob_rules.specs.Shapes.{Map, shape, array_at, array_of, basic_of}
use Rattle.ob_rules.specs.Values.{is, width as width_of, is_integer, constant_in, place_in}
use Rattle.ob_rules.specs.Operators.{monadic, dyadic, and_so}
use Rattle.ob_rules.specs.Predeclared.{value, if_is, on_width, longer, shorter, dimension, length_of, len_at, len_of, number_in, one, step, element_step, is_text, new_array, new_fixed, new_elements, if_held, new_one, new_many, fit_one, fit_two, fit, if_fit, extreme, extreme_of}
use Rattle.ob_types.specs.Tests.{target, shape_at}
use Rattle.law_typing.specs.Known.{ConstantIs}
use Rattle.law_methods_described.proofs.Nodes.{Has, then_has, also_has}
use Rattle.law_typing.specs.Makes.{IfThere}
use Rattle.law_body_context.proofs.Folded.{V, monadic_is, dyadic_is}

-- what a designator comes to: where it is a constant, or a call that is one, it is one
abbrev pub M : Meant → Type 0
M (means.Place p) = Unit {0}
M (means.Constant v) = ConstantIs v
M (means.Procedure name s) = Unit {0}
M (means.Bound c) = Unit {0}
M (means.Out p) = Unit {0}
M (means.Predeclared f) = Unit {0}
M (means.Call x) = V x
M (means.Statement s) = Unit {0}

abbrev F : Option (Judged Meant) → Type 0
F o = IfThere (Has M) o

pub so_fits : {A : Type 0} (o : Option A) (f : A → Option (Judged Meant)) → ((x : A) → F (f x)) → F (and_so o f)
so_fits None f h = tt
so_fits (Some x) f h = h x

value_is : (x : Judged Valued) → Has V x → F (value x)
value_is x h = then_has V M x (λ v. sound (means.Call v)) h (λ v k. k)

is_fits : (b : Bool) (j : Judged Meant) → Has M j → F (if_is b j)
is_fits true j h = h
is_fits false j h = tt

width_is : (types : Map) (o : Width → Unary) (at : Pos) (x : Valued) → V x → F (on_width types o at x)
width_is types o at x h = so_fits (width_of types x) (λ w. value (monadic (o w) at x)) (λ w. value_is (monadic (o w) at x) (monadic_is (o w) at x h))

-- LENGTHS

-- the lengths of the arrays that a map describes are constants
abbrev pub AreLengths : Map → Type 0
AreLengths types = (q : QName) (m : Mark) (n : ℕ) (t : TypeRef) → types q ≡ Some (desc.Array m n t) → ConstantIs (literal.Int (pos n))

module _ (types : Map) (lengths : AreLengths types) where
  abbrev L : Option (Option ℕ × TypeRef) → Type 0
  L o = IfThere (λ (a : Option ℕ × TypeRef). IfThere (λ n. ConstantIs (literal.Int (pos n))) a.0) o

  desc_length : (q : QName) (o : Option Desc) → types q ≡ o → L (array_at o)
  desc_length q None e = tt
  desc_length q (Some (desc.Array m n t)) e = lengths q m n t e
  desc_length q (Some (desc.OpenArray m t)) e = tt
  desc_length q (Some (desc.Const v)) e = tt
  desc_length q (Some (desc.Var m t)) e = tt
  desc_length q (Some (desc.Proc s)) e = tt
  desc_length q (Some (desc.Alias m t)) e = tt
  desc_length q (Some (desc.Pointer m t)) e = tt
  desc_length q (Some (desc.ProcType m s)) e = tt
  desc_length q (Some (desc.Record r)) e = tt

  shape_length : (t : TypeRef) → L (array_at (shape_at types t))
  shape_length (ref.Basic b) = tt
  shape_length (ref.Named q) = desc_length q (types q) refl

  array_length : (t : TypeRef) → L (array_of types t)
  array_length t = shape_length (target types 201 t)

  so_length : (o : Option (Option ℕ × TypeRef)) (f : Option ℕ × TypeRef → Option (Option ℕ × TypeRef)) → ((a : Option ℕ × TypeRef) → L (f a)) → L (and_so o f)
  so_length None f h = tt
  so_length (Some a) f h = h a

  dimension_length : (n : ℕ) (t : TypeRef) → L (dimension types n t)
  dimension_length zero t = array_length t
  dimension_length (suc n) t = so_length (array_of types t) (λ a. dimension types n a.1) (λ a. dimension_length n a.1)

  length_is : (o : Option ℕ) (first : Bool) (p : Place) → IfThere (λ n. ConstantIs (literal.Int (pos n))) o → F (length_of o first p)
  length_is (Some n) first p h = h
  length_is None true p h = tt
  length_is None false p h = tt

  len_at_is : (n : ℕ) (p : Place) → F (len_at types n p)
  len_at_is n p = by (dimension types n p.of) (dimension_length n p.of)
    where
      by : (o : Option (Option ℕ × TypeRef)) → L o → F (and_so o (λ a. length_of a.0 (nat_eq n 0) p))
      by None h = tt
      by (Some a) h = length_is a.0 (nat_eq n 0) p h

  len_is : (z : ℤ) (p : Place) → F (len_of types z p)
  len_is (pos n) p = len_at_is n p
  len_is (negsuc n) p = tt

  -- STATEMENTS

  step_is : (o : Width → Update) (at : Pos) (x n : Valued) → F (step types o at x n)
  step_is o at x n = so_fits (place_in x) _ (λ p. so_fits (width_of types x) _ (λ w. so_fits (width_of types n) _ (λ k. tt)))

  element_step_is : (o : Update) (at : Pos) (x n : Valued) → F (element_step types o at x n)
  element_step_is o at x n = so_fits (place_in x) _ (λ p. so_fits (width_of types n) _ (λ k. so_fits (if_is (is types basic.Set x) o) _ (λ i. tt)))

  array_is : (o : Option ℕ) (p : Place) (base : TypeRef) (at : Pos) → F (new_array o p base at)
  array_is (Some n) p base at = tt
  array_is None p base at = tt

  fixed_is : (q : Option QName) (a : Option (Option ℕ × TypeRef)) (p : Place) (base : TypeRef) (at : Pos) → F (new_fixed q a p base at)
  fixed_is (Some q) a p base at = tt
  fixed_is None (Some a) p base at = array_is a.0 p base at
  fixed_is None None p base at = tt

  elements_are : (o : Option ℕ) (t : TypeRef) (p : Place) (n : Valued) (at : Pos) → F (new_elements o t p n at)
  elements_are (Some k) t p n at = tt
  elements_are None t p n at = tt

  held_is : (b : Bool) (o : Option (Judged Meant)) → F o → F (if_held b o)
  held_is true o h = h
  held_is false o h = tt

  new_one_is : (at : Pos) (x : Valued) → F (new_one types at x)
  new_one_is at x = so_fits (place_in x) _ (λ p. so_fits (Rattle.ob_rules.specs.Shapes.pointed types p.of) _ (λ base. held_is (Rattle.ob_rules.specs.Shapes.is_held types base) _ (fixed_is (Rattle.ob_rules.specs.Shapes.record_of types base) (array_of types base) p base at)))

  new_many_is : (at : Pos) (x n : Valued) → F (new_many types at x n)
  new_many_is at x n = so_fits (place_in x) _ (λ p. so_fits (width_of types n) _ (λ w. so_fits (Rattle.ob_rules.specs.Shapes.pointed types p.of) _ (λ base. held_is (Rattle.ob_rules.specs.Shapes.is_held types base) _ (so_fits (array_of types base) _ (λ a. elements_are a.0 a.1 p n at)))))

  -- WITH ONE PARAMETER, AND WITH TWO

  on_unary : (b : Bool) (o : Unary) (at : Pos) (x : Valued) → V x → F (and_so (if_is b o) (λ o. value (monadic o at x)))
  on_unary b o at x h = so_fits (if_is b o) _ (λ o. value_is (monadic o at x) (monadic_is o at x h))

  fit_one_is : (f : Predeclared) (at : Pos) (x : Valued) → V x → F (fit_one types f at x)
  fit_one_is pre.Abs at x h = width_is types unary.Abs at x h
  fit_one_is pre.Cap at x h = on_unary (is types basic.Char x) unary.Cap at x h
  fit_one_is pre.Chr at x h = on_unary (is_integer types x) unary.Chr at x h
  fit_one_is pre.Long at x h = so_fits (width_of types x) _ (λ w. so_fits (longer w) _ (λ l. value_is (monadic (unary.Long l) at x) (monadic_is (unary.Long l) at x h)))
  fit_one_is pre.Short at x h = so_fits (width_of types x) _ (λ w. so_fits (shorter w) _ (λ l. value_is (monadic (unary.Short l) at x) (monadic_is (unary.Short l) at x h)))
  fit_one_is pre.Odd at x h = on_unary (is_integer types x) unary.Odd at x h
  fit_one_is pre.Ord at x h = on_unary (is types basic.Char x) unary.Ord at x h
  fit_one_is pre.Len at x h = so_fits (place_in x) _ (λ p. len_at_is 0 p)
  fit_one_is pre.Assert at x h = is_fits (is types basic.Boolean x) _ tt
  fit_one_is pre.Halt at x h = so_fits (number_in (constant_in x)) _ (λ z. tt)
  fit_one_is pre.Inc at x h = step_is update.Inc at x one
  fit_one_is pre.Dec at x h = step_is update.Dec at x one
  fit_one_is pre.New at x h = new_one_is at x
  fit_one_is pre.Ash at x h = tt
  fit_one_is pre.Max at x h = tt
  fit_one_is pre.Min at x h = tt
  fit_one_is pre.Copy at x h = tt
  fit_one_is pre.Excl at x h = tt
  fit_one_is pre.Incl at x h = tt

  fit_two_is : (f : Predeclared) (at : Pos) (x n : Valued) → V x → V n → F (fit_two types f at x n)
  fit_two_is pre.Ash at x n h k = so_fits (if_is (is_integer types x && is_integer types n) binary.Ash) _ (λ o. value_is (dyadic o at x n) (dyadic_is o at x n h k))
  fit_two_is pre.Len at x n h k = so_fits (place_in x) _ (λ p. so_fits (number_in (constant_in n)) _ (λ z. len_is z p))
  fit_two_is pre.Assert at x n h k = so_fits (number_in (constant_in n)) _ (λ z. is_fits (is types basic.Boolean x) _ tt)
  fit_two_is pre.Inc at x n h k = step_is update.Inc at x n
  fit_two_is pre.Dec at x n h k = step_is update.Dec at x n
  fit_two_is pre.Incl at x n h k = element_step_is update.Incl at x n
  fit_two_is pre.Excl at x n h k = element_step_is update.Excl at x n
  fit_two_is pre.Copy at x y h k = so_fits (place_in y) _ (λ p. is_fits (is_text types x && Rattle.ob_rules.specs.Values.is_chars types y) _ tt)
  fit_two_is pre.New at x n h k = new_many_is at x n
  fit_two_is pre.Abs at x n h k = tt
  fit_two_is pre.Cap at x n h k = tt
  fit_two_is pre.Chr at x n h k = tt
  fit_two_is pre.Long at x n h k = tt
  fit_two_is pre.Max at x n h k = tt
  fit_two_is pre.Min at x n h k = tt
  fit_two_is pre.Odd at x n h k = tt
  fit_two_is pre.Ord at x n h k = tt
  fit_two_is pre.Short at x n h k = tt
  fit_two_is pre.Halt at x n h k = tt

  fit_is : (f : Predeclared) (at : Pos) (xs : List Valued) → AllByRecursion V xs → F (fit types f at xs)
  fit_is f at [] h = tt
  fit_is f at (x ∷ []) h = fit_one_is f at x h.0
  fit_is f at (x ∷ y ∷ []) h = fit_two_is f at x y h.0 h.1.0
  fit_is f at (x ∷ y ∷ z ∷ zs) h = tt

  if_fits : (at : Pos) (o : Option (Judged Meant)) → F o → Has M (if_fit at o)
  if_fits at None h = tt
  if_fits at (Some m) h = h

  pub fits_is : (b : Bool) (f : Predeclared) (at : Pos) (xs : List Valued) → AllByRecursion V xs → Has M (also b rule.MisplacedCall at (if_fit at (fit types f at xs)))
  fits_is b f at xs h = also_has M b rule.MisplacedCall at (if_fit at (fit types f at xs)) (if_fits at (fit types f at xs) (fit_is f at xs h))

-- MAX AND MIN

extreme_is : (max : Bool) (b : Basic) → ConstantIs (extreme max b)
extreme_is true basic.Boolean = tt
extreme_is false basic.Boolean = tt
extreme_is true basic.Char = omega arith
extreme_is false basic.Char = omega arith
extreme_is true basic.ShortInt = refl
extreme_is false basic.ShortInt = refl
extreme_is true basic.Integer = refl
extreme_is false basic.Integer = refl
extreme_is true basic.LongInt = refl
extreme_is false basic.LongInt = refl
extreme_is true basic.Set = refl
extreme_is false basic.Set = refl

pub extreme_of_is : (max : Bool) (at : Pos) (t : Option TypeRef) (b : Option Basic) → Has M (extreme_of max at t b)
extreme_of_is max at None b = tt
extreme_of_is max at (Some t) None = tt
extreme_of_is max at (Some t) (Some b) = extreme_is max b
