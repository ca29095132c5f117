-- Basic types and their widths.
use Rattle.std.proofs.Common.{◌≡◌, refl, sym, ap, ℕ, zero, suc, ◌<◌, Option, Some, None, Bool, true, false, arith}
use Rattle.std.specs.Prelude.{◌^◌, ℤ, pos, negsuc, nat_lt, nat_eq, if◌then◌else◌}
use Rattle.std.proofs.lemmas.Bool.Decides.{nat_tests}
use Rattle.ob_types.specs.declared.types.Basic.{Basic}
use Rattle.ob_types.specs.declared.types.Basic.TheVariants as basic
use Rattle.ob_types.specs.declared.types.TypeRef.{TypeRef}
use Rattle.ob_types.specs.declared.types.TypeRef.TheVariants as ref
use Rattle.ob_types.specs.declared.typed.Width.{Width}
use Rattle.ob_types.specs.declared.typed.Width.TheVariants as width
use Rattle.ob_types.specs.declared.value.Value.TheVariants as literal
use Rattle.ob_types.specs.Tests.{target, basic_number}
use Rattle.ob_types.specs.TypedKinds.{of_basic, of_width, smallest, constant_type}
use Rattle.ob_meaning.specs.Values.{Program, Form, BasicForm, PointerForm, ProcedureForm, ArrayForm, OpenForm, RecordForm, number_of_types, description, form_within, form_in}
use Rattle.ob_types.specs.Numbers.{is_in, bits_but_one}
use Rattle.law_simulation_relation.specs.Relation.{FormOk}
use Rattle.law_simulation_relation.specs.Passed.{IsClosed}
use Rattle.law_simulation_relation.specs.Typed as typed
use Rattle.law_simulation_relation.specs.Typed.{Within}
use Rattle.ob_rules.specs.Shapes.{Map, basic_of, as_basic, is_basic, is_this, width_of, wider}
use Rattle.law_lists.proofs.Lists.{none_some, some_same}

form_within_basic : (program : Program) (n : ℕ) (b : Basic) → form_within (description program) n (ref.Basic b) ≡ BasicForm b
form_within_basic program zero b = refl
form_within_basic program (suc n) b = refl

pub form_basic : (program : Program) (b : Basic) → form_in program (ref.Basic b) ≡ BasicForm b
form_basic program b = form_within_basic program (number_of_types program) b

pub target_basic : (map : Map) (b : Basic) → target map 201 (ref.Basic b) ≡ ref.Basic b
unfolding target
target_basic map b = refl

pub basic_is : (map : Map) (b : Basic) → basic_of map (ref.Basic b) ≡ Some b
basic_is map b = ap as_basic (target_basic map b)

pub not_true : {B : Type 0} → false ≡ true → B
not_true {B} e = absurd cc

number_of : (a b : Basic) → nat_eq (basic_number a) (basic_number b) ≡ true → a ≡ b
number_of basic.Boolean basic.Boolean e = refl
number_of basic.Char basic.Char e = refl
number_of basic.ShortInt basic.ShortInt e = refl
number_of basic.Integer basic.Integer e = refl
number_of basic.LongInt basic.LongInt e = refl
number_of basic.Set basic.Set e = refl
number_of a b e = not_true e

is_this_is : (b : Basic) (o : Option Basic) → is_this b o ≡ true → o ≡ Some b
is_this_is b None e = not_true e
is_this_is b (Some c) e = ap (λ x. Some x) (sym (number_of b c e))

pub is_basic_is : (map : Map) (b : Basic) (t : TypeRef) → is_basic map b t ≡ true → basic_of map t ≡ Some b
is_basic_is map b t e = is_this_is b (basic_of map t) e

pub width_basic : (o : Option Basic) (w : Width) → width_of o ≡ Some w → o ≡ Some (typed.basic_of w)
width_basic None w e = none_some e
width_basic (Some basic.ShortInt) w e = ap (λ w. Some (typed.basic_of w)) (some_same e)
width_basic (Some basic.Integer) w e = ap (λ w. Some (typed.basic_of w)) (some_same e)
width_basic (Some basic.LongInt) w e = ap (λ w. Some (typed.basic_of w)) (some_same e)
width_basic (Some basic.Boolean) w e = none_some e
width_basic (Some basic.Char) w e = none_some e
width_basic (Some basic.Set) w e = none_some e

pub width_of_width : (w : Width) → of_width w ≡ of_basic (typed.basic_of w)
width_of_width width.ShortInt = refl
width_of_width width.Integer = refl
width_of_width width.LongInt = refl

pub width_back : (w : Width) → width_of (Some (typed.basic_of w)) ≡ Some w
width_back width.ShortInt = refl
width_back width.Integer = refl
width_back width.LongInt = refl

-- NUMBERS WITHIN A WIDTH

smallest_has : (n : ℕ) → nat_lt n (2 ^ 31) ≡ true → nat_lt n (2 ^ bits_but_one (smallest n)) ≡ true
smallest_has n h = short (nat_lt n (2 ^ 7)) refl
  where
    middle : (b : Bool) → nat_lt n (2 ^ 15) ≡ b → nat_lt n (2 ^ bits_but_one (if b then width.Integer else width.LongInt)) ≡ true
    middle true e = e
    middle false e = h

    short : (b : Bool) → nat_lt n (2 ^ 7) ≡ b → nat_lt n (2 ^ bits_but_one (if b then width.ShortInt else (if nat_lt n (2 ^ 15) then width.Integer else width.LongInt))) ≡ true
    short true e = e
    short false e = middle (nat_lt n (2 ^ 15)) refl

up : (n a b : ℕ) → a < suc b → nat_lt n a ≡ true → nat_lt n b ≡ true
up n a b h e = grind (arith, nat_tests)

within_has : (v w : Width) (n : ℕ) → Within v w → nat_lt n (2 ^ bits_but_one v) ≡ true → nat_lt n (2 ^ bits_but_one w) ≡ true
within_has v w n typed.same h = h
within_has _ _ n typed.short h = up n (2 ^ 7) (2 ^ 15) (omega arith) h
within_has _ _ n typed.shorter h = up n (2 ^ 7) (2 ^ 31) (omega arith) h
within_has _ _ n typed.middle h = up n (2 ^ 15) (2 ^ 31) (omega arith) h

-- the smallest type of a number has it, and each that includes that type
abbrev pub smallest_of : ℤ → Width
smallest_of (pos n) = smallest n
smallest_of (negsuc n) = smallest n

pub number_fits : (z : ℤ) (w : Width) → is_in width.LongInt z ≡ true → Within (smallest_of z) w → is_in w z ≡ true
number_fits (pos n) w h k = within_has (smallest n) w n k (smallest_has n h)
number_fits (negsuc n) w h k = within_has (smallest n) w n k (smallest_has n h)

pub number_type : (z : ℤ) → constant_type (literal.Int z) ≡ of_basic (typed.basic_of (smallest_of z))
number_type (pos n) = width_of_width (smallest n)
number_type (negsuc n) = width_of_width (smallest n)

pub within_long : (w : Width) → Within w width.LongInt
within_long width.ShortInt = typed.shorter
within_long width.Integer = typed.middle
within_long width.LongInt = typed.same

-- both are within the wider of two
pub left_within : (a b : Width) → Within a (wider a b)
left_within width.ShortInt width.ShortInt = typed.same
left_within width.ShortInt width.Integer = typed.short
left_within width.ShortInt width.LongInt = typed.shorter
left_within width.Integer width.ShortInt = typed.same
left_within width.Integer width.Integer = typed.same
left_within width.Integer width.LongInt = typed.middle
left_within width.LongInt b = typed.same

pub right_within : (a b : Width) → Within b (wider a b)
right_within width.ShortInt b = typed.same
right_within width.Integer width.ShortInt = typed.short
right_within width.Integer width.Integer = typed.same
right_within width.Integer width.LongInt = typed.same
right_within width.LongInt width.ShortInt = typed.shorter
right_within width.LongInt width.Integer = typed.middle
right_within width.LongInt width.LongInt = typed.same

-- what is built as a variable or a part of one is no open array
pub closed_form : (program : Program) (t : Form) → FormOk program t → IsClosed t
closed_form program (OpenForm t) h = h
closed_form program (BasicForm b) h = tt
closed_form program (PointerForm t) h = tt
closed_form program (ProcedureForm s) h = tt
closed_form program (ArrayForm n t) h = tt
closed_form program (RecordForm line fs) h = tt
