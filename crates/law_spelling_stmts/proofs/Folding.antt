-- What constants come to is a constant, and no string.
use Rattle.std.proofs.Common.{◌≡◌, ℕ, suc, ◌<◌, ◌^◌, Bool, true, false, List, [], ◌∷◌, length, Option, Some, None, refl, arith}
use Rattle.std.specs.Prelude.{ℤ, pos, negsuc, neg_ℤ, ◌+ℤ◌, ◌-ℤ◌, ◌*ℤ◌, unsigned_abs, nat_lt, nat_le}
use Rattle.ob_types.specs.declared.types.Basic.{Basic}
use Rattle.ob_types.specs.declared.types.Basic.TheVariants as basic
use Rattle.ob_types.specs.declared.value.Value.{Value}
use Rattle.ob_types.specs.declared.value.Value.TheVariants as literal
use Rattle.ob_types.specs.declared.typed.Comparison.{Comparison}
use Rattle.ob_types.specs.declared.typed.Unary.{Unary}
use Rattle.ob_types.specs.declared.typed.Unary.TheVariants as unary
use Rattle.ob_types.specs.declared.typed.Binary.{Binary}
use Rattle.ob_types.specs.declared.typed.Binary.TheVariants as binary
use Rattle.ob_types.specs.declared.typed.Connective.{Connective}
use Rattle.ob_types.specs.declared.typed.Connective.TheVariants as connective
use Rattle.ob_types.specs.Assigning.{characters}
use Rattle.ob_types.specs.Numbers.{is_positive, shifted, has_bit, element_in}
use Rattle.ob_rules.specs.Constants.{when, long, bounded_shift, shift_down, ash, of_nat, of_nats, elements, byte_of, and_so, integer_in, set_in, char_in, truth_in, fold_one, divided, related, on_integers, on_sets, fold_two, texts_related, fold_texts, fold_logical, text_value}
use Rattle.ob_rules.specs.Predeclared.{extreme}
use Rattle.law_simulation_relation.specs.Typed.{AreCharacters}
use Rattle.law_typing.specs.Spelled.{are_bytes}
use Rattle.law_typing.specs.Known.{ConstantIs}
use Rattle.law_typing.proofs.Constants.{fold_one_is, fold_two_is, fold_texts_is, fold_logical_is}
use Rattle.law_spelling_read.specs.ReadPlaces.{text_fits}
use Rattle.law_spelling_stmts.proofs.Setting.{Short, Con}
use Rattle.law_lists.proofs.Lists.{IfThere, and_parts, less}

abbrev F : Option Value → Type 0
F o = IfThere Short o

when_f : (b : Bool) (v : Value) → Short v → F (when b v)
when_f true v h = h
when_f false v h = tt

so_f : {A : Type 0} (o : Option A) (f : A → Option Value) → ((x : A) → F (f x)) → F (and_so o f)
so_f None f h = tt
so_f (Some x) f h = h x

nat_f : (f : ℕ → Value) → ((n : ℕ) → Short (f n)) → (o : Option ℕ) → F (of_nat f o)
nat_f f h None = tt
nat_f f h (Some n) = h n

nats_f : (f : ℕ → ℕ → Value) → ((n m : ℕ) → Short (f n m)) → (a b : Option ℕ) → F (of_nats f a b)
nats_f f h None b = tt
nats_f f h (Some a) None = tt
nats_f f h (Some a) (Some b) = h a b

long_f : (z : ℤ) → F (long z)
long_f z = when_f _ (literal.Int z) tt

byte_f : (z : ℤ) → F (byte_of z)
byte_f (pos n) = when_f (nat_lt n 256) (literal.Char n) tt
byte_f (negsuc n) = tt

bounded_f : (x n : ℤ) (b : Bool) → F (bounded_shift x n b)
bounded_f x n true = long_f (shifted x n)
bounded_f x n false = when_f _ (literal.Int x) tt

down_f : (x : ℤ) (n : ℕ) (b : Bool) → F (shift_down x n b)
down_f x n true = long_f (shifted x (negsuc n))
down_f x n false = long_f (shifted x (negsuc 40))

ash_f : (x n : ℤ) → F (ash x n)
ash_f x (pos n) = bounded_f x (pos n) (nat_le n 31)
ash_f x (negsuc n) = down_f x n (nat_le n 40)

divided_f : (b : Bool) (z : ℤ) → F (divided b z)
divided_f true z = long_f z
divided_f false z = tt

related_f : (r : Comparison) (a b : Value) → F (related r a b)
related_f r (literal.Int a) (literal.Int b) = tt
related_f r (literal.Char a) (literal.Char b) = tt
related_f r (literal.Bool a) (literal.Bool b) = tt
related_f r (literal.Set a) (literal.Set b) = tt
related_f r a b = tt

one_f : (op : Unary) (v : Value) → F (fold_one op v)
one_f (unary.Negate w) v = so_f (integer_in v) _ (λ z. long_f (neg_ℤ z))
one_f unary.Not v = so_f (truth_in v) _ (λ b. tt)
one_f unary.Complement v = so_f (set_in v) _ (λ s. tt)
one_f (unary.Abs w) v = so_f (integer_in v) _ (λ z. long_f (pos (unsigned_abs z)))
one_f unary.Cap v = so_f (char_in v) _ (λ c. tt)
one_f unary.Chr v = so_f (integer_in v) byte_of (λ z. byte_f z)
one_f (unary.Long w) v = so_f (integer_in v) _ (λ z. tt)
one_f unary.Odd v = so_f (integer_in v) _ (λ z. tt)
one_f unary.Ord v = so_f (char_in v) _ (λ c. tt)
one_f (unary.Short w) v = so_f (integer_in v) _ (λ z. when_f _ (literal.Int z) tt)
one_f unary.Element v = so_f (integer_in v) _ (λ z. nat_f (λ i. elements i i) (λ i. tt) (element_in z))

integers_f : (a b : Value) (f : ℤ → ℤ → Option Value) → ((x y : ℤ) → F (f x y)) → F (on_integers a b f)
integers_f a b f h = so_f (integer_in a) _ (λ x. so_f (integer_in b) (f x) (λ y. h x y))

sets_f : (a b : Value) (f : ℕ → ℕ → ℕ) → F (on_sets a b f)
sets_f a b f = so_f (set_in a) _ (λ x. so_f (set_in b) _ (λ y. tt))

two_f : (op : Binary) (a b : Value) → F (fold_two op a b)
two_f (binary.Add w) a b = integers_f a b _ (λ x y. long_f (x +ℤ y))
two_f (binary.Subtract w) a b = integers_f a b _ (λ x y. long_f (x -ℤ y))
two_f (binary.Multiply w) a b = integers_f a b _ (λ x y. long_f (x *ℤ y))
two_f (binary.Quotient w) a b = integers_f a b _ (λ x y. divided_f (is_positive y) _)
two_f (binary.Remainder w) a b = integers_f a b _ (λ x y. divided_f (is_positive y) _)
two_f binary.Union a b = sets_f a b _
two_f binary.Difference a b = sets_f a b _
two_f binary.Intersection a b = sets_f a b _
two_f binary.SymmetricDifference a b = sets_f a b _
two_f binary.Range a b = integers_f a b _ (λ x y. nats_f elements (λ i j. tt) (element_in x) (element_in y))
two_f binary.In a b = so_f (integer_in a) _ (λ x. so_f (set_in b) _ (λ s. nat_f (λ i. literal.Bool (has_bit s i)) (λ i. tt) (element_in x)))
two_f binary.Ash a b = integers_f a b ash (λ x y. ash_f x y)
two_f (binary.Compare r c) a b = related_f r a b

texts_f : (r : Comparison) (a b : Option (List ℕ)) → F (texts_related r a b)
texts_f r None b = tt
texts_f r (Some a) None = tt
texts_f r (Some a) (Some b) = tt

logical_f : (op : Connective) (a b : Value) → F (fold_logical op a b)
logical_f connective.And a b = so_f (truth_in a) _ (λ x. so_f (truth_in b) _ (λ y. tt))
logical_f connective.Or a b = so_f (truth_in a) _ (λ x. so_f (truth_in b) _ (λ y. tt))

con_of : (o : Option Value) → IfThere ConstantIs o → F o → IfThere Con o
con_of None h f = tt
con_of (Some v) h f = (h, f)

pub one_con : (op : Unary) (v : Value) → Con v → IfThere Con (fold_one op v)
one_con op v h = con_of (fold_one op v) (fold_one_is op v h.0) (one_f op v)

pub two_con : (op : Binary) (a b : Value) → Con a → Con b → IfThere Con (fold_two op a b)
two_con op a b h g = con_of (fold_two op a b) (fold_two_is op a b h.0 g.0) (two_f op a b)

pub texts_con : (r : Comparison) (a b : Value) → Con a → Con b → IfThere Con (fold_texts r a b)
texts_con r a b h g = con_of (fold_texts r a b) (fold_texts_is r a b) (texts_f r (characters a) (characters b))

pub logical_con : (op : Connective) (a b : Value) → Con a → Con b → IfThere Con (fold_logical op a b)
logical_con op a b h g = con_of (fold_logical op a b) (fold_logical_is op a b) (logical_f op a b)

-- ---- literals

byte_small : (n : ℕ) → nat_lt n 256 ≡ true → n < 256
byte_small n e = less n 256 e

characters_are : (cs : List ℕ) → are_bytes cs ≡ true → AreCharacters cs
characters_are [] e = tt
characters_are (c ∷ cs) e = let p = and_parts (nat_lt c 256) (are_bytes cs) e in (byte_small c p.0, characters_are cs p.1)

pub text_con : (cs : List ℕ) → text_fits cs ≡ true → Con (text_value cs)
text_con [] e = ((tt, λ n. absurd cc), omega arith)
text_con (c ∷ []) e = ((characters_are (c ∷ []) (and_parts (are_bytes (c ∷ [])) _ e).0).0, tt)
text_con (c ∷ d ∷ cs) e =
    let p = and_parts (are_bytes (c ∷ d ∷ cs)) (nat_lt (suc (length (c ∷ d ∷ cs))) (2 ^ 31)) e in
    ((characters_are (c ∷ d ∷ cs) p.0, λ n. more n), less (suc (length (c ∷ d ∷ cs))) (2 ^ 31) p.1)
  where
    more : suc (suc (length cs)) ≡ 1 → ⊥
    more n = omega (arith, n)

pub extreme_con : (max : Bool) (b : Basic) → Con (extreme max b)
extreme_con true basic.Boolean = (tt, tt)
extreme_con false basic.Boolean = (tt, tt)
extreme_con true basic.Char = (omega arith, tt)
extreme_con false basic.Char = (omega arith, tt)
extreme_con true basic.ShortInt = (refl, tt)
extreme_con false basic.ShortInt = (refl, tt)
extreme_con true basic.Integer = (refl, tt)
extreme_con false basic.Integer = (refl, tt)
extreme_con true basic.LongInt = (refl, tt)
extreme_con false basic.LongInt = (refl, tt)
extreme_con true basic.Set = (refl, tt)
extreme_con false basic.Set = (refl, tt)
