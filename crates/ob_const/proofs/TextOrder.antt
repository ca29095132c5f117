-- The comparison of texts.
use Rattle.std.proofs.Common.{◌≡◌, refl, sym, ap, ◌∙◌, ℕ, List, [], ◌∷◌, Bool, true, false, nat_eq, nat_lt, cond}
use Rattle.std.specs.Prelude.{◌&&◌, ◌||◌}
use Rattle.std.specs.Ordering.{nat_cmp, ordering_then}
use Rattle.std.specs.declared.cmp.Ordering.{Ordering}
use Rattle.std.specs.declared.cmp.Ordering.TheVariants.{Less, Equal, Greater}
use Rattle.std.specs.Cmp.Lexicographic.{pointwise, slice_cmp}
use Rattle.ob_types.specs.Numbers.{text_equal, text_less}

pub equal_texts : (a b : List ℕ) → pointwise nat_eq a b ≡ text_equal a b
equal_texts [] [] = refl
equal_texts [] (d ∷ b) = refl
equal_texts (c ∷ a) [] = refl
equal_texts (c ∷ a) (d ∷ b) = ap (λ t. nat_eq c d && t) (equal_texts a b)

is_less : Ordering → Bool
is_less Less = true
is_less Equal = false
is_less Greater = false

by_first : (l e : Bool) (o : Ordering) → is_less (ordering_then (cond l Less (cond e Equal Greater)) o) ≡ (l || (e && is_less o))
unfolding is_less
by_first true e o = refl
by_first false true o = refl
by_first false false o = refl

less_is : (a b : List ℕ) → is_less (slice_cmp nat_cmp a b) ≡ text_less a b
unfolding is_less
less_is [] [] = refl
less_is [] (d ∷ b) = refl
less_is (c ∷ a) [] = refl
less_is (c ∷ a) (d ∷ b) = by_first (nat_lt c d) (nat_eq c d) (slice_cmp nat_cmp a b) ∙ ap (λ t. nat_lt c d || (nat_eq c d && t)) (less_is a b)

pub less_texts : (a b : List ℕ) → Less ≡ slice_cmp nat_cmp a b → true ≡ text_less a b
unfolding is_less
less_texts a b e = ap is_less e ∙ less_is a b

pub equal_are : (a b : List ℕ) → Equal ≡ slice_cmp nat_cmp a b → false ≡ text_less a b
unfolding is_less
equal_are a b e = ap is_less e ∙ less_is a b

pub greater_texts : (a b : List ℕ) → Greater ≡ slice_cmp nat_cmp a b → false ≡ text_less a b
unfolding is_less
greater_texts a b e = ap is_less e ∙ less_is a b
