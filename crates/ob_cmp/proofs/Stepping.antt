-- What one step of a comparison leaves.
use Rattle.std.proofs.Common.{◌≡◌, ◌≤◌, ◌<◌, ◌-◌, ℕ, zero, suc, length, take, drop, get_or, arith, List, [], ◌∷◌, ◌++◌, map, append_assoc, refl, sym, ap, ◌∙◌}
use Rattle.ob_types.specs.declared.face.Object.{Object}
use Rattle.ob_cmp.specs.declared.verdict.Kind.{Kind}
use Rattle.ob_cmp.specs.declared.verdict.Verdict.{Verdict}
use Rattle.ob_cmp.specs.Verdicts.{verdict_of, verdicts_in}
use Rattle.ob_cmp.specs.Rising.{shown}

all_taken : (n : ℕ) (xs : List Object) → length xs ≤ n → take n xs ≡ xs
all_taken zero [] l = refl
all_taken zero (x ∷ xs) l = absurd (omega (arith, l))
all_taken (suc n) [] l = refl
all_taken (suc n) (x ∷ xs) l = ap (λ r. x ∷ r) (all_taken n xs (omega (arith, l)))

-- what was added, and what is left, is the whole
pub added : (v0 v1 vs rest whole : List Verdict) → v1 ≡ v0 ++ vs → whole ≡ vs ++ rest → v1 ++ rest ≡ v0 ++ whole
added v0 v1 vs rest whole h e = ap (λ v. v ++ rest) h ∙ append_assoc v0 vs rest ∙ ap (λ l. v0 ++ l) (sym e)

-- a list with a first item
pub front_is : (xs : List Object) (x : Object) → 1 ≤ length xs → x ≡ get_or xs 0 x → xs ≡ x ∷ take (length xs - 1) (drop 1 xs)
front_is [] x long is = absurd (omega (arith, long))
front_is (y ∷ ys) x long is = ap (λ z. z ∷ ys) (sym is) ∙ ap (λ l. x ∷ l) (sym (all_taken (length (y ∷ ys) - 1) ys (omega arith)))

pub none_is : (xs : List Object) → length xs < 1 → xs ≡ []
none_is [] short = refl
none_is (y ∷ ys) short = absurd (omega (arith, short))
