-- What a copy of some words comes to.
use Rattle.std.proofs.Common.{◌≡◌, ℕ, zero, suc, ◌+◌, ◌-◌, ◌<◌, ◌≤◌, Bool, true, false, List, ◌++◌, length, take, drop, Some, None, refl, append_assoc, arith}
use Rattle.std.specs.Prelude.{ℤ, pos, negsuc, if◌then◌else◌}
use Rattle.std.proofs.lemmas.Bool.Decides.{nat_tests}
use Rattle.std.proofs.lemmas.List.{length-take-le, length-drop}
use Rattle.std.specs.List.{copy_within}
use Rattle.ob_mem.specs.Words.{are_there, before, copied}

then_is : (b : Bool) (a t : ℕ) → (if b then Some a else None) ≡ Some t → (b ≡ true) × (a ≡ t)
then_is true a t e = (refl, cc)
then_is false a t e = absurd cc

pub there_fits : (len : ℕ) (x : ℤ) (n : ℕ) → are_there len x (suc n) ≡ true → before x + suc n ≤ len
there_fits len (pos zero) n e = absurd cc
there_fits len (pos (suc a)) n e = let le : a + suc n ≤ len = grind (arith, nat_tests) in omega arith
there_fits len (negsuc a) n e = absurd cc

pub copy_is : (words : List ℤ) (x y : ℤ) (n t s : ℕ) → 0 < n → (if are_there (length words) x n then Some (before x) else None) ≡ Some t → (if are_there (length words) y n then Some (before y) else None) ≡ Some s → copied words x y n ≡ Some (take t words ++ (take n (drop s words) ++ drop (t + n) words))
copy_is words x y zero t s lt ex ey = absurd (omega arith)
copy_is words x y (suc n) t s lt ex ey =
    let hx = then_is (are_there (length words) x (suc n)) (before x) t ex in
    let hy = then_is (are_there (length words) y (suc n)) (before y) s ey in
    let fits = there_fits (length words) y n hy.0 in
    let long : suc n ≤ length (drop (before y) words) = omega (arith, length-drop (before y) words) in
    let len : length (take (suc n) (drop (before y) words)) ≡ suc n = length-take-le (suc n) (drop (before y) words) long in
    rw (hx.0, hy.0, len, hx.1, hy.1) refl

pub moved_within : (d : List ℤ) (at s n : ℕ) → copy_within d s (s + n) at ≡ take at d ++ (take n (drop s d) ++ drop (at + n) d)
moved_within d at s n = let e : s + n - s ≡ n = omega arith in rw (e, append_assoc) refl
