-- A text is cut before the first byte c.
use Rattle.std.proofs.Common.{◌≡◌, ℕ, zero, suc, ◌<◌, ◌≤◌, ◌≢◌, true, false, eqb, List, [], ◌∷◌, length, get_or, take, drop, refl, ap, arith}
use Rattle.std.proofs.lemmas.Bool.Decides.{Decides-eqb, nat_tests}
use Rattle.ob_format.specs.Words.{front, back}

pub split_is : (c : ℕ) (t : List ℕ) (i : ℕ) → i ≤ length t → ((k : ℕ) → k < i → get_or t k 0 ≢ c) → (i < length t → get_or t i 0 ≡ c) → (take i t ≡ front c t) × (drop i t ≡ back c t)
split_is c [] zero le before at = (refl, refl)
split_is c [] (suc i) le before at = absurd (omega arith)
split_is c (b ∷ bs) zero le before at = let e : eqb b c ≡ true = (Decides-eqb b c).1 (at (omega arith)) in rw e (refl, refl)
split_is c (b ∷ bs) (suc i) le before at =
    let apart : b ≢ c = before 0 (omega arith) in
    let e : eqb b c ≡ false = grind (arith, nat_tests) in
    let rest = split_is c bs i (omega arith) (λ k lt. before (suc k) (omega arith)) (λ lt. at (omega arith)) in
    rw e (ap (λ (l : List ℕ). b ∷ l) rest.0, rest.1)
