-- What a search by halves finds among bound procedures that rise by number.
use Rattle.std.proofs.Common.{◌≡◌, ℕ, zero, suc, ◌<◌, ◌≤◌, true, false, List, [], ◌∷◌, length, get_or, Some, None, refl, arith, ⊎_elim}
use Rattle.std.specs.Prelude.{nat_eq, ◌≢◌}
use Rattle.std.specs.List.{AllByRecursion, HoldsAt}
use Rattle.std.specs.List.Sorted.{IsStrictlySortedBy, IsNonDecreasingBy, IsPartitionPoint}
use Rattle.std.specs.Ordering.{nat_cmp, ordering_index}
use Rattle.std.specs.declared.cmp.Ordering.TheVariants.{Less, Equal, Greater}
use Rattle.std.proofs.lemmas.Bool.{cases_lt}
use Rattle.std.proofs.lemmas.Bool.Decides.{nat_tests}
use Rattle.std.proofs.lemmas.List.Sorted.{IsNonDecreasingBy-from_default}
use Rattle.ob_tdesc.specs.declared.declaration.OwnMethod.{OwnMethod}
use Rattle.ob_tdesc.specs.Tables.{by_number, defined}

less : (a b : ℕ) → nat_cmp a b ≡ Less → a < b
less a b e = grind (arith, nat_tests)

greater : (a b : ℕ) → nat_cmp a b ≡ Greater → b < a
greater a b e = grind (arith, nat_tests)

equal : (a b : ℕ) → nat_cmp a b ≡ Equal → a ≡ b
equal a b e = grind (arith, nat_tests)

at_each : (P : OwnMethod → Type 0) (l : List OwnMethod) (i : ℕ) (d : OwnMethod) → AllByRecursion P l → i < length l → P (get_or l i d)
at_each P [] i d all lt = absurd (omega arith)
at_each P (x ∷ l) zero d all lt = all.0
at_each P (x ∷ l) (suc i) d all lt = at_each P l i d all.1 (omega arith)

pub above_all : (l : List OwnMethod) (x : OwnMethod) (i : ℕ) (d : OwnMethod) → AllByRecursion (λ y. by_number x y ≡ Less) l → i < length l → x.number < (get_or l i d).number
above_all l x i d all lt = less x.number (get_or l i d).number (at_each (λ y. by_number x y ≡ Less) l i d all lt)

rising : (l : List OwnMethod) (d : OwnMethod) → IsStrictlySortedBy by_number l → (i j : ℕ) → i ≤ j → j < length l → (get_or l i d).number ≤ (get_or l j d).number
unfolding IsStrictlySortedBy
rising [] d s i j le lt = absurd (omega arith)
rising (x ∷ l) d s zero zero le lt = omega arith
rising (x ∷ l) d s zero (suc j) le lt = let above = above_all l x j d s.0 (omega arith) in omega arith
rising (x ∷ l) d s (suc i) zero le lt = absurd (omega arith)
rising (x ∷ l) d s (suc i) (suc j) le lt = rising l d s.1 i j (omega arith) (omega arith)

rising_index : (a b n : ℕ) → a ≤ b → ordering_index (nat_cmp a n) ≤ ordering_index (nat_cmp b n)
rising_index a b n le = grind (arith, nat_tests)

defined_none : (l : List OwnMethod) (n : ℕ) → ((j : ℕ) (d : OwnMethod) → j < length l → (get_or l j d).number ≢ n) → defined l n ≡ None
defined_none [] n apart = refl
defined_none (x ∷ l) n apart =
    let other = apart 0 x (omega arith) in
    let e : nat_eq x.number n ≡ false = grind (arith, nat_tests) in
    rw e (defined_none l n (λ j d lt. apart (suc j) d (omega arith)))

defined_at : (l : List OwnMethod) (n i : ℕ) (d : OwnMethod) → IsStrictlySortedBy by_number l → i < length l → (get_or l i d).number ≡ n → defined l n ≡ Some (get_or l i d).procedure
unfolding IsStrictlySortedBy
defined_at [] n i d s lt e = absurd (omega arith)
defined_at (x ∷ l) n zero d s lt e = let h : nat_eq x.number n ≡ true = grind (arith, nat_tests) in rw h refl
defined_at (x ∷ l) n (suc i) d s lt e =
    let above = above_all l x i d s.0 (omega arith) in
    let h : nat_eq x.number n ≡ false = grind (arith, nat_tests) in
    rw h (defined_at l n i d s.1 (omega arith) e)

-- THE SEARCH

pub found : (l : List OwnMethod) (n i : ℕ) (d : OwnMethod) → IsStrictlySortedBy by_number l → i < length l → HoldsAt (λ y. nat_cmp y.number n ≡ Equal) l i → defined l n ≡ Some (get_or l i d).procedure
found l n i d s lt h = defined_at l n i d s lt (equal (get_or l i d).number n (h d))

pub absent : (l : List OwnMethod) (n i : ℕ) (d : OwnMethod) → IsStrictlySortedBy by_number l → (IsNonDecreasingBy (λ y. ordering_index (nat_cmp y.number n)) l → IsPartitionPoint (λ y. nat_cmp y.number n ≡ Less) (λ y. nat_cmp y.number n ≡ Greater) l i) → defined l n ≡ None
absent l n i d s parted =
    let p = parted (IsNonDecreasingBy-from_default (λ y. ordering_index (nat_cmp y.number n)) l d (λ i j le lt. rising_index (get_or l i d).number (get_or l j d).number n (rising l d s i j le lt))) in
    defined_none l n (λ j d lt same. ⊎_elim (λ below. let l = less (get_or l j d).number n (p.0 j d (omega arith) below) in omega arith) (λ above. let g = greater (get_or l j d).number n (p.1 j d above lt) in omega arith) (cases_lt j i))
