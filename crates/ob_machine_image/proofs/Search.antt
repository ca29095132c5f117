-- What a search by halves finds among entries that rise by their names.
use Rattle.std.proofs.Common.{◌≡◌, ℕ, zero, suc, ◌<◌, ◌≤◌, true, false, List, [], ◌∷◌, length, get_or, Some, None, refl, sym, ap, subst, ◌∙◌, arith, ⊎_elim}
use Rattle.std.specs.List.{AllByRecursion, HoldsAt}
use Rattle.std.specs.List.Sorted.{IsStrictlySortedBy, IsNonDecreasingBy, IsPartitionPoint}
use Rattle.std.specs.Ordering.{is_eq, ordering_index, ordering_reverse}
use Rattle.std.specs.declared.cmp.Ordering.{Ordering}
use Rattle.std.specs.declared.cmp.Ordering.TheVariants.{Less, Equal, Greater}
use Rattle.std.proofs.lemmas.Bool.{cases_lt}
use Rattle.std.proofs.lemmas.Cmp.{nat_list_cmp_total}
use Rattle.std.proofs.lemmas.List.Sorted.{IsNonDecreasingBy-from_default}
use Rattle.std.proofs.lemmas.Map.Lookups.{exact_bytes}
use Rattle.ob_obj.specs.Grammar.{by_name}
use Rattle.ob_obj.specs.Images.{same, named}
use Rattle.ob_machine_image.specs.Whole.{by_entry}

abbrev Entry : Type 0
Entry = List ℕ × ℕ

-- NAMES

equal_to_itself : (o : Ordering) → o ≡ ordering_reverse o → is_eq o ≡ true
equal_to_itself Less e = absurd cc
equal_to_itself Equal e = refl
equal_to_itself Greater e = absurd cc

same_itself : (name : List ℕ) → same name name ≡ true
same_itself name = equal_to_itself (by_name name name) (nat_list_cmp_total.antisymm name name)

less_apart : (a n : List ℕ) → by_name a n ≡ Less → same n a ≡ false
less_apart a n e = ap is_eq (nat_list_cmp_total.antisymm n a ∙ ap ordering_reverse e)

greater_apart : (a n : List ℕ) → by_name a n ≡ Greater → same n a ≡ false
greater_apart a n e = ap is_eq (nat_list_cmp_total.antisymm n a ∙ ap ordering_reverse e)

at_most_two : (o : Ordering) → ordering_index o ≤ 2
at_most_two Less = omega arith
at_most_two Equal = omega arith
at_most_two Greater = omega arith

lower : (a b n : List ℕ) → by_name a b ≡ Less → ordering_index (by_name a n) ≤ ordering_index (by_name b n)
lower a b n lt = go (by_name b n) refl
  where
    go : (o : Ordering) → by_name b n ≡ o → ordering_index (by_name a n) ≤ ordering_index o
    go Less e = subst (λ r. ordering_index r ≤ 0) (sym (nat_list_cmp_total.trans a b n lt e)) (omega arith)
    go Equal e = subst (λ l. ordering_index (by_name a l) ≤ 1) (exact_bytes b n e) (subst (λ r. ordering_index r ≤ 1) (sym lt) (omega arith))
    go Greater e = at_most_two (by_name a n)

-- ENTRIES

at_each : (P : Entry → Type 0) (l : List Entry) (i : ℕ) (d : Entry) → AllByRecursion P l → i < length l → P (get_or l i d)
at_each P [] i d all lt = absurd (omega arith)
at_each P (x ∷ l) zero d all lt = all.0
at_each P (x ∷ l) (suc i) d all lt = at_each P l i d all.1 (omega arith)

rising : (l : List Entry) (n : List ℕ) (d : Entry) → IsStrictlySortedBy by_entry l → (i j : ℕ) → i ≤ j → j < length l → ordering_index (by_name (get_or l i d).0 n) ≤ ordering_index (by_name (get_or l j d).0 n)
unfolding IsStrictlySortedBy
rising [] n d s i j le lt = absurd (omega arith)
rising (x ∷ l) n d s zero zero le lt = omega arith
rising (x ∷ l) n d s zero (suc j) le lt = lower x.0 (get_or l j d).0 n (at_each (λ y. by_entry x y ≡ Less) l j d s.0 (omega arith))
rising (x ∷ l) n d s (suc i) zero le lt = absurd (omega arith)
rising (x ∷ l) n d s (suc i) (suc j) le lt = rising l n d s.1 i j (omega arith) (omega arith)

named_none : (l : List Entry) (n : List ℕ) → ((j : ℕ) (d : Entry) → j < length l → same n (get_or l j d).0 ≡ false) → named l n ≡ None
named_none [] n apart = refl
named_none (x ∷ l) n apart = let e : same n x.0 ≡ false = apart 0 x (omega arith) in rw e (named_none l n (λ j d lt. apart (suc j) d (omega arith)))

named_at : (l : List Entry) (n : List ℕ) (i : ℕ) (d : Entry) → IsStrictlySortedBy by_entry l → i < length l → (get_or l i d).0 ≡ n → named l n ≡ Some (get_or l i d).1
unfolding IsStrictlySortedBy
named_at [] n i d s lt e = absurd (omega arith)
named_at (x ∷ l) n zero d s lt e = let h : same n x.0 ≡ true = subst (λ m. same n m ≡ true) (sym e) (same_itself n) in rw h refl
named_at (x ∷ l) n (suc i) d s lt e =
    let less : by_name x.0 (get_or l i d).0 ≡ Less = at_each (λ y. by_entry x y ≡ Less) l i d s.0 (omega arith) in
    let h : same n x.0 ≡ false = less_apart x.0 n (subst (λ m. by_name x.0 m ≡ Less) e less) in
    rw h (named_at l n i d s.1 (omega arith) e)

-- THE SEARCH

pub found : (l : List Entry) (n : List ℕ) (i : ℕ) (d : Entry) → IsStrictlySortedBy by_entry l → i < length l → HoldsAt (λ y. by_name y.0 n ≡ Equal) l i → named l n ≡ Some (get_or l i d).1
found l n i d s lt h = named_at l n i d s lt (exact_bytes (get_or l i d).0 n (h d))

pub absent : (l : List Entry) (n : List ℕ) (i : ℕ) → IsStrictlySortedBy by_entry l → (IsNonDecreasingBy (λ y. ordering_index (by_name y.0 n)) l → IsPartitionPoint (λ y. by_name y.0 n ≡ Less) (λ y. by_name y.0 n ≡ Greater) l i) → named l n ≡ None
absent l n i s parted =
    let p = parted (IsNonDecreasingBy-from_default (λ y. ordering_index (by_name y.0 n)) l ([], 0) (rising l n ([], 0) s)) in
    named_none l n (λ j d lt. ⊎_elim (λ below. less_apart (get_or l j d).0 n (p.0 j d (omega arith) below)) (λ above. greater_apart (get_or l j d).0 n (p.1 j d above lt)) (cases_lt j i))
