-- The records of an interface, which rise by the positions of their objects.
use Rattle.std.proofs.Common.{◌≡◌, ℕ, zero, suc, ◌+◌, ◌<◌, ◌≤◌, true, false, cond, List, [], ◌∷◌, ◌++◌, length, get_or, Some, None, refl, sym, ap, ◌∙◌, append_assoc, subst, arith, ⊎_elim}
use Rattle.std.specs.Prelude.{nat_eq, ◌≢◌, slice_get}
use Rattle.std.specs.List.{AllByRecursion, HoldsAt}
use Rattle.std.specs.List.Sorted.{IsStrictlySortedBy, IsNonDecreasingBy, IsPartitionPoint}
use Rattle.std.specs.Ordering.{nat_cmp, ordering_index}
use Rattle.std.specs.declared.cmp.Ordering.TheVariants.{Less, Equal, Greater}
use Rattle.std.proofs.lemmas.Bool.{cases_lt}
use Rattle.std.proofs.lemmas.Bool.Decides.{nat_tests}
use Rattle.std.proofs.lemmas.List.Sorted.{IsNonDecreasingBy-from_default}
use Rattle.ob_types.specs.declared.desc.Desc.{Desc}
use Rattle.ob_types.specs.declared.desc.Desc.TheVariants as desc
use Rattle.ob_types.specs.declared.face.Object.{Object}
use Rattle.ob_types.specs.declared.face.Interface.{Interface}
use Rattle.ob_types.specs.Relations.{is_record}
use Rattle.ob_env.specs.Shown.{blank}
use Rattle.ob_env_shown.specs.declared.blank.BlankRecord.{BlankRecord}
use Rattle.ob_env_shown.specs.Faces.{blank_of, blanks_from, rows_of, blank_at, by_place}

-- ---- a row as it is made

pub blanks_more : (blanks more : List BlankRecord) (n : ℕ) (o : Object) (rest : List Object) (all : List BlankRecord) → blanks ++ blanks_from n (o ∷ rest) ≡ all → more ≡ blanks ++ blank_of n o.desc → more ++ blanks_from (suc n) rest ≡ all
blanks_more blanks more n o rest all so_far is = ap (λ (l : List BlankRecord). l ++ blanks_from (suc n) rest) is ∙ append_assoc blanks (blank_of n o.desc) (blanks_from (suc n) rest) ∙ so_far

pub rows_behind : (is more : List Interface) (rows behind all : List (List BlankRecord)) → rows ≡ rows_of is → behind ≡ rows_of more → all ≡ rows ++ behind → all ≡ rows_of (is ++ more)
rows_behind is more rows behind all e f g = g ∙ ap (λ l. l ++ behind) e ∙ ap (λ l. rows_of is ++ l) f ∙ both is
  where
    both : (l : List Interface) → rows_of l ++ rows_of more ≡ rows_of (l ++ more)
    both [] = refl
    both (x ∷ l) = ap (λ (r : List (List BlankRecord)). blanks_from 0 x.objects ∷ r) (both l)

-- ---- positions

less : (a b : ℕ) → nat_cmp a b ≡ Less → a < b
less a b e = grind (arith, nat_tests)

greater : (a b : ℕ) → nat_cmp a b ≡ Greater → b < a
greater a b e = grind (arith, nat_tests)

equal : (a b : ℕ) → nat_cmp a b ≡ Equal → a ≡ b
equal a b e = grind (arith, nat_tests)

is_less : (a b : ℕ) → a < b → nat_cmp a b ≡ Less
is_less a b l = grind (arith, nat_tests)

is_other : (a b : ℕ) → a < b → nat_eq a b ≡ false
is_other a b l = grind (arith, nat_tests)

itself : (a : ℕ) → nat_eq a a ≡ true
itself a = grind (arith, nat_tests)

-- ---- what stands in it

own_at : (k : ℕ) (d : Desc) (more : List BlankRecord) → is_record d ≡ true → blank_at (blank_of k d ++ more) k ≡ Some (blank d)
own_at k (desc.Record r) more e = rw (itself k) refl
own_at k (desc.Const v) more e = absurd cc
own_at k (desc.Var m t) more e = absurd cc
own_at k (desc.Proc s) more e = absurd cc
own_at k (desc.Alias m t) more e = absurd cc
own_at k (desc.Array m i t) more e = absurd cc
own_at k (desc.OpenArray m t) more e = absurd cc
own_at k (desc.Pointer m t) more e = absurd cc
own_at k (desc.ProcType m s) more e = absurd cc

-- what stands before a position is passed over
passed : (k : ℕ) (d : Desc) (more : List BlankRecord) (n : ℕ) → k < n → blank_at (blank_of k d ++ more) n ≡ blank_at more n
passed k (desc.Record r) more n l = rw (is_other k n l) refl
passed k (desc.Const v) more n l = refl
passed k (desc.Var m t) more n l = refl
passed k (desc.Proc s) more n l = refl
passed k (desc.Alias m t) more n l = refl
passed k (desc.Array m i t) more n l = refl
passed k (desc.OpenArray m t) more n l = refl
passed k (desc.Pointer m t) more n l = refl
passed k (desc.ProcType m s) more n l = refl

found_from : (os : List Object) (at n : ℕ) (o : Object) → slice_get os at ≡ Some o → is_record o.desc ≡ true → blank_at (blanks_from n os) (n + at) ≡ Some (blank o.desc)
found_from [] at n o e r = absurd cc
found_from (p ∷ os) zero n o e r =
    let same : p ≡ o = cc in
    let here : n + 0 ≡ n = omega arith in
    ap (λ (k : ℕ). blank_at (blank_of n p.desc ++ blanks_from (suc n) os) k) here
    ∙ ap (λ (x : Object). blank_at (blank_of n x.desc ++ blanks_from (suc n) os) n) same
    ∙ own_at n o.desc (blanks_from (suc n) os) r
found_from (p ∷ os) (suc at) n o e r =
    let next : n + suc at ≡ suc n + at = omega arith in
    let before : n < n + suc at = omega arith in
    passed n p.desc (blanks_from (suc n) os) (n + suc at) before
    ∙ ap (λ (k : ℕ). blank_at (blanks_from (suc n) os) k) next
    ∙ found_from os at (suc n) o e r

pub blank_found : (os : List Object) (at : ℕ) (o : Object) → slice_get os at ≡ Some o → is_record o.desc ≡ true → blank_at (blanks_from 0 os) at ≡ Some (blank o.desc)
blank_found os at o e r = let z : at ≡ 0 + at = omega arith in ap (λ (k : ℕ). blank_at (blanks_from 0 os) k) z ∙ found_from os at 0 o e r

pub other_blank : (d : Desc) → is_record d ≡ false → d ≡ blank d
other_blank (desc.Record r) e = absurd cc
other_blank (desc.Const v) e = refl
other_blank (desc.Var m t) e = refl
other_blank (desc.Proc s) e = refl
other_blank (desc.Alias m t) e = refl
other_blank (desc.Array m n t) e = refl
other_blank (desc.OpenArray m t) e = refl
other_blank (desc.Pointer m t) e = refl
other_blank (desc.ProcType m s) e = refl

-- ---- a row rises

-- all of a row stand behind a position
above : (b : BlankRecord) (k : ℕ) (os : List Object) → b.at < k → AllByRecursion (λ y. by_place b y ≡ Less) (blanks_from k os)
above b k [] lt = tt
above b k (o ∷ os) lt = go o.desc (above b (suc k) os (omega (arith, lt)))
  where
    go : (d : Desc) → AllByRecursion (λ y. by_place b y ≡ Less) (blanks_from (suc k) os) → AllByRecursion (λ y. by_place b y ≡ Less) (blank_of k d ++ blanks_from (suc k) os)
    go (desc.Record r) rest = (is_less b.at k lt, rest)
    go (desc.Const v) rest = rest
    go (desc.Var m t) rest = rest
    go (desc.Proc s) rest = rest
    go (desc.Alias m t) rest = rest
    go (desc.Array m i t) rest = rest
    go (desc.OpenArray m t) rest = rest
    go (desc.Pointer m t) rest = rest
    go (desc.ProcType m s) rest = rest

rises_from : (n : ℕ) (os : List Object) → IsStrictlySortedBy by_place (blanks_from n os)
unfolding IsStrictlySortedBy
rises_from n [] = tt
rises_from n (o ∷ os) = go o.desc (rises_from (suc n) os)
  where
    go : (d : Desc) → IsStrictlySortedBy by_place (blanks_from (suc n) os) → IsStrictlySortedBy by_place (blank_of n d ++ blanks_from (suc n) os)
    go (desc.Record r) rest = (above (record { at = n; desc = blank (desc.Record r) }) (suc n) os (omega arith), rest)
    go (desc.Const v) rest = rest
    go (desc.Var m t) rest = rest
    go (desc.Proc s) rest = rest
    go (desc.Alias m t) rest = rest
    go (desc.Array m i t) rest = rest
    go (desc.OpenArray m t) rest = rest
    go (desc.Pointer m t) rest = rest
    go (desc.ProcType m s) rest = rest

pub row_rises : (row : List BlankRecord) (os : List Object) → row ≡ blanks_from 0 os → IsStrictlySortedBy by_place row
row_rises row os e = subst (λ (l : List BlankRecord). IsStrictlySortedBy by_place l) (sym e) (rises_from 0 os)

-- ---- a search by halves

at_each : (P : BlankRecord → Type 0) (l : List BlankRecord) (i : ℕ) (d : BlankRecord) → AllByRecursion P l → i < length l → P (get_or l i d)
at_each P [] i d all lt = absurd (omega arith)
at_each P (x ∷ l) zero d all lt = all.0
at_each P (x ∷ l) (suc i) d all lt = at_each P l i d all.1 (omega arith)

above_all : (l : List BlankRecord) (x : BlankRecord) (i : ℕ) (d : BlankRecord) → AllByRecursion (λ y. by_place x y ≡ Less) l → i < length l → x.at < (get_or l i d).at
above_all l x i d all lt = less x.at (get_or l i d).at (at_each (λ y. by_place x y ≡ Less) l i d all lt)

rising : (l : List BlankRecord) (d : BlankRecord) → IsStrictlySortedBy by_place l → (i j : ℕ) → i ≤ j → j < length l → (get_or l i d).at ≤ (get_or l j d).at
unfolding IsStrictlySortedBy
rising [] d s i j le lt = absurd (omega arith)
rising (x ∷ l) d s zero zero le lt = omega arith
rising (x ∷ l) d s zero (suc j) le lt = let above = above_all l x j d s.0 (omega arith) in omega arith
rising (x ∷ l) d s (suc i) zero le lt = absurd (omega arith)
rising (x ∷ l) d s (suc i) (suc j) le lt = rising l d s.1 i j (omega arith) (omega arith)

rising_index : (a b n : ℕ) → a ≤ b → ordering_index (nat_cmp a n) ≤ ordering_index (nat_cmp b n)
rising_index a b n le = grind (arith, nat_tests)

none_at : (l : List BlankRecord) (n : ℕ) → ((j : ℕ) (d : BlankRecord) → j < length l → (get_or l j d).at ≢ n) → blank_at l n ≡ None
none_at [] n apart = refl
none_at (x ∷ l) n apart =
    let other = apart 0 x (omega arith) in
    let e : nat_eq x.at n ≡ false = grind (arith, nat_tests) in
    rw e (none_at l n (λ j d lt. apart (suc j) d (omega arith)))

one_at : (l : List BlankRecord) (n i : ℕ) (d : BlankRecord) → IsStrictlySortedBy by_place l → i < length l → (get_or l i d).at ≡ n → blank_at l n ≡ Some (get_or l i d).desc
unfolding IsStrictlySortedBy
one_at [] n i d s lt e = absurd (omega arith)
one_at (x ∷ l) n zero d s lt e = let h : nat_eq x.at n ≡ true = grind (arith, nat_tests) in rw h refl
one_at (x ∷ l) n (suc i) d s lt e =
    let above = above_all l x i d s.0 (omega arith) in
    let h : nat_eq x.at n ≡ false = grind (arith, nat_tests) in
    rw h (one_at l n i d s.1 (omega arith) e)

pub found : (l : List BlankRecord) (n i : ℕ) (d : BlankRecord) → IsStrictlySortedBy by_place l → i < length l → HoldsAt (λ y. nat_cmp y.at n ≡ Equal) l i → blank_at l n ≡ Some (get_or l i d).desc
found l n i d s lt h = one_at l n i d s lt (equal (get_or l i d).at n (h d))

pub absent : (l : List BlankRecord) (n i : ℕ) (d : BlankRecord) → IsStrictlySortedBy by_place l → (IsNonDecreasingBy (λ y. ordering_index (nat_cmp y.at n)) l → IsPartitionPoint (λ y. nat_cmp y.at n ≡ Less) (λ y. nat_cmp y.at n ≡ Greater) l i) → blank_at l n ≡ None
absent l n i d s parted =
    let p = parted (IsNonDecreasingBy-from_default (λ y. ordering_index (nat_cmp y.at n)) l d (λ i j le lt. rising_index (get_or l i d).at (get_or l j d).at n (rising l d s i j le lt))) in
    none_at l n (λ j d lt same. ⊎_elim (λ below. let l = less (get_or l j d).at n (p.0 j d (omega arith) below) in omega arith) (λ above. let g = greater (get_or l j d).at n (p.1 j d above lt) in omega arith) (cases_lt j i))
