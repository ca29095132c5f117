-- Reading values to the end, as a loop does.
use Rattle.std.proofs.Common.{◌≡◌, ℕ, suc, ◌-◌, ◌+◌, ◌≤◌, ◌<◌, List, [], ◌∷◌, ◌++◌, length, Option, Some, None, refl, sym, ap, ◌∙◌, append_assoc, arith}
use Rattle.std.proofs.lemmas.List.{append-nil, take_all}
use Rattle.ob_format.specs.declared.fault.Fault.{Fault}
use Rattle.ob_format.specs.declared.fault.Fault.TheVariants as faults
use Rattle.std.proofs.Common.{take, drop}
use Rattle.ob_format.specs.Format.{◌>>=◌, Fails}
use Rattle.std.proofs.Common.{true, false, cond, eqb}
use Rattle.std.proofs.lemmas.Bool.{eqb-true}
use Rattle.std.proofs.lemmas.Bool.Decides.{Decides-eqb}
use Rattle.ob_format.specs.Words.{all_at, after_at, word_at, front, back}

-- what was read before, and what is still read
abbrev pub with_front : {A : Type 0} → List A → Option (List A) → Option (List A)
with_front before read = read >>= λ xs. Some (before ++ xs)

regroup : {A : Type 0} (before : List A) (x : A) (read : Option (List A)) → with_front before (read >>= λ xs. Some (x ∷ xs)) ≡ with_front (before ++ x ∷ []) read
regroup {A = A} before x (Some xs) = ap (λ (l : List A). Some l) (simp append_assoc)
regroup before x None = refl

one_more : {A : Type 0} (f : List ℕ → Option (A × List ℕ)) (n : ℕ) (t : List ℕ) → 0 < length t → all_at f (suc n) t ≡ (f t >>= λ a. all_at f n a.1 >>= λ xs. Some (a.0 ∷ xs))
unfolding all_at
one_more f n [] long = absurd (omega arith)
one_more f n (b ∷ bs) long = refl

pub goes_on : {A : Type 0} (f : List ℕ → Option (A × List ℕ)) (before : List A) (count i : ℕ) (t : List ℕ) (x : A) (rest : List ℕ) (total : Option (List A)) → i < count → 0 < length t → f t ≡ Some (x, rest)
    → with_front before (all_at f (count - i) t) ≡ total → with_front (before ++ x ∷ []) (all_at f (count - (i + 1)) rest) ≡ total
goes_on f before count i t x rest total lt long h so_far =
    let k : count - i ≡ suc (count - (i + 1)) = omega arith in
    let one : with_front before (all_at f (count - i) t) ≡ with_front (before ++ x ∷ []) (all_at f (count - (i + 1)) rest) = rw (k, one_more f (count - (i + 1)) t long, h) (regroup before x (all_at f (count - (i + 1)) rest)) in
    sym one ∙ so_far

pub ends : {A : Type 0} (e : Fault) (f : List ℕ → Option (A × List ℕ)) (before : List A) (count i : ℕ) (t : List ℕ) (total : Option (List A)) → i < count → 0 < length t → Fails e (f t)
    → with_front before (all_at f (count - i) t) ≡ total → Fails e total
ends faults.Memory f before count i t total lt long h so_far = tt
ends faults.Damaged f before count i t total lt long h so_far =
    let k : count - i ≡ suc (count - (i + 1)) = omega arith in
    let one : with_front before (all_at f (count - i) t) ≡ None = rw (k, one_more f (count - (i + 1)) t long, h) refl in
    sym so_far ∙ one

nothing_left : {A : Type 0} (f : List ℕ → Option (A × List ℕ)) (n : ℕ) (t : List ℕ) → length t ≤ 0 → all_at f n t ≡ Some []
unfolding all_at
nothing_left f n [] le = refl
nothing_left f n (b ∷ bs) le = absurd (omega arith)

no_turn_left : {A : Type 0} (f : List ℕ → Option (A × List ℕ)) (t : List ℕ) → 0 < length t → all_at f 0 t ≡ None
unfolding all_at
no_turn_left f [] lt = absurd (omega arith)
no_turn_left f (b ∷ bs) lt = refl

pub is_done : {A : Type 0} (f : List ℕ → Option (A × List ℕ)) (before : List A) (n : ℕ) (t : List ℕ) (total : Option (List A)) → length t ≤ 0 → with_front before (all_at f n t) ≡ total → total ≡ Some before
is_done {A = A} f before n t total le so_far = sym so_far ∙ rw (nothing_left f n t le) (ap (λ (l : List A). Some l) (append-nil before))

pub is_over : {A : Type 0} (f : List ℕ → Option (A × List ℕ)) (before : List A) (count i : ℕ) (t : List ℕ) (total : Option (List A)) → count ≤ i → 0 < length t → with_front before (all_at f (count - i) t) ≡ total → total ≡ None
is_over f before count i t total le lt so_far =
    let k : count - i ≡ 0 = omega arith in
    sym so_far ∙ rw (k, no_turn_left f t lt) refl

-- ---- with a byte c before each value

pub taken : {A : Type 0} (c : ℕ) (parse : List ℕ → Option A) (rest : List ℕ) (x : A) → parse (front c rest) ≡ Some x → after_at c parse (c ∷ rest) ≡ Some (x, back c rest)
unfolding after_at word_at
taken c parse rest x e = rw ((Decides-eqb c c).1 refl, e) refl

pub refused : {A : Type 0} (e : Fault) (c : ℕ) (parse : List ℕ → Option A) (rest : List ℕ) → Fails e (parse (front c rest)) → Fails e (after_at c parse (c ∷ rest))
unfolding after_at word_at
refused faults.Memory c parse rest e = tt
refused faults.Damaged c parse rest e = rw ((Decides-eqb c c).1 refl, e) refl

pub back_begins : (c : ℕ) (t : List ℕ) (b : ℕ) (bs : List ℕ) → back c t ≡ b ∷ bs → b ≡ c
back_begins c [] b bs e = absurd cc
back_begins c (x ∷ xs) b bs e = elim (eqb x c) as (λ v. eqb x c ≡ v → cond v (x ∷ xs) (back c xs) ≡ b ∷ bs → b ≡ c) [
  | true ↦ λ is e. let same : x ≡ c = eqb-true _ _ is in cc
  | false ↦ λ _ e. back_begins c xs b bs e
] refl e

tail_of : (c : ℕ) (m : List ℕ) → ((b : ℕ) (bs : List ℕ) → m ≡ b ∷ bs → b ≡ c) → 1 ≤ length m → c ∷ take (length m - 1) (drop 1 m) ≡ m
tail_of c [] begins long = absurd (omega arith)
tail_of c (b ∷ bs) begins long =
    let e : suc (length bs) - 1 ≡ length bs = omega arith in
    let is : b ≡ c = begins b bs refl in
    let all : take (length bs) bs ≡ bs = take_all (length bs) bs (omega arith) in
    rw (e, all, is) refl

pub tail_after : (c : ℕ) (t more : List ℕ) → more ≡ back c t → 1 ≤ length more → c ∷ take (length more - 1) (drop 1 more) ≡ more
tail_after c t more e long = tail_of c more (λ b bs same. back_begins c t b bs (sym e ∙ same)) long
