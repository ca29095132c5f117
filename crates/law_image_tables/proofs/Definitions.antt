-- The definitions of a type in the order of their numbers, and the table that they give.
use Rattle.std.proofs.Common.{◌≡◌, ℕ, zero, suc, ◌+◌, ◌≤◌, ◌<◌, List, [], ◌∷◌, ◌++◌, length, Option, Some, None, refl, sym, ap, ◌∙◌, subst, arith}
use Rattle.std.specs.Prelude.{Bool, true, false, nat_eq, take, replicate, slice_get, slice_set, if◌then◌else◌}
use Rattle.std.specs.declared.cmp.Ordering.{Ordering}
use Rattle.std.specs.declared.cmp.Ordering.TheVariants as order
use Rattle.std.proofs.lemmas.Bool.{eqb-true}
use Rattle.std.proofs.lemmas.Cmp.{ranked}
use Rattle.std.proofs.lemmas.List.{length-set, length-append, length-replicate}
use Rattle.std.proofs.lemmas.Option.{none-some}
use Rattle.ob_tree.specs.declared.proc_ref.ProcRef.{ProcRef}
use Rattle.ob_obj.specs.declared.parts.Definition.{Definition}
use Rattle.ob_obj.specs.Grammar.{by_number}
use Rattle.ob_obj.specs.Images.{with_own}
use Rattle.ob_layout.specs.Lists.{put_before, put_in, in_order}
use Rattle.law_simulation_relation.proofs.Names.{nat_same}
use Rattle.law_lists.proofs.Lists.{get_front}

-- the procedure of a number
abbrev pub found : List Definition → ℕ → Option ℕ
found [] n = None
found (d ∷ ds) n = if nat_eq n d.number then Some d.procedure else found ds n

-- different numbers
abbrev pub Differ : List Definition → Type 0
Differ [] = Unit {0}
Differ (d ∷ ds) = (found ds d.number ≡ None) × Differ ds

pub differs : (n m : ℕ) → (n ≡ m → ⊥) → nat_eq n m ≡ false
differs n m h = go (nat_eq n m) refl
  where
    go : (b : Bool) → nat_eq n m ≡ b → b ≡ false
    go true e = absurd (h (eqb-true n m e))
    go false e = refl

-- a number that is not found is not the first one's, and not found behind it
first_not : (n : ℕ) (y : Definition) (ys : List Definition) → found (y ∷ ys) n ≡ None → nat_eq n y.number ≡ false
first_not n y ys e = go (nat_eq n y.number) e
  where
    go : (b : Bool) → (if b then Some y.procedure else found ys n) ≡ None → b ≡ false
    go true f = absurd (none-some _ (sym f))
    go false f = refl

behind_not : (n : ℕ) (y : Definition) (ys : List Definition) → found (y ∷ ys) n ≡ None → found ys n ≡ None
behind_not n y ys e = sym (ap (λ b. if b then Some y.procedure else found ys n) (first_not n y ys e)) ∙ e

-- IN THEIR ORDER

put_found : (x y : Definition) (ys more : List Definition) (o : Ordering) → by_number x y ≡ o → found (y ∷ ys) x.number ≡ None → ((n : ℕ) → found more n ≡ found (x ∷ ys) n) → (n : ℕ) → found (put_before o x y ys more) n ≡ found (x ∷ y ∷ ys) n
put_found x y ys more order.Less r none h n = refl
put_found x y ys more order.Equal r none h n =
    let same : x.number ≡ y.number = ranked x.number y.number order.Equal (sym r) in
    let f : nat_eq x.number y.number ≡ false = first_not x.number y ys none in
    let t : nat_eq x.number y.number ≡ true = subst (λ k. nat_eq x.number k ≡ true) same (nat_same x.number) in
    absurd (cc)
put_found x y ys more order.Greater r none h n = go (nat_eq n y.number) (nat_eq n x.number) refl refl (h n)
  where
    go : (a b : Bool) → nat_eq n y.number ≡ a → nat_eq n x.number ≡ b → found more n ≡ (if b then Some x.procedure else found ys n) → (if a then Some y.procedure else found more n) ≡ (if b then Some x.procedure else (if a then Some y.procedure else found ys n))
    go true true e f k =
        let lt : y.number < x.number = ranked x.number y.number order.Greater (sym r) in
        let g = eqb-true n y.number e in
        let i = eqb-true n x.number f in
        absurd (omega (arith, lt, g, i))
    go true false e f k = refl
    go false b e f k = k

in_found : (x : Definition) (l : List Definition) → found l x.number ≡ None → (n : ℕ) → found (put_in by_number x l) n ≡ found (x ∷ l) n
in_found x [] none n = refl
in_found x (y ∷ ys) none n = put_found x y ys (put_in by_number x ys) (by_number x y) refl none (in_found x ys (behind_not x.number y ys none)) n

put_differ : (x y : Definition) (ys more : List Definition) (o : Ordering) → by_number x y ≡ o → found (y ∷ ys) x.number ≡ None → ((n : ℕ) → found more n ≡ found (x ∷ ys) n) → Differ (y ∷ ys) → Differ more → Differ (put_before o x y ys more)
put_differ x y ys more order.Less r none h d m = (none, d)
put_differ x y ys more order.Equal r none h d m = d
put_differ x y ys more order.Greater r none h d m =
    let lt : y.number < x.number = ranked x.number y.number order.Greater (sym r) in
    let not = differs y.number x.number (λ e. omega (arith, lt, e)) in
    (h y.number ∙ ap (λ b. if b then Some x.procedure else found ys y.number) not ∙ d.0, m)

in_differ : (x : Definition) (l : List Definition) → found l x.number ≡ None → Differ l → Differ (put_in by_number x l)
in_differ x [] none d = (refl, tt)
in_differ x (y ∷ ys) none d =
    let rest = behind_not x.number y ys none in
    put_differ x y ys (put_in by_number x ys) (by_number x y) refl none (in_found x ys rest) d (in_differ x ys rest d.1)

pub ordered : (l : List Definition) → Differ l → ((n : ℕ) → found (in_order by_number l) n ≡ found l n) × Differ (in_order by_number l)
ordered [] d = (λ n. refl, tt)
ordered (x ∷ l) d =
    let r = ordered l d.1 in
    let none = r.0 x.number ∙ d.0 in
    (λ n. in_found x (in_order by_number l) none n ∙ ap (λ o. if nat_eq n x.number then Some x.procedure else o) (r.0 n), in_differ x (in_order by_number l) none r.1)

-- THE TABLE

set_same : {A : Type 0} (l : List A) (i : ℕ) (v : A) → i < length l → slice_get (slice_set l i v) i ≡ Some v
set_same [] i v lt = absurd (omega (arith, lt))
set_same (x ∷ l) zero v lt = refl
set_same (x ∷ l) (suc i) v lt = set_same l i v (omega (arith, lt))

set_other : {A : Type 0} (l : List A) (i n : ℕ) (v : A) → (n ≡ i → ⊥) → slice_get (slice_set l i v) n ≡ slice_get l n
set_other [] i n v e = refl
set_other (x ∷ l) zero zero v e = absurd (e refl)
set_other (x ∷ l) zero (suc n) v e = refl
set_other (x ∷ l) (suc i) zero v e = refl
set_other (x ∷ l) (suc i) (suc n) v e = set_other l i n v (λ f. e (ap suc f))

module _ (m : ℕ) where
  abbrev pub entry : ℕ → Option ProcRef
  entry p = Some (record { «module» = m; proc = p })

  abbrev pub chosen : Option ℕ → Option (Option ProcRef) → Option (Option ProcRef)
  chosen None o = o
  chosen (Some p) o = Some (entry p)

  pub with_own_at : (ds : List Definition) (l : List (Option ProcRef)) (n : ℕ) → Differ ds → n < length l → slice_get (with_own m ds l) n ≡ chosen (found ds n) (slice_get l n)
  with_own_at [] l n d lt = refl
  with_own_at (x ∷ ds) l n d lt = with_own_at ds (slice_set l x.number (entry x.procedure)) n d.1 (subst (λ k. n < k) (sym (length-set l x.number (entry x.procedure))) lt) ∙ go (nat_eq n x.number) refl
    where
      here : List (Option ProcRef)
      here = slice_set l x.number (entry x.procedure)

      go : (b : Bool) → nat_eq n x.number ≡ b → chosen (found ds n) (slice_get here n) ≡ chosen (if b then Some x.procedure else found ds n) (slice_get l n)
      go true e =
          let i = eqb-true n x.number e in
          ap (λ o. chosen o (slice_get here n)) (ap (found ds) i ∙ d.0) ∙ ap (slice_get here) i ∙ set_same l x.number (entry x.procedure) (subst (λ k. k < length l) i lt)
      go false e = ap (chosen (found ds n)) (set_other l x.number n (entry x.procedure) (λ i. not_both (nat_eq n x.number) e (subst (λ k. nat_eq n k ≡ true) i (nat_same n))))
        where
          not_both : (b : Bool) → b ≡ false → b ≡ true → ⊥
          not_both b f t = absurd (cc)

take_at : {A : Type 0} (l : List A) (k n : ℕ) (x : A) → slice_get l n ≡ Some x → n < k → slice_get (take k l) n ≡ Some x
take_at [] k n x e lt = absurd (none-some _ e)
take_at (y ∷ l) zero n x e lt = absurd (omega (arith, lt))
take_at (y ∷ l) (suc k) zero x e lt = e
take_at (y ∷ l) (suc k) (suc n) x e lt = take_at l k n x e (omega (arith, lt))

take_length : {A : Type 0} (l : List A) (k : ℕ) → k ≤ length l → length (take k l) ≡ k
take_length l zero le = refl
take_length [] (suc k) le = absurd (omega (arith, le))
take_length (y ∷ l) (suc k) le = ap suc (take_length l k (omega (arith, le)))

-- the entries of a base, cut to so many, with none where it has no more
pub taken : (l : List (Option ProcRef)) (k n : ℕ) (x : Option ProcRef) → slice_get l n ≡ Some x → n < k → slice_get (take k (l ++ replicate k None)) n ≡ Some x
taken l k n x e lt = take_at (l ++ replicate k None) k n x (get_front l (replicate k None) n x e) lt

pub taken_length : (l : List (Option ProcRef)) (k : ℕ) → length (take k (l ++ replicate k None)) ≡ k
taken_length l k = let a = length-append l (replicate k None) in let r = length-replicate {A = Option ProcRef} k None in take_length (l ++ replicate k None) k (omega (arith, a, r))
