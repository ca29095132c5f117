-- Reading values for as long as the text begins as one does, as a loop does.
use Rattle.std.proofs.Common.{◌≡◌, ℕ, zero, suc, ◌-◌, ◌+◌, ◌≤◌, ◌<◌, true, false, List, [], ◌∷◌, ◌++◌, Option, Some, None, Bool, refl, sym, ap, ◌∙◌, append_assoc, arith}
use Rattle.std.proofs.lemmas.List.{append-nil}
use Rattle.ob_format.specs.declared.fault.Fault.{Fault}
use Rattle.ob_format.specs.declared.fault.Fault.TheVariants as faults
use Rattle.ob_format.specs.Format.{◌>>=◌, Fails}
use Rattle.ob_desc.specs.Forms.{run_at}
use Rattle.ob_format.proofs.Loop.{with_front}

regroup : {A : Type 0} (before : List A) (x : A) (read : Option (List A × List ℕ)) → with_front before (read >>= λ y. Some (x ∷ y.0, y.1)) ≡ with_front (before ++ x ∷ []) read
regroup {A = A} before x (Some y) = ap (λ (xs : List A). Some (xs, y.1)) (simp append_assoc)
regroup before x None = refl

pub goes_on : {A : Type 0} (here : List ℕ → Bool) (f : List ℕ → Option (A × List ℕ)) (before : List A) (count i : ℕ) (t : List ℕ) (x : A) (rest : List ℕ) (total : Option (List A × List ℕ)) → i < count → here t ≡ true → f t ≡ Some (x, rest)
    → with_front before (run_at here f (count - i) t) ≡ total → with_front (before ++ x ∷ []) (run_at here f (count - (i + 1)) rest) ≡ total
unfolding run_at
goes_on here f before count i t x rest total lt is h so_far =
    let k : count - i ≡ suc (count - (i + 1)) = omega arith in
    let one : with_front before (run_at here f (count - i) t) ≡ with_front (before ++ x ∷ []) (run_at here f (count - (i + 1)) rest) = rw (k, is, h) (regroup before x (run_at here f (count - (i + 1)) rest)) in
    sym one ∙ so_far

pub fails : {A : Type 0} (e : Fault) (here : List ℕ → Bool) (f : List ℕ → Option (A × List ℕ)) (before : List A) (count i : ℕ) (t : List ℕ) (total : Option (List A × List ℕ)) → i < count → here t ≡ true → Fails e (f t)
    → with_front before (run_at here f (count - i) t) ≡ total → Fails e total
unfolding run_at
fails faults.Memory here f before count i t total lt is h so_far = tt
fails faults.Damaged here f before count i t total lt is h so_far =
    let k : count - i ≡ suc (count - (i + 1)) = omega arith in
    let one : with_front before (run_at here f (count - i) t) ≡ None = rw (k, is, h) refl in
    sym so_far ∙ one

none_here : {A : Type 0} (here : List ℕ → Bool) (f : List ℕ → Option (A × List ℕ)) (n : ℕ) (t : List ℕ) → here t ≡ false → run_at here f n t ≡ Some ([], t)
unfolding run_at
none_here here f zero t is = rw is refl
none_here here f (suc n) t is = rw is refl

pub stops : {A : Type 0} (here : List ℕ → Bool) (f : List ℕ → Option (A × List ℕ)) (before : List A) (n : ℕ) (t : List ℕ) (total : Option (List A × List ℕ)) → here t ≡ false → with_front before (run_at here f n t) ≡ total → total ≡ Some (before, t)
stops {A = A} here f before n t total is so_far = sym so_far ∙ rw (none_here here f n t is) (ap (λ (xs : List A). Some (xs, t)) (append-nil before))

pub over : {A : Type 0} (here : List ℕ → Bool) (f : List ℕ → Option (A × List ℕ)) (before : List A) (count i : ℕ) (t : List ℕ) (total : Option (List A × List ℕ)) → count ≤ i → here t ≡ true → with_front before (run_at here f (count - i) t) ≡ total → total ≡ None
unfolding run_at
over here f before count i t total le is so_far =
    let k : count - i ≡ 0 = omega arith in
    sym so_far ∙ rw (k, is) refl
