-- Reading pairs of digits, as a loop does.
use Rattle.std.proofs.Common.{◌≡◌, ℕ, suc, ◌+◌, ◌-◌, ◌*◌, ◌<◌, ◌≤◌, get_or, take, drop, List, [], ◌∷◌, ◌++◌, length, Option, Some, None, refl, sym, ap, ◌∙◌, append_assoc, arith}
use Rattle.std.proofs.lemmas.List.{append-nil, take_all}
use Rattle.ob_format.specs.Format.{◌>>=◌}
use Rattle.ob_desc.specs.Grammar.{hex_value, hex_at}

-- what was read before, and what is still read
abbrev pub with_more : List ℕ → Option (List ℕ) → Option (List ℕ)
with_more before read = read >>= λ more. Some (before ++ more)

regroup : (before : List ℕ) (c : ℕ) (read : Option (List ℕ)) → with_more before (read >>= λ more. Some (c ∷ more)) ≡ with_more (before ++ c ∷ []) read
regroup before c (Some more) = ap (λ (l : List ℕ). Some l) (simp append_assoc)
regroup before c None = refl

pub goes_on : (before : List ℕ) (h l : ℕ) (more : List ℕ) (a b : ℕ) (total : Option (List ℕ)) → hex_value h ≡ Some a → hex_value l ≡ Some b → with_more before (hex_at (h ∷ l ∷ more)) ≡ total → with_more (before ++ (a * 16 + b) ∷ []) (hex_at more) ≡ total
unfolding hex_at
goes_on before h l more a b total high low so_far =
    let one : with_more before (hex_at (h ∷ l ∷ more)) ≡ with_more (before ++ (a * 16 + b) ∷ []) (hex_at more) = rw (high, low) (regroup before (a * 16 + b) (hex_at more)) in
    sym one ∙ so_far

-- the same of the list that is cut behind its second element
pub goes_on_list : (before m : List ℕ) (a b : ℕ) (total : Option (List ℕ)) → 2 ≤ length m → hex_value (get_or m 0 0) ≡ Some a → hex_value (get_or m 1 0) ≡ Some b → with_more before (hex_at m) ≡ total → with_more (before ++ (a * 16 + b) ∷ []) (hex_at (take (length m - 2) (drop 2 m))) ≡ total
goes_on_list before [] a b total le high low so_far = absurd (omega arith)
goes_on_list before (h ∷ []) a b total le high low so_far = absurd (omega arith)
goes_on_list before (h ∷ l ∷ more) a b total le high low so_far =
    let e : suc (suc (length more)) - 2 ≡ length more = omega arith in
    let all : take (length more) more ≡ more = take_all (length more) more (omega arith) in
    rw (e, all) (goes_on before h l more a b total high low so_far)

pub high_fails : (before : List ℕ) (h l : ℕ) (more : List ℕ) (total : Option (List ℕ)) → hex_value h ≡ None → with_more before (hex_at (h ∷ l ∷ more)) ≡ total → total ≡ None
unfolding hex_at
high_fails before h l more total high so_far = sym so_far ∙ rw high refl

pub low_fails : (before : List ℕ) (h l : ℕ) (more : List ℕ) (a : ℕ) (total : Option (List ℕ)) → hex_value h ≡ Some a → hex_value l ≡ None → with_more before (hex_at (h ∷ l ∷ more)) ≡ total → total ≡ None
unfolding hex_at
low_fails before h l more a total high low so_far = sym so_far ∙ rw (high, low) refl

pub done : (before rest : List ℕ) (total : Option (List ℕ)) → rest ≡ [] → with_more before (hex_at rest) ≡ total → total ≡ Some before
unfolding hex_at
done before rest total is so_far = sym so_far ∙ ap (λ (l : List ℕ). with_more before (hex_at l)) is ∙ ap (λ (l : List ℕ). Some l) (append-nil before)

pub odd : (before rest : List ℕ) (total : Option (List ℕ)) → length rest < 2 → 0 < length rest → with_more before (hex_at rest) ≡ total → total ≡ None
unfolding hex_at
odd before [] total short long so_far = absurd (omega arith)
odd before (h ∷ []) total short long so_far = sym so_far
odd before (h ∷ l ∷ t) total short long so_far = absurd (omega arith)
