-- Where the first line ends.
use Rattle.std.proofs.Common.{◌≡◌, ℕ, zero, suc, ◌+◌, ◌<◌, ◌≤◌, List, [], ◌∷◌, ◌++◌, length, take, drop, get_or, refl, ap, ◌∙◌, arith, add-one, eq-eqb, inl, inr}
use Rattle.std.specs.Prelude.{cond}
use Rattle.std.proofs.lemmas.Bool.{ne_eqb}
use Rattle.std.proofs.lemmas.List.{length-take, length-drop}
use Rattle.ob_shell_lines.specs.Lines.{lines_of, onto}
use Rattle.ob_shell_lines.specs.Splits.{FirstLine}

lines_ended : (bs more : List ℕ) (i : ℕ) → i < length bs → get_or bs i 0 ≡ 10 → ((k : ℕ) → k < i → get_or bs k 0 ≡ 10 → ⊥) → lines_of (bs ++ more) ≡ take i bs ∷ lines_of (drop (i + 1) bs ++ more)
unfolding lines_of
lines_ended [] more i h e differ = absurd (omega arith)
lines_ended (b ∷ bs) more zero h e differ = ap (λ t. cond t ([] ∷ lines_of (bs ++ more)) (onto b (lines_of (bs ++ more)))) (eq-eqb b 10 e)
lines_ended (b ∷ bs) more (suc i) h e differ =
    let rest = lines_ended bs more i (omega arith) e (λ k lt q. differ (suc k) (omega arith) q) in
    let differs : b ≡ 10 → ⊥ = λ q. differ 0 (omega arith) q in
    ap (λ t. cond t ([] ∷ lines_of (bs ++ more)) (onto b (lines_of (bs ++ more)))) (ne_eqb b 10 differs)
    ∙ ap (onto b) rest
    ∙ rw (add-one, add-one) refl

onto_some : (b n : ℕ) (x : List (List ℕ)) → ((l : List ℕ) × (ls : List (List ℕ)) × (x ≡ l ∷ ls) × (n ≤ length l)) → (l : List ℕ) × (ls : List (List ℕ)) × (onto b x ≡ l ∷ ls) × (suc n ≤ length l)
onto_some b n x h = (b ∷ h.0, h.1, ap (onto b) h.2, omega (arith, h.3))

onto_any : (b : ℕ) (x : List (List ℕ)) → (l : List ℕ) × (ls : List (List ℕ)) × (onto b x ≡ l ∷ ls) × (1 ≤ length l)
onto_any b [] = (b ∷ [], [], refl, omega arith)
onto_any b (l ∷ ls) = (b ∷ l, ls, refl, omega arith)

lines_open : (bs more : List ℕ) → 0 < length bs → ((k : ℕ) → k < length bs → get_or bs k 0 ≡ 10 → ⊥) → (l : List ℕ) × (ls : List (List ℕ)) × (lines_of (bs ++ more) ≡ l ∷ ls) × (length bs ≤ length l)
unfolding lines_of
lines_open [] more h differ = absurd (omega arith)
lines_open (b ∷ []) more h differ =
    let differs : b ≡ 10 → ⊥ = λ q. differ 0 (omega arith) q in
    let r = onto_any b (lines_of more) in
    (r.0, r.1, ap (λ t. cond t ([] ∷ lines_of more) (onto b (lines_of more))) (ne_eqb b 10 differs) ∙ r.2, r.3)
lines_open (b ∷ c ∷ bs) more h differ =
    let differs : b ≡ 10 → ⊥ = λ q. differ 0 (omega arith) q in
    let rest = lines_open (c ∷ bs) more (omega arith) (λ k lt q. differ (suc k) (omega arith) q) in
    let r = onto_some b (length (c ∷ bs)) (lines_of ((c ∷ bs) ++ more)) rest in
    (r.0, r.1, ap (λ t. cond t ([] ∷ lines_of ((c ∷ bs) ++ more)) (onto b (lines_of ((c ∷ bs) ++ more)))) (ne_eqb b 10 differs) ∙ r.2, r.3)

lines_last : (bs : List ℕ) → 0 < length bs → ((k : ℕ) → k < length bs → get_or bs k 0 ≡ 10 → ⊥) → lines_of bs ≡ bs ∷ []
unfolding lines_of
lines_last [] h differ = absurd (omega arith)
lines_last (b ∷ []) h differ =
    let differs : b ≡ 10 → ⊥ = λ q. differ 0 (omega arith) q in
    ap (λ t. cond t ([] ∷ []) (onto b [])) (ne_eqb b 10 differs)
lines_last (b ∷ c ∷ bs) h differ =
    let differs : b ≡ 10 → ⊥ = λ q. differ 0 (omega arith) q in
    let rest = lines_last (c ∷ bs) (omega arith) (λ k lt q. differ (suc k) (omega arith) q) in
    ap (λ t. cond t ([] ∷ lines_of (c ∷ bs)) (onto b (lines_of (c ∷ bs)))) (ne_eqb b 10 differs)
    ∙ ap (onto b) rest

pub first_ended : (bs : List ℕ) (i : ℕ) → i < length bs → get_or bs i 0 ≡ 10 → ((k : ℕ) → k < i → get_or bs k 0 ≡ 10 → ⊥) → FirstLine bs (take i bs) (drop (i + 1) bs)
first_ended bs i h e differ = inl (record { parts = omega (arith, length-take i bs, length-drop (i + 1) bs); lines = λ more. lines_ended bs more i h e differ })

pub first_open : (bs : List ℕ) → 0 < length bs → ((k : ℕ) → k < length bs → get_or bs k 0 ≡ 10 → ⊥) → FirstLine bs bs []
first_open bs h differ = inr (record { all = refl; none = refl; last = lines_last bs h differ; more = λ more. lines_open bs more h differ })
