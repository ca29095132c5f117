-- Where words begin and end.
use Rattle.std.proofs.Common.{◌≡◌, ℕ, zero, suc, ◌<◌, List, [], ◌∷◌, length, take, drop, get_or, refl, sym, ap, ◌∙◌, arith, true, false}
use Rattle.std.specs.Prelude.{cond}
use Rattle.std.proofs.lemmas.Bool.{false≢true}
use Rattle.ob_shell_lines.specs.Lines.{words_of, joined, onto, is_blank}
use Rattle.ob_shell_lines.specs.Splits.{starts_blank}

pub words_skip : (bs : List ℕ) (i : ℕ) → i < length bs → ((k : ℕ) → k < i → is_blank (get_or bs k 0) ≡ true) → words_of (drop i bs) ≡ words_of bs
unfolding words_of
words_skip [] i h blank = absurd (omega arith)
words_skip (b ∷ bs) zero h blank = refl
words_skip (b ∷ bs) (suc i) h blank =
    words_skip bs i (omega arith) (λ k lt. blank (suc k) (omega arith))
    ∙ sym (ap (λ t. cond t (words_of bs) (joined b bs (words_of bs))) (blank 0 (omega arith)))

pub words_none : (bs : List ℕ) → ((k : ℕ) → k < length bs → is_blank (get_or bs k 0) ≡ true) → words_of bs ≡ []
unfolding words_of
words_none [] blank = refl
words_none (b ∷ bs) blank =
    ap (λ t. cond t (words_of bs) (joined b bs (words_of bs))) (blank 0 (omega arith))
    ∙ words_none bs (λ k lt. blank (suc k) (omega arith))

pub words_blank : (bs : List ℕ) → ((k : ℕ) → k < length bs → is_blank (get_or bs k 0) ≡ true) → words_of [] ≡ words_of bs
unfolding words_of
words_blank bs blank = sym (words_none bs blank)

pub starts_drop : (bs : List ℕ) (i : ℕ) → i < length bs → is_blank (get_or bs i 0) ≡ false → starts_blank (drop i bs) ≡ false
starts_drop [] i h e = absurd (omega arith)
starts_drop (b ∷ bs) zero h e = e
starts_drop (b ∷ bs) (suc i) h e = starts_drop bs i (omega arith) e

pub words_take : (bs : List ℕ) (i : ℕ) → i < length bs → starts_blank bs ≡ false → is_blank (get_or bs i 0) ≡ true → ((k : ℕ) → k < i → is_blank (get_or bs k 0) ≡ false) → words_of bs ≡ take i bs ∷ words_of (drop i bs)
unfolding words_of
words_take [] i h s e differ = absurd (omega arith)
words_take (b ∷ bs) zero h s e differ = absurd (false≢true (sym s ∙ e))
words_take (b ∷ []) (suc i) h s e differ = absurd (omega arith)
words_take (b ∷ c ∷ bs) (suc zero) h s e differ =
    ap (λ t. cond t (words_of (c ∷ bs)) (joined b (c ∷ bs) (words_of (c ∷ bs)))) s
    ∙ ap (λ t. cond t ((b ∷ []) ∷ words_of (c ∷ bs)) (onto b (words_of (c ∷ bs)))) e
words_take (b ∷ c ∷ bs) (suc (suc i)) h s e differ =
    let next : is_blank c ≡ false = differ 1 (omega arith) in
    ap (λ t. cond t (words_of (c ∷ bs)) (joined b (c ∷ bs) (words_of (c ∷ bs)))) s
    ∙ ap (λ t. cond t ((b ∷ []) ∷ words_of (c ∷ bs)) (onto b (words_of (c ∷ bs)))) next
    ∙ ap (onto b) (words_take (c ∷ bs) (suc i) (omega arith) next e (λ k lt. differ (suc k) (omega arith)))

pub words_last : (bs : List ℕ) → 0 < length bs → ((k : ℕ) → k < length bs → is_blank (get_or bs k 0) ≡ false) → words_of bs ≡ bs ∷ words_of []
unfolding words_of
words_last [] h differ = absurd (omega arith)
words_last (b ∷ []) h differ = ap (λ t. cond t [] (joined b [] [])) (differ 0 (omega arith))
words_last (b ∷ c ∷ bs) h differ =
    let next : is_blank c ≡ false = differ 1 (omega arith) in
    let first : is_blank b ≡ false = differ 0 (omega arith) in
    ap (λ t. cond t (words_of (c ∷ bs)) (joined b (c ∷ bs) (words_of (c ∷ bs)))) first
    ∙ ap (λ t. cond t ((b ∷ []) ∷ words_of (c ∷ bs)) (onto b (words_of (c ∷ bs)))) next
    ∙ ap (onto b) (words_last (c ∷ bs) (omega arith) (λ k lt. differ (suc k) (omega arith)))

pub no_words : (bs : List ℕ) → length bs ≡ 0 → words_of bs ≡ []
unfolding words_of
no_words [] e = refl
no_words (b ∷ bs) e = absurd (omega (arith, e))
