-- The lines that are done.
use Rattle.std.proofs.Common.{◌≡◌, ℕ, ◌+◌, ◌-◌, ◌<◌, ◌≤◌, List, [], ◌∷◌, ◌++◌, length, sym, ap, ◌∙◌, subst, arith, true, false, ⊎_elim}
use Rattle.std.specs.Prelude.{cond, ◌||◌, nat_lt, min}
use Rattle.std.proofs.lemmas.List.{append-nil}
use Rattle.std.proofs.lemmas.Bool.{false≢true, or_right, or_parts, lt-ltb, ltb-false}
use Rattle.ob_shell_lines.specs.Lines.{lines_of, within, exceeds, passes}
use Rattle.ob_shell_lines.specs.Splits.{Behind, FirstLine, Stops, GoesOn}

stops : (whole at : ℕ) (l : List ℕ) (ls lines : List (List ℕ)) → lines ≡ l ∷ ls → passes whole at l ≡ true → Stops whole at lines
unfolding within exceeds
stops whole at l ls lines e p = (
  ap (within whole at) e ∙ ap (λ b. cond b [] (l ∷ within whole (at + length l + 1) ls)) p,
  ap (exceeds whole at) e ∙ ap (λ b. b || exceeds whole (at + length l + 1) ls) p,
)

goes_on : (whole at : ℕ) (l : List ℕ) (ls lines : List (List ℕ)) → lines ≡ l ∷ ls → passes whole at l ≡ false → GoesOn whole at lines l (at + length l + 1) ls
unfolding within exceeds
goes_on whole at l ls lines e p = (
  ap (within whole at) e ∙ ap (λ b. cond b [] (l ∷ within whole (at + length l + 1) ls)) p,
  ap (exceeds whole at) e ∙ ap (λ b. b || exceeds whole (at + length l + 1) ls) p,
)

same_end : (at n total whole : ℕ) → at + n + 1 ≤ total → total ≤ whole → min (at + n + 1) whole ≡ min (at + n + 1) total
same_end at n total whole h w = omega arith

same_pass : (total at k : ℕ) (line : List ℕ) → at + length line + 1 ≤ total → passes (total + k) at line ≡ passes total at line
same_pass total at k line h = ap (λ m. nat_lt 1024 (length line) || nat_lt 1048576 m) (same_end at (length line) total (total + k) h (omega arith))

far : (total at k : ℕ) (l : List ℕ) → 1048576 < total → total ≤ at + length l → passes (total + k) at l ≡ true
far total at k l h e = or_right (nat_lt 1024 (length l)) _ (lt-ltb 1048576 (min (at + length l + 1) (total + k)) (omega arith))

no_more : (rest more : List ℕ) → more ≡ [] → lines_of (rest ++ more) ≡ lines_of rest
no_more rest more e = ap (λ m. lines_of (rest ++ m)) e ∙ ap lines_of (append-nil rest)

as_many : (total : ℕ) (more : List ℕ) → more ≡ [] → total + length more ≡ total
as_many total more e = let z : length more ≡ 0 = ap length e in omega arith

pub next_stops : (total : ℕ) (rest line after more : List ℕ) → length rest ≤ total → FirstLine rest line after → Behind total more → (nat_lt 1024 (length line) || nat_lt 1048576 (min (total - length rest + length line + 1) total)) ≡ true → Stops (total + length more) (total - length rest) (lines_of (rest ++ more))
next_stops total rest line after more h first behind p = ⊎_elim
    (λ e. let le : total - length rest + length line + 1 ≤ total = omega (arith, e.parts) in
    stops (total + length more) (total - length rest) line (lines_of (after ++ more)) (lines_of (rest ++ more)) (e.lines more) (same_pass total (total - length rest) (length more) line le ∙ p))
    (λ o. ⊎_elim
    (λ none. stops (total + length more) (total - length rest) rest [] (lines_of (rest ++ more)) (no_more rest more none ∙ o.last)
    (ap (λ w. passes w (total - length rest) rest) (as_many total more none) ∙ ap (passes total (total - length rest)) (sym o.all) ∙ p))
    (λ lt. let m = o.more more in
    let le : total ≤ total - length rest + length m.0 = omega (arith, m.3, h) in
    stops (total + length more) (total - length rest) m.0 m.1 (lines_of (rest ++ more)) m.2 (far total (total - length rest) (length more) m.0 lt le))
    behind)
    first

ends : (after more : List ℕ) → after ≡ [] → more ≡ [] → lines_of (after ++ more) ≡ []
unfolding lines_of
ends after more a m = ap (λ x. lines_of (x ++ more)) a ∙ ap lines_of m

last_goes : (whole n k at : ℕ) (lines : List (List ℕ)) (line : List ℕ) → GoesOn whole at lines line n [] → GoesOn whole at lines line k []
unfolding within exceeds
last_goes whole n k at lines line g = g

whole_far : (total n : ℕ) → 1048576 < total → n ≤ total → (nat_lt 1024 n || nat_lt 1048576 (min (total - n + n + 1) total)) ≡ true
whole_far total n lt h = or_right (nat_lt 1024 n) _ (lt-ltb 1048576 (min (total - n + n + 1) total) (omega arith))

pub next_goes_on : (total : ℕ) (rest line after more : List ℕ) → length rest ≤ total → FirstLine rest line after → Behind total more → (nat_lt 1024 (length line) || nat_lt 1048576 (min (total - length rest + length line + 1) total)) ≡ false → GoesOn (total + length more) (total - length rest) (lines_of (rest ++ more)) line (total - length after) (lines_of (after ++ more))
next_goes_on total rest line after more h first behind p = ⊎_elim
    (λ e. let le : total - length rest + length line + 1 ≤ total = omega (arith, e.parts) in
    let at : total - length rest + length line + 1 ≡ total - length after = omega (arith, e.parts, h) in
    subst (λ n. GoesOn (total + length more) (total - length rest) (lines_of (rest ++ more)) line n (lines_of (after ++ more))) at
    (goes_on (total + length more) (total - length rest) line (lines_of (after ++ more)) (lines_of (rest ++ more)) (e.lines more) (same_pass total (total - length rest) (length more) line le ∙ p)))
    (λ o. ⊎_elim
    (λ none. let is : passes (total + length more) (total - length rest) line ≡ false = ap (λ w. passes w (total - length rest) line) (as_many total more none) ∙ p in
    let g = goes_on (total + length more) (total - length rest) line [] (lines_of (rest ++ more)) (no_more rest more none ∙ o.last ∙ ap (λ l. l ∷ []) (sym o.all)) is in
    subst (λ ls. GoesOn (total + length more) (total - length rest) (lines_of (rest ++ more)) line (total - length after) ls) (sym (ends after more o.none none)) (last_goes (total + length more) (total - length rest + length line + 1) (total - length after) (total - length rest) (lines_of (rest ++ more)) line g))
    (λ lt. absurd (false≢true (sym p ∙ ap (λ l. nat_lt 1024 (length l) || nat_lt 1048576 (min (total - length rest + length l + 1) total)) o.all ∙ whole_far total (length rest) lt h)))
    behind)
    first

pub next_fits : (total : ℕ) (rest line after : List ℕ) → length rest ≤ total → FirstLine rest line after → (nat_lt 1024 (length line) || nat_lt 1048576 (min (total - length rest + length line + 1) total)) ≡ false → total - length after ≤ 1048576
next_fits total rest line after h first p =
    let q = ltb-false 1048576 (min (total - length rest + length line + 1) total) (or_parts (nat_lt 1024 (length line)) (nat_lt 1048576 (min (total - length rest + length line + 1) total)) p).1 in
    ⊎_elim
    (λ e. omega (arith, e.parts, q, h))
    (λ o. let l : length line ≡ length rest = ap length o.all in omega (arith, l, q, h))
    first

pub next_less : (rest line after : List ℕ) → 0 < length rest → FirstLine rest line after → length after < length rest
next_less rest line after h first = ⊎_elim (λ e. omega (arith, e.parts)) (λ o. let z : length after ≡ 0 = ap length o.none in omega (arith, z, h)) first
