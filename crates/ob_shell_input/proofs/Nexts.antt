-- What the next line of a script is, by what was taken of it.
use Rattle.std.proofs.Common.{◌≡◌, ℕ, ◌+◌, ◌<◌, ◌≤◌, List, [], ◌∷◌, ◌++◌, length, Bool, true, false, refl, sym, ap, ◌∙◌, subst, arith, Ok}
use Rattle.std.specs.Prelude.{cond, ◌||◌, ◌==◌, nat_lt, min}
use Rattle.std.proofs.lemmas.Bool.{or_right, lt-ltb, le-ltb}
use Rattle.std.proofs.lemmas.List.{append-nil, length-append}
use Rattle.ob_shell_lines.specs.Lines.{lines_of, within, exceeds, passes}
use Rattle.ob_shell_lines.specs.Splits.{Stops, GoesOn}
use Rattle.ob_shell_input.specs.declared.next.Next.TheVariants as next
use Rattle.ob_shell_input.specs.Reading.{is_open, NextDoes}
use Rattle.ob_shell_input.specs.Opens.{open_more, line_ended, line_last, Begins, begins, begins_all}

stops : (whole at : ℕ) (l : List ℕ) (ls lines : List (List ℕ)) → lines ≡ l ∷ ls → passes whole at l ≡ true → Stops whole at lines
unfolding within exceeds
stops whole at l ls lines e p = (
  ap (within whole at) e ∙ ap (λ b. cond b [] (l ∷ within whole (at + length l + 1) ls)) p,
  ap (exceeds whole at) e ∙ ap (λ b. b || exceeds whole (at + length l + 1) ls) p,
)

goes_on : (whole at : ℕ) (l : List ℕ) (ls lines : List (List ℕ)) → lines ≡ l ∷ ls → passes whole at l ≡ false → GoesOn whole at lines l (at + length l + 1) ls
unfolding within exceeds
goes_on whole at l ls lines e p = (
  ap (within whole at) e ∙ ap (λ b. cond b [] (l ∷ within whole (at + length l + 1) ls)) p,
  ap (exceeds whole at) e ∙ ap (λ b. b || exceeds whole (at + length l + 1) ls) p,
)

-- behind the last line the number does not matter
last_goes : (whole n k at : ℕ) (lines : List (List ℕ)) (line : List ℕ) → GoesOn whole at lines line n [] → GoesOn whole at lines line k []
unfolding within exceeds
last_goes whole n k at lines line g = g

none_of : lines_of [] ≡ []
unfolding lines_of
none_of = refl

keeps : (whole at : ℕ) (l : List ℕ) → length l ≤ 1024 → min (at + length l + 1) whole ≤ 1048576 → passes whole at l ≡ false
keeps whole at l h m = ap (λ b. b || nat_lt 1048576 (min (at + length l + 1) whole)) (le-ltb 1024 (length l) h) ∙ le-ltb 1048576 (min (at + length l + 1) whole) m

far : (whole at : ℕ) (l : List ℕ) → 1048576 ≤ at + length l → 1048576 < whole → passes whole at l ≡ true
far whole at l h w = or_right (nat_lt 1024 (length l)) _ (lt-ltb 1048576 (min (at + length l + 1) whole) (omega (arith, h, w)))

long : (whole at : ℕ) (l : List ℕ) → 1024 < length l → passes whole at l ≡ true
long whole at l h = ap (λ b. b || nat_lt 1048576 (min (at + length l + 1) whole)) (lt-ltb 1024 (length l) h)

size : (line now old : List ℕ) → old ≡ line ++ now → length old ≡ length line + length now
size line now old e = ap length e ∙ length-append line now

pub line_does : (whole at count : ℕ) (old line now new : List ℕ) → is_open line ≡ true → at + length line ≡ count → count < 1048576 → length line ≤ 1024 → at + length old ≡ whole → old ≡ line ++ now → now ≡ 10 ∷ new → NextDoes whole at old new line (Ok (next.Line (count + 1)))
line_does whole at count old line now new o c h m w e f =
    let is : old ≡ line ++ 10 ∷ new = e ∙ ap (λ x. line ++ x) f in
    let z = size line (10 ∷ new) old is in
    let n : at + length line + 1 ≡ count + 1 = omega (arith, c) in
    (subst (λ k. GoesOn whole at (lines_of old) line k (lines_of new)) n (goes_on whole at line (lines_of new) (lines_of old) (ap lines_of is ∙ line_ended line new o) (keeps whole at line m (omega (arith, c, h)))), is, o, omega (arith, w, z, c))

pub last_does : (whole at count : ℕ) (old line now new : List ℕ) → is_open line ≡ true → at + length line ≡ count → count ≤ 1048576 → length line ≤ 1024 → at + length old ≡ whole → old ≡ line ++ now → 0 < length line → now ≡ [] → new ≡ [] → NextDoes whole at old new line (Ok (next.Last count))
last_does whole at count old line now new o c h m w e some f n =
    let is : old ≡ line = e ∙ ap (λ x. line ++ x) f ∙ append-nil line in
    let z : length old ≡ length line = ap length is in
    (subst (λ ls. GoesOn whole at (lines_of old) line count ls) (sym (ap lines_of n ∙ none_of)) (last_goes whole (at + length line + 1) count at (lines_of old) line (goes_on whole at line [] (lines_of old) (ap lines_of is ∙ line_last line o some) (keeps whole at line m (omega (arith, c, h, w, z))))), n, omega (arith, w, z, c))

pub far_does : (whole at count b : ℕ) (old line now new : List ℕ) → is_open line ≡ true → at + length line ≡ count → 1048576 ≤ count → at + length old ≡ whole → old ≡ line ++ now → now ≡ b ∷ new → NextDoes whole at old new line (Ok next.Passes)
far_does whole at count b old line now new o c h w e f =
    let is : old ≡ line ++ b ∷ new = e ∙ ap (λ x. line ++ x) f in
    let z = size line (b ∷ new) old is in
    let r = begins line b new o in
    stops whole at r.line r.others (lines_of old) (ap lines_of is ∙ r.is) (far whole at r.line (let q = r.most in omega (arith, c, h, q)) (omega (arith, c, h, w, z)))

append_one : (l : List ℕ) (b : ℕ) (more : List ℕ) → (l ++ b ∷ []) ++ more ≡ l ++ b ∷ more
append_one [] b more = refl
append_one (a ∷ l) b more = ap (λ x. a ∷ x) (append_one l b more)

pub long_does : (whole at b : ℕ) (old line now new : List ℕ) → is_open line ≡ true → (b == 10) ≡ false → 1024 ≤ length line → old ≡ line ++ now → now ≡ b ∷ new → NextDoes whole at old new line (Ok next.Passes)
long_does whole at b old line now new o d h e f =
    let is : old ≡ (line ++ b ∷ []) ++ new = e ∙ ap (λ x. line ++ x) f ∙ sym (append_one line b new) in
    let z : length (line ++ b ∷ []) ≡ length line + 1 = length-append line (b ∷ []) in
    let r = begins_all (line ++ b ∷ []) new (open_more line b o d) (omega (arith, z)) in
    stops whole at r.line r.others (lines_of old) (ap lines_of is ∙ r.is) (long whole at r.line (let q = r.most in omega (arith, h, q, z)))

-- a byte more
pub one_more : (old line now new : List ℕ) (b : ℕ) → old ≡ line ++ now → now ≡ b ∷ new → old ≡ (line ++ b ∷ []) ++ new
one_more old line now new b e f = e ∙ ap (λ x. line ++ x) f ∙ sym (append_one line b new)
