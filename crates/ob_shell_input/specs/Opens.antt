-- Lines that have not ended.
use Rattle.std.proofs.Common.{◌≡◌, ℕ, ◌+◌, ◌<◌, ◌≤◌, List, [], ◌∷◌, ◌++◌, length, Bool, true, false, refl, sym, ap, ◌∙◌, subst, arith, append_assoc}
use Rattle.std.specs.Prelude.{cond, ◌&&◌, ◌==◌, not, suc}
use Rattle.std.proofs.lemmas.Bool.{false≢true}
use Rattle.ob_shell_lines.specs.Lines.{lines_of, onto}
use Rattle.ob_shell_input.specs.Reading.{is_open, ended, before_ended}

first_differs : (x y : Bool) → (not x && y) ≡ true → x ≡ false
first_differs true y e = absurd (false≢true e)
first_differs false y e = refl

rest_open : (x y : Bool) → (not x && y) ≡ true → y ≡ true
rest_open true y e = absurd (false≢true e)
rest_open false y e = e

both : (x y : Bool) → x ≡ false → y ≡ true → (not x && y) ≡ true
both true y e f = absurd (false≢true (sym e))
both false y e f = f

pub open_more : (l : List ℕ) (b : ℕ) → is_open l ≡ true → (b == 10) ≡ false → is_open (l ++ b ∷ []) ≡ true
open_more [] b o d = both (b == 10) true d refl
open_more (a ∷ l) b o d = both (a == 10) (is_open (l ++ b ∷ [])) (first_differs (a == 10) (is_open l) o) (open_more l b (rest_open (a == 10) (is_open l) o) d)

step : (b : ℕ) (bs : List ℕ) → (b == 10) ≡ false → lines_of (b ∷ bs) ≡ onto b (lines_of bs)
unfolding lines_of
step b bs d = ap (λ t. cond t ([] ∷ lines_of bs) (onto b (lines_of bs))) d

end_step : (bs : List ℕ) → lines_of (10 ∷ bs) ≡ [] ∷ lines_of bs
unfolding lines_of
end_step bs = refl

none : lines_of [] ≡ []
unfolding lines_of
none = refl

pub line_ended : (l more : List ℕ) → is_open l ≡ true → lines_of (l ++ 10 ∷ more) ≡ l ∷ lines_of more
line_ended [] more o = end_step more
line_ended (a ∷ l) more o = step a (l ++ 10 ∷ more) (first_differs (a == 10) (is_open l) o) ∙ ap (onto a) (line_ended l more (rest_open (a == 10) (is_open l) o))

pub line_last : (l : List ℕ) → is_open l ≡ true → 0 < length l → lines_of l ≡ l ∷ []
line_last [] o h = absurd (omega (arith, h))
line_last (a ∷ []) o h = step a [] (first_differs (a == 10) true o) ∙ ap (onto a) none
line_last (a ∷ b ∷ l) o h = step a (b ∷ l) (first_differs (a == 10) (is_open (b ∷ l)) o) ∙ ap (onto a) (line_last (b ∷ l) (rest_open (a == 10) (is_open (b ∷ l)) o) (omega arith))

-- the first line of some bytes, at least so long
pub record Begins (bytes : List ℕ) (long : ℕ) : Type 0 where
  pub line : List ℕ
  pub others : List (List ℕ)
  pub is : lines_of bytes ≡ line ∷ others
  pub most : long ≤ length line

onto_begins : (b : ℕ) (x : List (List ℕ)) → (l : List ℕ) × (ls : List (List ℕ)) × (onto b x ≡ l ∷ ls) × (1 ≤ length l)
onto_begins b [] = (b ∷ [], [], refl, omega arith)
onto_begins b (l ∷ ls) = (b ∷ l, ls, refl, omega arith)

ends_now : (b : ℕ) (bs : List ℕ) → (b == 10) ≡ true → lines_of (b ∷ bs) ≡ [] ∷ lines_of bs
unfolding lines_of
ends_now b bs e = ap (λ t. cond t ([] ∷ lines_of bs) (onto b (lines_of bs))) e

some : (b : ℕ) (bs : List ℕ) (t : Bool) → (b == 10) ≡ t → Begins (b ∷ bs) 0
some b bs false e = let o = onto_begins b (lines_of bs) in record { line = o.0; others = o.1; is = step b bs e ∙ o.2; most = omega arith }
some b bs true e = record { line = []; others = lines_of bs; is = ends_now b bs e; most = omega arith }

-- what comes behind a line that has not ended belongs to it
pub begins : (l : List ℕ) (b : ℕ) (more : List ℕ) → is_open l ≡ true → Begins (l ++ b ∷ more) (length l)
begins [] b more o = some b more (b == 10) refl
begins (a ∷ l) b more o =
    let r = begins l b more (rest_open (a == 10) (is_open l) o) in
    record { line = a ∷ r.line; others = r.others; is = step a (l ++ b ∷ more) (first_differs (a == 10) (is_open l) o) ∙ ap (onto a) r.is; most = let m = r.most in omega (arith, m) }

pub begins_all : (l more : List ℕ) → is_open l ≡ true → 0 < length l → Begins (l ++ more) (length l)
begins_all [] more o h = absurd (omega (arith, h))
begins_all (a ∷ []) more o h = let r = onto_begins a (lines_of more) in record { line = r.0; others = r.1; is = step a more (first_differs (a == 10) true o) ∙ r.2; most = r.3 }
begins_all (a ∷ b ∷ l) more o h =
    let r = begins_all (b ∷ l) more (rest_open (a == 10) (is_open (b ∷ l)) o) (omega arith) in
    record { line = a ∷ r.line; others = r.others; is = step a ((b ∷ l) ++ more) (first_differs (a == 10) (is_open (b ∷ l)) o) ∙ ap (onto a) r.is; most = let m = r.most in omega (arith, m) }

-- LINES WHOSE BYTE 10 IS THERE

ended_step : (b : ℕ) (bs : List ℕ) → (b == 10) ≡ false → ended (b ∷ bs) ≡ before_ended b (ended bs)
unfolding ended
ended_step b bs d = ap (λ t. cond t ([] ∷ ended bs) (before_ended b (ended bs))) d

ended_end : (bs : List ℕ) → ended (10 ∷ bs) ≡ [] ∷ ended bs
unfolding ended
ended_end bs = refl

pub ended_none : ended [] ≡ []
unfolding ended
ended_none = refl

pub ended_line : (l more : List ℕ) → is_open l ≡ true → ended (l ++ 10 ∷ more) ≡ l ∷ ended more
ended_line [] more o = ended_end more
ended_line (a ∷ l) more o = ended_step a (l ++ 10 ∷ more) (first_differs (a == 10) (is_open l) o) ∙ ap (before_ended a) (ended_line l more (rest_open (a == 10) (is_open l) o))

pub ended_open : (l : List ℕ) → is_open l ≡ true → ended l ≡ []
ended_open [] o = ended_none
ended_open (a ∷ l) o = ended_step a l (first_differs (a == 10) (is_open l) o) ∙ ap (before_ended a) (ended_open l (rest_open (a == 10) (is_open l) o))
