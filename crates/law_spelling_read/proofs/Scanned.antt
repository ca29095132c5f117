-- The places of tokens rise.
use Rattle.std.proofs.Common.{◌≡◌, ◌⊎◌, inl, inr, ℕ, zero, suc, ◌<◌, ◌≤◌, Bool, true, false, cond, [], ◌∷◌, length, take, Option, Some, None, Result, Err, refl, arith}
use Rattle.std.specs.Prelude.{◌+◌, ◌==◌}
use Rattle.std.proofs.lemmas.Bool.{false≢true}
use Rattle.ob_tree.specs.declared.symbol.Symbol.{Symbol}
use Rattle.ob_tree.specs.declared.symbol.Symbol.TheVariants as s
use Rattle.ob_tree.specs.declared.pos.Pos.{Pos}
use Rattle.ob_scan.specs.declared.fault.ScanFault.{ScanFault}
use Rattle.ob_scan.specs.declared.fault.ScanFault.TheVariants as fault
use Rattle.ob_scan.specs.Vocabulary.{Bytes, is_blank, symbol_of}
use Rattle.ob_scan.specs.Scanning.{Input, next_pos, further, Gap, Behind, Unfinished, opens, closes, behind, Step, Gives, Faults, or_shorter, longest, known, is_too_long, is_real, taken, token_in, after_gap, step}
use Rattle.ob_parse_grammar.specs.Phrase.{Tokens, same}
use Rattle.ob_parse_grammar.specs.Texts.{listed, tokens_in}
use Rattle.law_spelling_read.proofs.Order.{Before, AtMost, at_same, at_then, before_at, Rise}

-- ---- blanks and comments

abbrev At : Pos → Gap → Type 0
At p (Behind i) = AtMost p i.pos
At p (Unfinished start) = Unit {0}

then_at : (p q : Pos) (g : Gap) → AtMost p q → At q g → At p g
then_at p q (Behind i) h k = at_then p q i.pos h k
then_at p q (Unfinished start) h k = tt

either_at : (p : Pos) (b : Bool) (x y : Gap) → At p x → At p y → At p (cond b x y)
either_at p true x y h k = h
either_at p false x y h k = k

next_at : (p : Pos) (b : ℕ) → AtMost p (next_pos p b)
next_at p b = go (b == 10)
  where
    go : (t : Bool) → AtMost p (cond t (record { line = p.line + 1; col = 1 }) (record { line = p.line; col = p.col + 1 }))
    go true = let h : p.line < p.line + 1 = omega arith in inl h
    go false = let h : p.col ≤ p.col + 1 = omega arith in inr (refl, h)

further_at : (p : Pos) (n : ℕ) → AtMost p (further p n)
further_at p n = let h : p.col ≤ p.col + n = omega arith in inr (refl, h)

gap_at : (d : ℕ) (start here : Pos) (bs : Bytes) → At here (behind d start here bs)
gap_at zero start here [] = at_same here
gap_at (suc d) start here [] = tt
gap_at zero start here (a ∷ []) = either_at here (is_blank a) _ _ (next_at here a) (at_same here)
gap_at (suc d) start here (a ∷ []) = tt
gap_at zero start here (a ∷ b ∷ bs) =
    either_at here (opens a b) _ _
    (then_at here (further here 2) (behind (suc zero) here (further here 2) bs) (further_at here 2) (gap_at (suc zero) here (further here 2) bs))
    (either_at here (is_blank a) _ _ (then_at here (next_pos here a) (behind zero start (next_pos here a) (b ∷ bs)) (next_at here a) (gap_at zero start (next_pos here a) (b ∷ bs))) (at_same here))
gap_at (suc d) start here (a ∷ b ∷ bs) =
    either_at here (opens a b) _ _
    (then_at here (further here 2) (behind (suc (suc d)) start (further here 2) bs) (further_at here 2) (gap_at (suc (suc d)) start (further here 2) bs))
    (either_at here (closes a b) _ _
    (then_at here (further here 2) (behind d start (further here 2) bs) (further_at here 2) (gap_at d start (further here 2) bs))
    (then_at here (next_pos here a) (behind (suc d) start (next_pos here a) (b ∷ bs)) (next_at here a) (gap_at (suc d) start (next_pos here a) (b ∷ bs))))

-- ---- one token

abbrev IsLong : Option (Symbol × ℕ) → Type 0
IsLong None = Unit {0}
IsLong (Some x) = 1 ≤ x.1

longest_long : (n : ℕ) (text : Bytes) → IsLong (longest n text)
longest_long zero text = tt
longest_long (suc n) text = go (symbol_of (take (suc n) text)) (longest_long n text)
  where
    go : (o : Option Symbol) → IsLong (longest n text) → IsLong (or_shorter o (suc n) (longest n text))
    go None h = h
    go (Some x) h = let k : 1 ≤ suc n = omega arith in k

-- a token stands there or further on, and what is left further on still, but behind the end
abbrev StepRises : Pos → Step → Type 0
StepRises p (Gives l j) = AtMost p l.pos × ((same l.symbol s.End ≡ true) ⊎ Before l.pos j.pos)
StepRises p (Faults f) = Unit {0}

further_before : (p : Pos) (n : ℕ) → 1 ≤ n → Before p (further p n)
further_before p n h = let k : p.col < p.col + n = omega (arith, h) in inr (refl, k)

known_rises : (i : Input) (p : Pos) (o : Option (Symbol × ℕ)) → IsLong o → StepRises i.pos (taken i (known p o))
known_rises i p None h = tt
known_rises i p (Some x) h = (at_same i.pos, inr (further_before i.pos x.1 h))

either_rises : (i : Input) (b : Bool) (f : ScanFault) (r : Result (Symbol × ℕ) ScanFault) → StepRises i.pos (taken i r) → StepRises i.pos (taken i (cond b (Err f) r))
either_rises i true f r h = tt
either_rises i false f r h = h

token_rises : (p : Pos) (text : Bytes) → StepRises p (token_in p text)
token_rises p [] = (at_same p, inl refl)
token_rises p (b ∷ bs) =
    let i : Input = record { text = b ∷ bs; pos = p } in
    either_rises i (is_too_long (b ∷ bs)) (fault.Limit p) _
    (either_rises i (is_real (b ∷ bs)) (fault.Real p) _
    (known_rises i p (longest (length (b ∷ bs)) (b ∷ bs)) (longest_long (length (b ∷ bs)) (b ∷ bs))))

from_at : (p q : Pos) (r : Step) → AtMost p q → StepRises q r → StepRises p r
from_at p q (Gives l j) h k = (at_then p q l.pos h k.0, k.1)
from_at p q (Faults f) h k = tt

gap_rises : (p : Pos) (g : Gap) → At p g → StepRises p (after_gap g)
gap_rises p (Behind i) h = from_at p i.pos (token_in i.pos i.text) h (token_rises i.pos i.text)
gap_rises p (Unfinished start) h = tt

step_rises : (i : Input) → StepRises i.pos (step i)
step_rises i = gap_rises i.pos (behind zero i.pos i.pos i.text) (gap_at zero i.pos i.pos i.text)

-- ---- all tokens

-- from a place on
abbrev RiseFrom : Pos → Tokens → Type 0
RiseFrom p [] = Unit {0}
RiseFrom p (t ∷ ts) = AtMost p t.pos × Rise t.pos ts

pub behind_it : (p q : Pos) (ts : Tokens) → Before p q → RiseFrom q ts → Rise p ts
behind_it p q [] b h = tt
behind_it p q (t ∷ ts) b h = (before_at p q t.pos b h.0, h.1)

pub tokens_rise : (k : ℕ) (i : Input) → RiseFrom i.pos (tokens_in k i)
tokens_rise zero i = tt
tokens_rise (suc k) i = go (step i) (step_rises i) (λ j. tokens_rise k j)
  where
    rest : (p : Pos) (j : Input) (b : Bool) → (b ≡ true) ⊎ Before p j.pos → RiseFrom j.pos (tokens_in k j) → Rise p (cond b [] (tokens_in k j))
    rest p j true h more = tt
    rest p j false (inl e) more = absurd (false≢true e)
    rest p j false (inr h) more = behind_it p j.pos (tokens_in k j) h more

    go : (r : Step) → StepRises i.pos r → ((j : Input) → RiseFrom j.pos (tokens_in k j)) → RiseFrom i.pos (listed r (λ j. tokens_in k j))
    go (Gives l j) h more = (h.0, rest l.pos j (same l.symbol s.End) h.1 (more j))
    go (Faults f) h more = tt
