-- The places of tokens are numbers of 32 bits, and strings are short.
use Rattle.std.proofs.Common.{◌≡◌, ℕ, zero, suc, ◌<◌, ◌≤◌, ◌^◌, Bool, true, false, cond, [], ◌∷◌, length, take, drop, Option, Some, None, Result, Err, arith}
use Rattle.std.specs.Prelude.{◌+◌, ◌-◌, ◌==◌, nat_lt}
use Rattle.std.specs.List.{AllByRecursion}
use Rattle.std.proofs.lemmas.List.{length-take, length-drop}
use Rattle.ob_tree.specs.declared.symbol.Symbol.{Symbol}
use Rattle.ob_tree.specs.declared.symbol.Symbol.TheVariants as s
use Rattle.ob_tree.specs.declared.token.Token.{Token}
use Rattle.ob_tree.specs.declared.pos.Pos.{Pos}
use Rattle.ob_scan.specs.declared.fault.ScanFault.{ScanFault}
use Rattle.ob_scan.specs.declared.fault.ScanFault.TheVariants as fault
use Rattle.ob_scan.specs.Vocabulary.{Bytes, is_blank, symbol_of}
use Rattle.ob_scan.specs.Scanning.{Input, next_pos, further, Gap, Behind, Unfinished, opens, closes, behind, Step, Gives, Faults, or_shorter, longest, known, is_too_long, is_real, taken, token_in, after_gap, step}
use Rattle.ob_parse_grammar.specs.Phrase.{Tokens, same}
use Rattle.ob_parse_grammar.specs.Expressions.{between_marks}
use Rattle.ob_parse_grammar.specs.Texts.{listed, tokens_in}
use Rattle.law_spelling_read.proofs.Marks.{is_str, IsSpelledToken}
use Rattle.law_spelling_read.specs.ReadPlaces.{pos_fits, text_fits}
use Rattle.law_lists.proofs.Lists.{both_true, less_true}

-- what is left of a text, and where one stands
pub record Room (p : Pos) (text : Bytes) : Type 0 where
  pub line : p.line + length text < 2 ^ 32
  pub col : p.col + length text < 2 ^ 32
  pub few : length text < 2 ^ 30

pos_ok : (p : Pos) (text : Bytes) → Room p text → pos_fits p ≡ true
pos_ok p text r =
    let a : p.line < 2 ^ 32 = omega (arith, r.line) in
    let b : p.col < 2 ^ 32 = omega (arith, r.col) in
    both_true (nat_lt p.line (2 ^ 32)) (nat_lt p.col (2 ^ 32)) (less_true p.line (2 ^ 32) a) (less_true p.col (2 ^ 32) b)

next_room : (p : Pos) (b : ℕ) (bs : Bytes) → Room p (b ∷ bs) → Room (next_pos p b) bs
next_room p b bs r = go (b == 10)
  where
    go : (t : Bool) → Room (cond t (record { line = p.line + 1; col = 1 }) (record { line = p.line; col = p.col + 1 })) bs
    go true = record { line = omega (arith, r.line); col = omega (arith, r.few); few = omega (arith, r.few) }
    go false = record { line = omega (arith, r.line); col = omega (arith, r.col); few = omega (arith, r.few) }

two_room : (p : Pos) (a b : ℕ) (bs : Bytes) → Room p (a ∷ b ∷ bs) → Room (further p 2) bs
two_room p a b bs r = record { line = omega (arith, r.line); col = omega (arith, r.col); few = omega (arith, r.few) }

-- ---- blanks and comments

abbrev GapRoom : Gap → Type 0
GapRoom (Behind i) = Room i.pos i.text
GapRoom (Unfinished start) = Unit {0}

either_room : (b : Bool) (x y : Gap) → GapRoom x → GapRoom y → GapRoom (cond b x y)
either_room true x y h k = h
either_room false x y h k = k

gap_room : (d : ℕ) (start here : Pos) (bs : Bytes) → Room here bs → GapRoom (behind d start here bs)
gap_room zero start here [] r = r
gap_room (suc d) start here [] r = tt
gap_room zero start here (a ∷ []) r = either_room (is_blank a) _ _ (next_room here a [] r) r
gap_room (suc d) start here (a ∷ []) r = tt
gap_room zero start here (a ∷ b ∷ bs) r =
    either_room (opens a b) _ _ (gap_room (suc zero) here (further here 2) bs (two_room here a b bs r))
    (either_room (is_blank a) _ _ (gap_room zero start (next_pos here a) (b ∷ bs) (next_room here a (b ∷ bs) r)) r)
gap_room (suc d) start here (a ∷ b ∷ bs) r =
    either_room (opens a b) _ _ (gap_room (suc (suc d)) start (further here 2) bs (two_room here a b bs r))
    (either_room (closes a b) _ _ (gap_room d start (further here 2) bs (two_room here a b bs r)) (gap_room (suc d) start (next_pos here a) (b ∷ bs) (next_room here a (b ∷ bs) r)))

-- ---- one token

abbrev IsWithin : ℕ → Option (Symbol × ℕ) → Type 0
IsWithin n None = Unit {0}
IsWithin n (Some x) = x.1 ≤ n

longest_within : (n : ℕ) (text : Bytes) → IsWithin n (longest n text)
longest_within zero text = tt
longest_within (suc n) text = go (symbol_of (take (suc n) text)) (longest n text) (longest_within n text)
  where
    go : (o : Option Symbol) (p : Option (Symbol × ℕ)) → IsWithin n p → IsWithin (suc n) (or_shorter o (suc n) p)
    go (Some x) p h = let e : suc n ≤ suc n = omega arith in e
    go None None h = tt
    go None (Some x) h = let e : x.1 ≤ suc n = omega (arith, h) in e

-- it stands there, is no longer than what is left, and leaves room
pub record Placed (t : Pos) (text : Bytes) : Type 0 where
  pub place : pos_fits t ≡ true
  pub few : length text < 2 ^ 30

abbrev StepRoom : Step → Type 0
StepRoom (Gives l j) = Placed l.pos l.text × Room j.pos j.text
StepRoom (Faults f) = Unit {0}

known_room : (i : Input) (p : Pos) (o : Option (Symbol × ℕ)) → Room i.pos i.text → IsWithin (length i.text) o → StepRoom (taken i (known p o))
known_room i p None r h = tt
known_room i p (Some x) r h =
    let a = length-take x.1 i.text in
    let b = length-drop x.1 i.text in (
      record { place = pos_ok i.pos i.text r; few = omega (arith, a, r.few) },
      record { line = omega (arith, b, r.line); col = omega (arith, b, r.col, h); few = omega (arith, b, r.few) },
    )

or_room : (i : Input) (b : Bool) (f : ScanFault) (r : Result (Symbol × ℕ) ScanFault) → StepRoom (taken i r) → StepRoom (taken i (cond b (Err f) r))
or_room i true f r h = tt
or_room i false f r h = h

token_room : (p : Pos) (text : Bytes) → Room p text → StepRoom (token_in p text)
token_room p [] r = (record { place = pos_ok p [] r; few = omega arith }, r)
token_room p (b ∷ bs) r =
    let i : Input = record { text = b ∷ bs; pos = p } in
    or_room i (is_too_long (b ∷ bs)) (fault.Limit p) _
    (or_room i (is_real (b ∷ bs)) (fault.Real p) _
    (known_room i p (longest (length (b ∷ bs)) (b ∷ bs)) r (longest_within (length (b ∷ bs)) (b ∷ bs))))

after_room : (g : Gap) → GapRoom g → StepRoom (after_gap g)
after_room (Behind i) r = token_room i.pos i.text r
after_room (Unfinished start) r = tt

step_room : (i : Input) → Room i.pos i.text → StepRoom (step i)
step_room i r = after_room (behind zero i.pos i.pos i.text) (gap_room zero i.pos i.pos i.text r)

-- ---- all tokens

abbrev pub IsPlacedToken : Token → Type 0
IsPlacedToken t = Placed t.pos t.text.now

pub tokens_placed : (k : ℕ) (i : Input) → Room i.pos i.text → AllByRecursion IsPlacedToken (tokens_in k i)
tokens_placed zero i r = tt
tokens_placed (suc k) i r = go (step i) (step_room i r) (λ j m. tokens_placed k j m)
  where
    ends : (b : Bool) (ts : Tokens) → AllByRecursion IsPlacedToken ts → AllByRecursion IsPlacedToken (cond b [] ts)
    ends true ts h = tt
    ends false ts h = h

    go : (r : Step) → StepRoom r → ((j : Input) → Room j.pos j.text → AllByRecursion IsPlacedToken (tokens_in k j)) → AllByRecursion IsPlacedToken (listed r (λ j. tokens_in k j))
    go (Gives l j) h more = (h.0, ends (same l.symbol s.End) (tokens_in k j) (more j h.1))
    go (Faults f) h more = tt

-- ---- strings

-- a token of the text: it stands at a place, and a string has characters
abbrev pub IsToken : Token → Type 0
IsToken t = IsSpelledToken t × IsPlacedToken t

pub both_all : (ts : Tokens) → AllByRecursion IsSpelledToken ts → AllByRecursion IsPlacedToken ts → AllByRecursion IsToken ts
both_all [] h k = tt
both_all (t ∷ ts) h k = ((h.0, k.0), both_all ts h.1 k.1)

pub string_fits : (t : Token) → IsToken t → is_str (Some t.symbol) ≡ true → text_fits (between_marks t.text.now) ≡ true
string_fits t h e =
    let a = length-take (length t.text.now - 2) (drop 1 t.text.now) in
    let b = length-drop 1 t.text.now in
    let n : suc (length (between_marks t.text.now)) < 2 ^ 31 = omega (arith, a, b, h.1.few) in
    both_true _ (nat_lt (suc (length (between_marks t.text.now))) (2 ^ 31)) (h.0 e) (less_true _ (2 ^ 31) n)
