-- From a text to its tokens.
use Rattle.std.specs.Prelude.{◌≡◌, ℕ, zero, suc, ◌+◌, ◌^◌, ◌≤◌, ◌++◌, ◌==◌, ◌<◌, Bool, false, ◌&&◌, not, nat_lt, if◌then◌else◌, List, [], ◌∷◌, length, take, drop, Option, Some, None, Result, Ok, Err}
use Rattle.std.specs.List.{prefix_len}
use Rattle.ob_tree.specs.declared.symbol.Symbol.{Symbol}
use Rattle.ob_tree.specs.declared.symbol.Symbol.TheVariants as s
use Rattle.ob_tree.specs.declared.token.Token.{Token}
use Rattle.ob_tree.specs.declared.pos.Pos.{Pos}
use Rattle.ob_scan.specs.declared.fault.ScanFault.{ScanFault}
use Rattle.ob_scan.specs.declared.fault.ScanFault.TheVariants as fault
use Rattle.ob_scan.specs.Vocabulary.{Bytes, symbol_of, is_digit, is_letter, is_letter_or_digit, is_blank}

-- what is left of a text, and where that stands
pub record Input : Type 0 where
  pub text : Bytes
  pub pos : Pos

-- ---- positions

-- a byte 10 ends the line
abbrev pub next_pos : Pos → ℕ → Pos
next_pos p b = if b == 10 then record { line = p.line + 1; col = 1 } else record { line = p.line; col = p.col + 1 }

abbrev pub further : Pos → ℕ → Pos
further p n = record { line = p.line; col = p.col + n }

-- ---- blanks and comments

pub data Gap : Type 0 where
  Behind : Input → Gap
  Unfinished : Pos → Gap

abbrev pub opens : ℕ → ℕ → Bool
opens a b = a == 40 && b == 42

abbrev pub closes : ℕ → ℕ → Bool
closes a b = a == 42 && b == 41

-- what stands behind blanks and comments, where so many comments are open here, the outermost of them since start
abbrev pub behind : ℕ → Pos → Pos → Bytes → Gap
behind zero start here [] = Behind (record { text = []; pos = here })
behind (suc d) start here [] = Unfinished start
behind zero start here (a ∷ []) =
    if is_blank a then Behind (record { text = []; pos = next_pos here a }) else Behind (record { text = a ∷ []; pos = here })
behind (suc d) start here (a ∷ []) = Unfinished start
behind zero start here (a ∷ b ∷ bs) =
    if opens a b then behind (suc zero) here (further here 2) bs
    else (if is_blank a then behind zero start (next_pos here a) (b ∷ bs) else Behind (record { text = a ∷ b ∷ bs; pos = here }))
behind (suc d) start here (a ∷ b ∷ bs) =
    if opens a b then behind (suc (suc d)) start (further here 2) bs
    else (if closes a b then behind d start (further here 2) bs else behind (suc d) start (next_pos here a) (b ∷ bs))

-- ---- one symbol

abbrev pub or_shorter : Option Symbol → ℕ → Option (Symbol × ℕ) → Option (Symbol × ℕ)
or_shorter (Some x) n shorter = Some (x, n)
or_shorter None n shorter = shorter

-- the longest front that is a symbol, among those of at most n bytes
abbrev pub longest : ℕ → Bytes → Option (Symbol × ℕ)
longest zero text = None
longest (suc n) text = or_shorter (symbol_of (take (suc n) text)) (suc n) (longest n text)

-- a word of more than 64 characters
abbrev pub is_too_long : Bytes → Bool
is_too_long [] = false
is_too_long (b ∷ bs) = is_letter b && nat_lt 64 (prefix_len is_letter_or_digit (b ∷ bs))

-- decimal digits, and then a dot that no second dot follows
abbrev pub is_dot_alone : Bytes → Bool
is_dot_alone [] = false
is_dot_alone (a ∷ []) = a == 46
is_dot_alone (a ∷ b ∷ bs) = a == 46 && not (b == 46)

abbrev pub is_real : Bytes → Bool
is_real [] = false
is_real (b ∷ bs) = is_digit b && is_dot_alone (drop (prefix_len is_digit (b ∷ bs)) (b ∷ bs))

abbrev pub known : Pos → Option (Symbol × ℕ) → Result (Symbol × ℕ) ScanFault
known p (Some x) = Ok x
known p None = Err (fault.Symbol p)

-- the symbol that begins here and how many bytes it has, or what is wrong here
abbrev pub symbol_at : Pos → Bytes → Result (Symbol × ℕ) ScanFault
symbol_at p text =
    if is_too_long text then Err (fault.Limit p) else (if is_real text then Err (fault.Real p) else known p (longest (length text) text))

-- ---- one token

pub record Lexeme : Type 0 where
  pub symbol : Symbol
  pub text : Bytes
  pub pos : Pos

abbrev pub lexeme_of : Token → Lexeme
lexeme_of t = record { symbol = t.symbol; text = t.text.now; pos = t.pos }

-- a token and what is left behind it, or a fault
pub data Step : Type 0 where
  Gives : Lexeme → Input → Step
  Faults : ScanFault → Step

abbrev pub taken : Input → Result (Symbol × ℕ) ScanFault → Step
taken i (Ok x) = Gives (record { symbol = x.0; text = take x.1 i.text; pos = i.pos }) (record { text = drop x.1 i.text; pos = further i.pos x.1 })
taken i (Err f) = Faults f

-- at the end of the text stands the end, which takes nothing
abbrev pub token_in : Pos → Bytes → Step
token_in p [] = Gives (record { symbol = s.End; text = []; pos = p }) (record { text = []; pos = p })
token_in p (b ∷ bs) = taken (record { text = b ∷ bs; pos = p }) (symbol_at p (b ∷ bs))

abbrev pub after_gap : Gap → Step
after_gap (Behind i) = token_in i.pos i.text
after_gap (Unfinished start) = Faults (fault.Symbol start)

abbrev pub step : Input → Step
step i = after_gap (behind zero i.pos i.pos i.text)

-- ---- all tokens

abbrev pub start_of : Bytes → Input
start_of text = record { text = text; pos = record { line = 1; col = 1 } }

-- from i these tokens lead to j, and none of them is the end
abbrev pub Leads : Input → List Token → Input → Type 0
Leads i [] j = i ≡ j
Leads i (t ∷ ts) j = (k : Input) × (step i ≡ Gives (lexeme_of t) k) × (t.symbol ≡ s.End → ⊥) × Leads k ts j

-- the tokens from i on, of which the last is the end; or the first fault
abbrev pub Scans : Input → Result (List Token) ScanFault → Type 0
Scans i (Ok ts) = (front : List Token) × (t : Token) × (j k : Input) × (ts ≡ front ++ t ∷ []) × Leads i front j × (step j ≡ Gives (lexeme_of t) k) × (t.symbol ≡ s.End)
Scans i (Err fault.Memory) = Unit {0}
Scans i (Err f) = (front : List Token) × (j : Input) × Leads i front j × (step j ≡ Faults f)

-- what one call of the scanner gives; after the end it gives the end, after a fault that fault
abbrev pub Steps : Step → Input → Result Token ScanFault → Input → Type 0
Steps (Gives l i) old (Ok t) new = (lexeme_of t ≡ l) × (new ≡ i)
Steps (Gives l i) old (Err f) new = ⊥
Steps (Faults f) old (Ok t) new = ⊥
Steps (Faults f) old (Err g) new = (g ≡ f) × (new ≡ old)

-- positions behind each byte of the text fit 32 bits
abbrev pub HasRoom : Pos → Bytes → Type 0
HasRoom p text = (p.line + length text < 2 ^ 32) × (p.col + length text < 2 ^ 32) × (length text + 1 < 2 ^ 32)

-- what skipping gives: how many bytes, and where one stands behind them
abbrev pub Skips : Gap → Bytes → Result (ℕ × Pos) ScanFault → Type 0
Skips gap text (Ok x) = (gap ≡ Behind (record { text = drop x.0 text; pos = x.1 })) × (x.0 ≤ length text) × HasRoom x.1 (drop x.0 text)
Skips gap text (Err f) = (start : Pos) × (gap ≡ Unfinished start) × (f ≡ fault.Symbol start)
