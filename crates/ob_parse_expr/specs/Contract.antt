-- What a function that parses ensures: it gives what the grammar's reading gives, unless memory runs out.
use Rattle.std.specs.Prelude.{◌≡◌, List, [], ◌∷◌, ◌++◌, Result, Ok, Err}
use Rattle.ob_tree.specs.declared.symbol.Symbol.{Symbol}
use Rattle.ob_tree.specs.declared.token.Token.{Token}
use Rattle.ob_tree.specs.declared.pos.Pos.{Pos}
use Rattle.ob_parse_grammar.specs.Phrase.{Tokens}
use Rattle.ob_parse_grammar.specs.Reading.{Fault, Wrong, Deep, Read, Found, Fails, take_word}
use Rattle.ob_parse_grammar.specs.declared.fault.ParseFault.{ParseFault}
use Rattle.ob_parse_grammar.specs.declared.fault.ParseFault.TheVariants as fault

-- the place of the next token
abbrev pub IsAt : Tokens → Pos → Type 0
IsAt [] pos = pos ≡ record { line = 0; col = 0 }
IsAt (t ∷ ts) pos = pos ≡ t.pos

abbrev pub FailsAs : {A : Type 0} → ParseFault → Read A → Type 0
FailsAs fault.Memory r = Unit {0}
FailsAs (fault.Syntax pos) r = (ts : Tokens) × (r ≡ Fails Wrong ts) × IsAt ts pos
FailsAs (fault.TooDeep pos) r = (ts : Tokens) × (r ≡ Fails Deep ts) × IsAt ts pos

-- what was read, and the tokens behind it; or why it fails
abbrev pub Reads : {A : Type 0} → Read A → Result A ParseFault → Tokens → Type 0
Reads r (Ok x) new = r ≡ Found x new
Reads r (Err e) new = FailsAs e r

-- what was read stands behind what was there before
abbrev pub Adds : {A : Type 0} → Read (List A) → List A → Result (Unit {0}) ParseFault → List A → Tokens → Type 0
Adds {A} r old (Ok u) new rest = (xs : List A) × (r ≡ Found xs rest) × (new ≡ old ++ xs)
Adds r old (Err e) new rest = FailsAs e r

-- the same of one that was read
abbrev pub Puts : {A : Type 0} → Read A → List A → Result (Unit {0}) ParseFault → List A → Tokens → Type 0
Puts {A} r old (Ok u) new rest = (x : A) × (r ≡ Found x rest) × (new ≡ old ++ x ∷ [])
Puts r old (Err e) new rest = FailsAs e r

-- the same symbol with the same text at the same place
abbrev pub Alike : Token → Token → Type 0
Alike t u = (t.symbol ≡ u.symbol) × (t.text.now ≡ u.text.now) × (t.pos ≡ u.pos)

-- a token was read, and a like one is given
abbrev pub Gives : Read Token → Result Token ParseFault → Tokens → Type 0
Gives r (Ok u) new = (t : Token) × (r ≡ Found t new) × Alike t u
Gives r (Err e) new = FailsAs e r

-- a symbol was taken, and the place of its token is known
abbrev pub Takes : Symbol → Tokens → Result Pos ParseFault → Tokens → Type 0
Takes x old (Ok pos) new = (t : Token) × (take_word x old ≡ Found t new) × (pos ≡ t.pos)
Takes x old (Err e) new = FailsAs e (take_word x old)

-- this fault at the next token
abbrev pub IsFault : Fault → Tokens → ParseFault → Type 0
IsFault k ts fault.Memory = ⊥
IsFault Wrong ts (fault.Syntax pos) = IsAt ts pos
IsFault Deep ts (fault.Syntax pos) = ⊥
IsFault Wrong ts (fault.TooDeep pos) = ⊥
IsFault Deep ts (fault.TooDeep pos) = IsAt ts pos
