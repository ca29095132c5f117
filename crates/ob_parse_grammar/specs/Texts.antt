-- The tokens of a text.
use Rattle.std.specs.Prelude.{ℕ, zero, suc, if◌then◌else◌, [], ◌∷◌, length}
use Rattle.ob_tree.specs.declared.symbol.Symbol.TheVariants as s
use Rattle.ob_tree.specs.declared.token.Token.{Token}
use Rattle.ob_scan.specs.Scanning.{Input, Lexeme, Step, Gives, Faults, step}
use Rattle.ob_parse_grammar.specs.Phrase.{Tokens, same}

-- a token by its symbol, text and place alone
abbrev pub token_of : Lexeme → Token
token_of l = record { symbol = l.symbol; text = record { ref_ptr = (0, 0); now = l.text }; pos = l.pos }

-- the end is the last, and a fault ends them too
abbrev pub listed : Step → (Input → Tokens) → Tokens
listed (Gives l j) more = token_of l ∷ (if same l.symbol s.End then [] else more j)
listed (Faults f) more = []

-- at most so many tokens
abbrev pub tokens_in : ℕ → Input → Tokens
tokens_in zero i = []
tokens_in (suc k) i = listed (step i) (λ j. tokens_in k j)

-- each token but the end takes a byte
abbrev pub tokens_of : Input → Tokens
tokens_of i = tokens_in (suc (length i.text)) i
