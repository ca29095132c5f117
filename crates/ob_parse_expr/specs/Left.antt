-- The tokens that are left.
use Rattle.std.specs.Prelude.{◌≡◌, Bool, true, nat_le, if◌then◌else◌, [], ◌∷◌, length, Option, Some, None}
use Rattle.std.specs.List.{list_all}
use Rattle.ob_tree.specs.declared.symbol.Symbol.{Symbol}
use Rattle.ob_tree.specs.declared.symbol.Symbol.TheVariants as s
use Rattle.ob_tree.specs.declared.token.Token.{Token}
use Rattle.ob_scan.specs.Scanning.{lexeme_of}
use Rattle.ob_parse_grammar.specs.Phrase.{Tokens, same}
use Rattle.ob_parse_grammar.specs.Texts.{token_of, tokens_of}
use Rattle.ob_parse_expr.specs.declared.source.Source.{Source}
use Rattle.ob_parse_expr.specs.declared.source.Source.TheVariants as source

-- ---- of a cursor

-- behind a token of this symbol
abbrev pub behind : Symbol → Source → Tokens
behind x (source.Listed ts) = ts.now
behind x (source.Scanned i) = if same x s.End then [] else tokens_of i

abbrev pub ahead : Token → Source → Token
ahead t (source.Listed ts) = t
ahead t (source.Scanned i) = token_of (lexeme_of t)

abbrev pub left : Option Token → Source → Tokens
left None from = []
left (Some t) from = ahead t from ∷ behind t.symbol from

-- ---- names

abbrev pub name_fits : Token → Bool
name_fits t = if same t.symbol s.Ident then nat_le (length t.text.now) 64 else true

-- each identifier has at most 64 characters
abbrev pub NamesFit : Tokens → Type 0
NamesFit ts = list_all name_fits ts ≡ true
