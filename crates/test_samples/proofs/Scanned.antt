-- What a scan gives may be parsed.
use Rattle.std.proofs.Common.{◌≡◌, refl, sym, subst, Bool, true, false, ◌&&◌, [], ◌∷◌, ◌++◌, Ok}
use Rattle.std.specs.List.{list_all}
use Rattle.ob_tree.specs.declared.symbol.Symbol.TheVariants as s
use Rattle.ob_tree.specs.declared.token.Token.{Token}
use Rattle.ob_scan.specs.Scanning.{Input, Gives, lexeme_of, step, Leads, Scans}
use Rattle.ob_parse_grammar.specs.Phrase.{Tokens}
use Rattle.ob_parse_expr.specs.Left.{name_fits, NamesFit}
use Rattle.ob_parse.specs.Parsed.{EndsOnce}
use Rattle.ob_parse_expr.proofs.Texts.{step_whole}

front_ends : (i : Input) (front : Tokens) (t : Token) (j : Input) → Leads i front j → t.symbol ≡ s.End → EndsOnce (front ++ t ∷ [])
front_ends i [] t j h e = e
front_ends i (u ∷ []) t j h e = (h.2, e)
front_ends i (u ∷ v ∷ vs) t j h e = (h.2, front_ends h.0 (v ∷ vs) t j h.3 e)

pub ends_once : (i : Input) (ts : Tokens) → Scans i (Ok ts) → EndsOnce ts
ends_once i ts h = subst EndsOnce (sym h.4) (front_ends i h.0 h.1 h.2 h.5 h.7)

both : (a b : Bool) → a ≡ true → b ≡ true → (a && b) ≡ true
both true b e h = h
both false b e h = e

front_fits : (i : Input) (front : Tokens) (t : Token) (j k : Input) → Leads i front j → step j ≡ Gives (lexeme_of t) k → NamesFit (front ++ t ∷ [])
front_fits i [] t j k h g = both (name_fits t) true (step_whole j (lexeme_of t) k g).1 refl
front_fits i (u ∷ us) t j k h g = both (name_fits u) (list_all name_fits (us ++ t ∷ [])) (step_whole i (lexeme_of u) h.0 h.1).1 (front_fits h.0 us t j k h.3 g)

pub names_fit : (i : Input) (ts : Tokens) → Scans i (Ok ts) → NamesFit ts
names_fit i ts h = subst NamesFit (sym h.4) (front_fits i h.0 h.1 h.2 h.3 h.5 h.6)
