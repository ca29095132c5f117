-- A token taken, or not.
use Rattle.std.proofs.Common.{◌≡◌, refl, sym, ap, subst, true, false, Option, Some, Ok}
use Rattle.ob_tree.specs.declared.symbol.Symbol.{Symbol}
use Rattle.ob_tree.specs.declared.token.Token.{Token}
use Rattle.ob_scan.specs.Scanning.{lexeme_of}
use Rattle.ob_parse_grammar.specs.Phrase.{Tokens, same}
use Rattle.ob_parse_grammar.specs.Reading.{Found, take_word}
use Rattle.ob_parse_expr.specs.declared.source.Source.{Source}
use Rattle.ob_parse_expr.specs.declared.source.Source.TheVariants as source
use Rattle.ob_parse_grammar.specs.declared.fault.ParseFault.TheVariants as fault
use Rattle.ob_parse_grammar.specs.Texts.{token_of}
use Rattle.ob_parse_expr.specs.Left.{left, behind}
use Rattle.ob_parse_expr.specs.Contract.{Gives, Takes, FailsAs}

pub took : (x : Symbol) (o : Option Token) (t : Token) (from : Source) (rest : Tokens) → o ≡ Some t → same t.symbol x ≡ true → rest ≡ behind t.symbol from → Gives (take_word x (left o from)) (Ok t) rest
took x o t from rest e h b = subst (λ q. Gives (take_word x (left q from)) (Ok t) rest) (sym e) (by_source from b)
  where
    by_source : (from : Source) → rest ≡ behind t.symbol from → Gives (take_word x (left (Some t) from)) (Ok t) rest
    by_source (source.Listed ts) b = (t, rw h (ap (λ w. Found t w) (sym b)), (refl, refl, refl))
    by_source (source.Scanned i) b = (token_of (lexeme_of t), rw h (ap (λ w. Found (token_of (lexeme_of t)) w) (sym b)), (refl, refl, refl))

pub not_took : (x : Symbol) (o : Option Token) (t : Token) (from : Source) → o ≡ Some t → same t.symbol x ≡ false → FailsAs (fault.Syntax t.pos) (take_word x (left o from))
not_took x o t from e h = subst (λ q. FailsAs (fault.Syntax t.pos) (take_word x (left q from))) (sym e) (by_source from)
  where
    by_source : (from : Source) → FailsAs (fault.Syntax t.pos) (take_word x (left (Some t) from))
    by_source (source.Listed ts) = (left (Some t) (source.Listed ts), rw h refl, refl)
    by_source (source.Scanned i) = (left (Some t) (source.Scanned i), rw h refl, refl)

pub takes : (x : Symbol) (o : Option Token) (t : Token) (from : Source) (rest : Tokens) → o ≡ Some t → same t.symbol x ≡ true → rest ≡ behind t.symbol from → Takes x (left o from) (Ok t.pos) rest
takes x o t from rest e h b = subst (λ q. Takes x (left q from) (Ok t.pos) rest) (sym e) (by_source from b)
  where
    by_source : (from : Source) → rest ≡ behind t.symbol from → Takes x (left (Some t) from) (Ok t.pos) rest
    by_source (source.Listed ts) b = (t, rw h (ap (λ w. Found t w) (sym b)), refl)
    by_source (source.Scanned i) b = (token_of (lexeme_of t), rw h (ap (λ w. Found (token_of (lexeme_of t)) w) (sym b)), refl)
