-- What an answer of the parser says of the tokens.
use Rattle.std.specs.Prelude.{◌≡◌, [], ◌∷◌, Result, Ok, Err}
use Rattle.ob_tree.specs.declared.symbol.Symbol.TheVariants as s
use Rattle.ob_tree.specs.declared.decl.Module.{Module}
use Rattle.ob_parse_grammar.specs.Phrase.{Tokens}
use Rattle.ob_parse_grammar.specs.Reading.{Found}
use Rattle.ob_parse_grammar.specs.Declarations.{«module»}
use Rattle.ob_parse_grammar.specs.Grammar.{reads}
use Rattle.ob_parse_grammar.specs.Depth.{limit}
use Rattle.ob_parse_grammar.specs.declared.fault.ParseFault.{ParseFault}
use Rattle.ob_parse_expr.specs.Contract.{FailsAs}

-- the last is the end, and no other is
abbrev pub EndsOnce : Tokens → Type 0
EndsOnce [] = ⊥
EndsOnce (t ∷ []) = t.symbol ≡ s.End
EndsOnce (t ∷ u ∷ us) = (t.symbol ≡ s.End → ⊥) × EndsOnce (u ∷ us)

-- the answer is what the grammar's reading gives, which leaves no token
abbrev pub Says : Result Module ParseFault → Tokens → Type 0
Says (Ok m) ts = reads limit «module» ts ≡ Found m []
Says (Err e) ts = FailsAs e (reads limit «module» ts)
