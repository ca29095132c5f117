use Rattle.std.proofs.Common.{refl}
use Rattle.ob_parse_grammar.specs.Grammar.{reads}
use Rattle.ob_parse_grammar.specs.Declarations.{«module»}
use Rattle.ob_parse_grammar.proofs.Verdicts.{verdict, read_whole}
use Rattle.ob_parse_grammar.proofs.reading_is_exact.Goals as goal

pub returns-clause-verdict : goal.returns-clause-verdict
returns-clause-verdict c = λ d ts. verdict d ts (reads d «module» ts) refl

pub returns-clause-only : goal.returns-clause-only
returns-clause-only c = λ d ts. read_whole d ts
