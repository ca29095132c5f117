use Rattle.std.proofs.Common.{refl}
use Rattle.ob_parse_grammar.specs.Depth.{limit}
use Rattle.ob_parse.proofs.modules.nest_limit.Goals as goal

pub returns : goal.returns
unfolding limit
returns c = refl
