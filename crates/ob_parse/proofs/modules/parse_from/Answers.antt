use Rattle.ob_parse.proofs.Ends.{says, leaves_none}
use Rattle.ob_parse.proofs.modules.parse_from.Goals as goal

pub returns-clause-answer : goal.returns-clause-answer
returns-clause-answer c = says c.args.tokens.now c.read_module.result c.read_module.new.tokens c.requires c.read_module.ensures

pub returns-clause-behind : goal.returns-clause-behind
returns-clause-behind c = leaves_none c.args.tokens.now c.read_module.result c.read_module.new.tokens c.requires c.read_module.ensures
