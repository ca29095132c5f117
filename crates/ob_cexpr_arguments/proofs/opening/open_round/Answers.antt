use Rattle.std.proofs.Common.{map}
use Rattle.ob_rules.specs.Expressions as spec
use Rattle.ob_cexpr_arguments.proofs.RoundLaws.{call_opens, statement_opens}
use Rattle.ob_cexpr_arguments.proofs.opening.open_round.Goals as goal

pub returns-in-Call : goal.returns-in-Call
returns-in-Call g c = λ w. call_opens (g.S.Surroundings.around c.args.here.now) w c.args.start c.args.at (map spec.phrase_of c.args.arguments.now) c.args.meant _ c.args.book.now c.in-Call.is

pub returns : goal.returns
returns g c = λ w. statement_opens (g.S.Surroundings.around c.args.here.now) w c.args.start c.args.at (map spec.phrase_of c.args.arguments.now) c.args.meant _ c.args.book.now c.in-Statement.is
