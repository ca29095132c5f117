use Rattle.std.proofs.Common.{◌≡◌, subst}
use Rattle.ob_layout.specs.Index.{at_name}
use Rattle.ob_layout.proofs.Names.{puts_at}
use Rattle.ob_layout.proofs.index.put.Goals as goal

pub returns-clause-puts : goal.returns-clause-puts
returns-clause-puts c = puts_at c.in_ok-key.key.items c.args.name.now c.args.positions.now c.insert.new.self c.args.position c.in_ok-key.ensures.items c.in_ok-earlier.ensures.updates

pub returns-clause-earlier : goal.returns-clause-earlier
returns-clause-earlier c = subst (λ l. c.in_ok-earlier.earlier ≡ at_name c.args.positions.now l) c.in_ok-key.ensures.items c.in_ok-earlier.ensures.old
