use Rattle.std.proofs.Common.{◌+◌, length}
use Rattle.ob_uses.specs.Ways.{leads_by}
use Rattle.ob_uses.proofs.Going.{Going, weight}
use Rattle.ob_uses.proofs.reach.search.Given as goal

abbrev pub invariant-reach : goal.invariant-reach
invariant-reach g l = Going (leads_by l.way (g.T.Types.types l.types) l.own) l.starts l.aspect l.seen.keys l.left.items

abbrev pub decreases-reach : goal.decreases-reach
decreases-reach g l = weight (leads_by l.way (g.T.Types.types l.types) l.own) l.aspect l.seen.keys (g.T.Types.finite l.types).0 + length l.left.items
