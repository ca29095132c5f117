use Rattle.std.proofs.Common.{◌≡◌, length}
use Rattle.ob_layout.specs.Lists.{in_order}
use Rattle.ob_layout.proofs.Putting.{put_all}
use Rattle.ob_layout.proofs.ordered.ordered_set.Given as goal

-- what is left, put into the set, gives all
abbrev pub invariant-entries : goal.invariant-entries
invariant-entries g l = put_all g.T.Ord.cmp l.left.items l.set.keys ≡ in_order g.T.Ord.cmp l.initial.left.items

abbrev pub decreases-entries : goal.decreases-entries
decreases-entries g l = length l.left.items
