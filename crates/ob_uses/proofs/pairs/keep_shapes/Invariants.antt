use Rattle.std.proofs.Common.{◌≡◌, ◌++◌, ◌&&◌, length}
use Rattle.std.specs.List.{filter}
use Rattle.ob_uses.specs.Ways.{is_foreign}
use Rattle.ob_uses.proofs.pairs.keep_shapes.Given as goal

-- what was added, and what is kept of the rest, is the whole
abbrev pub invariant-pairs : goal.invariant-pairs
invariant-pairs l = l.found.items ++ filter (λ p. is_foreign l.own p.object) l.left.keys ≡ l.initial.found.items ++ filter (λ p. is_foreign l.own p.object) l.initial.left.keys

abbrev pub decreases-pairs : goal.decreases-pairs
decreases-pairs l = length l.left.keys
