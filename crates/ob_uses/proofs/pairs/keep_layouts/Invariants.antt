use Rattle.std.proofs.Common.{◌≡◌, ◌++◌, ◌&&◌, length}
use Rattle.std.specs.List.{filter}
use Rattle.ob_types.specs.Relations.{is_record}
use Rattle.ob_types.specs.AssigningTests.{described as is_described}
use Rattle.ob_uses.specs.Ways.{is_foreign}
use Rattle.ob_uses.proofs.pairs.keep_layouts.Given as goal

-- what was added, and what is kept of the rest, is the whole
abbrev pub invariant-pairs : goal.invariant-pairs
invariant-pairs g l = l.found.items ++ filter (λ p. is_foreign l.own p.object && is_described is_record (g.T.Types.types l.types p.object)) l.left.keys ≡ l.initial.found.items ++ filter (λ p. is_foreign l.own p.object && is_described is_record (g.T.Types.types l.types p.object)) l.initial.left.keys

abbrev pub decreases-pairs : goal.decreases-pairs
decreases-pairs g l = length l.left.keys
