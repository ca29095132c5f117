use Rattle.std.proofs.Common.{◌≡◌, ◌+◌, ◌*◌, length}
use Rattle.ob_types.specs.Tests.{params_alike, equal_at}
use Rattle.ob_types.proofs.relations.+equal.Given as goal

abbrev pub decreases-equal_within : goal.decreases-equal_within
decreases-equal_within g l = 2 * l.left

abbrev pub decreases-params_equal : goal.decreases-params_equal
decreases-params_equal g l = 2 * l.left + 1

abbrev pub invariant-params_equal-loop-first : goal.invariant-params_equal-loop-first
invariant-params_equal-loop-first g l = params_alike (λ x y. equal_at (g.T.Types.types l.types) l.left x y) l.first l.second ≡ params_alike (λ x y. equal_at (g.T.Types.types l.types) l.left x y) l.fn.a l.fn.b

abbrev pub decreases-params_equal-loop-first : goal.decreases-params_equal-loop-first
decreases-params_equal-loop-first g l = length l.first
