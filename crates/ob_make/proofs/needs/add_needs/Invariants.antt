use Rattle.std.proofs.Common.{◌≡◌, ◌++◌, length}
use Rattle.std.specs.List.{filter}
use Rattle.ob_make.specs.Seen.{is_needed}
use Rattle.ob_make.proofs.needs.add_needs.Given as goal

abbrev pub invariant-loop-rest : goal.invariant-loop-rest
invariant-loop-rest l = l.needs ++ filter (is_needed l.«module») l.rest ≡ l.fn.needs ++ filter (is_needed l.«module») l.names

abbrev pub decreases-loop-rest : goal.decreases-loop-rest
decreases-loop-rest l = length l.rest
