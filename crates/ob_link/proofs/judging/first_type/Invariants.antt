use Rattle.std.proofs.Common.{◌≡◌, ◌++◌, length}
use Rattle.ob_link.specs.Walk.{first_of}
use Rattle.ob_link.specs.Judging.{missing_type}
use Rattle.ob_link.proofs.judging.first_type.Given as goal

abbrev pub invariant-loop-rest : goal.invariant-loop-rest
invariant-loop-rest l = first_of (missing_type (l.loaded ++ l.new)) l.rest ≡ first_of (missing_type (l.loaded ++ l.new)) l.links

abbrev pub decreases-loop-rest : goal.decreases-loop-rest
decreases-loop-rest l = length l.rest
