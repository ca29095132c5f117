use Rattle.std.proofs.Common.{◌≡◌, ◌≤◌, ◌+◌, ◌*◌, length}
use Rattle.ob_link.specs.Judging.{words_of}
use Rattle.ob_link.proofs.judging.words_of.Given as goal

abbrev pub invariant-loop-rest : goal.invariant-loop-rest
invariant-loop-rest l = (l.words + words_of l.rest ≡ words_of l.members) × (l.words + length l.rest * 262144 ≤ length l.members * 262144)

abbrev pub decreases-loop-rest : goal.decreases-loop-rest
decreases-loop-rest l = length l.rest
