use Rattle.std.proofs.Common.{◌≡◌, ◌+◌, ◌++◌, length}
use Rattle.ob_env_shown.specs.Faces.{blanks_from}
use Rattle.ob_env_shown.proofs.blank.blank_row.Given as goal

abbrev pub invariant-loop-rest : goal.invariant-loop-rest
invariant-loop-rest l = (l.blanks ++ blanks_from l.at l.rest ≡ blanks_from 0 l.objects) × (l.at + length l.rest ≡ length l.objects)

abbrev pub decreases-loop-rest : goal.decreases-loop-rest
decreases-loop-rest l = length l.rest
