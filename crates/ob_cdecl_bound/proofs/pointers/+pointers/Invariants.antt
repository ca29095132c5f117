use Rattle.std.proofs.Common.{◌+◌, ◌*◌}
use Rattle.ob_cdecl_bound.proofs.pointers.+pointers.Given as goal

abbrev pub decreases-judge_pointer : goal.decreases-judge_pointer
decreases-judge_pointer g l = 2 * l.fuel

abbrev pub decreases-judge_base : goal.decreases-judge_base
decreases-judge_base g l = 2 * l.fuel + 1
