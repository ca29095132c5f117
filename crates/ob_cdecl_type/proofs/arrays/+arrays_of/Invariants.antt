use Rattle.std.proofs.Common.{length}
use Rattle.ob_cdecl_type.proofs.arrays.+arrays_of.Given as goal

abbrev pub decreases-arrays_of : goal.decreases-arrays_of
decreases-arrays_of g l = length l.lengths.now
