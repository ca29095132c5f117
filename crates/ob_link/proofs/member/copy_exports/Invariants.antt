use Rattle.std.proofs.Common.{◌≡◌, ◌++◌, length}
use Rattle.ob_link.proofs.member.copy_exports.Given as goal

abbrev pub invariant-loop-rest : goal.invariant-loop-rest
invariant-loop-rest l = l.copies ++ l.rest ≡ l.exports

abbrev pub decreases-loop-rest : goal.decreases-loop-rest
decreases-loop-rest l = length l.rest
