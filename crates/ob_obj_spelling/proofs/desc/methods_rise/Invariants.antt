use Rattle.std.proofs.Common.{◌≡◌, length}
use Rattle.ob_format.specs.Order.{rises}
use Rattle.ob_desc.specs.Grammar.{by_number}
use Rattle.ob_obj_spelling.proofs.desc.methods_rise.Given as goal

abbrev pub invariant-loop-rest : goal.invariant-loop-rest
invariant-loop-rest l = rises by_number l.rest ≡ rises by_number l.methods

abbrev pub decreases-loop-rest : goal.decreases-loop-rest
decreases-loop-rest l = length l.rest
