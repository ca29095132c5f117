use Rattle.std.proofs.Common.{◌≡◌, length}
use Rattle.ob_format.specs.Order.{rises}
use Rattle.ob_sym.specs.Grammar.{by_name}
use Rattle.ob_obj_spelling.proofs.face.objects_rise.Given as goal

abbrev pub invariant-loop-rest : goal.invariant-loop-rest
invariant-loop-rest l = rises by_name l.rest ≡ rises by_name l.objects

abbrev pub decreases-loop-rest : goal.decreases-loop-rest
decreases-loop-rest l = length l.rest
