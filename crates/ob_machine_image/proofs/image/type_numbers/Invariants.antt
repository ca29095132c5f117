use Rattle.std.proofs.Common.{◌≡◌, ◌+◌, ◌++◌, length}
use Rattle.ob_obj.specs.Images.{numbers}
use Rattle.ob_machine_image.proofs.image.type_numbers.Given as goal

abbrev pub invariant-loop-rest : goal.invariant-loop-rest
invariant-loop-rest l = (l.list ++ numbers l.next (length l.rest) ≡ numbers l.first (length l.own)) × (l.next + length l.rest ≡ l.first + length l.own)

abbrev pub decreases-loop-rest : goal.decreases-loop-rest
decreases-loop-rest l = length l.rest
