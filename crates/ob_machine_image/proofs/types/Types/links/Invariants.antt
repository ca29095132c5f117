use Rattle.std.proofs.Common.{◌≡◌, ◌++◌, length, map}
use Rattle.ob_obj.specs.Images.{linked_type, or_zero}
use Rattle.ob_machine_image.proofs.types.Types.links.Given as goal

abbrev pub invariant-loop-rest : goal.invariant-loop-rest
invariant-loop-rest l = l.numbers ++ map (λ q. or_zero (linked_type l.self q)) l.rest ≡ map (λ q. or_zero (linked_type l.self q)) l.names

abbrev pub decreases-loop-rest : goal.decreases-loop-rest
decreases-loop-rest l = length l.rest
