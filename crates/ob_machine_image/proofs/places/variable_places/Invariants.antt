use Rattle.std.proofs.Common.{◌≡◌, ◌+◌, ◌++◌, length, map}
use Rattle.ob_machine_image.proofs.places.variable_places.Given as goal

abbrev pub invariant-loop-rest : goal.invariant-loop-rest
invariant-loop-rest l = l.places ++ map (λ v. (v.name, l.first + v.place)) l.rest ≡ map (λ v. (v.name, l.first + v.place)) l.variables

abbrev pub decreases-loop-rest : goal.decreases-loop-rest
decreases-loop-rest l = length l.rest
