use Rattle.std.proofs.Common.{◌≡◌, ◌++◌, length, map}
use Rattle.ob_obj.specs.Images.{linked_variable, or_zero}
use Rattle.ob_machine_image.proofs.places.variable_links.Given as goal

abbrev pub invariant-loop-rest : goal.invariant-loop-rest
invariant-loop-rest l = l.addresses ++ map (λ k. or_zero (linked_variable l.modules k)) l.rest ≡ map (λ k. or_zero (linked_variable l.modules k)) l.links

abbrev pub decreases-loop-rest : goal.decreases-loop-rest
decreases-loop-rest l = length l.rest
