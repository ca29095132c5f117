use Rattle.std.proofs.Common.{◌≡◌, ◌++◌, length, map}
use Rattle.ob_obj.specs.Images.{linked_procedure, or_first}
use Rattle.ob_machine_image.proofs.places.procedure_links.Given as goal

abbrev pub invariant-loop-rest : goal.invariant-loop-rest
invariant-loop-rest l = l.procedures ++ map (λ k. or_first (linked_procedure l.modules k)) l.rest ≡ map (λ k. or_first (linked_procedure l.modules k)) l.links

abbrev pub decreases-loop-rest : goal.decreases-loop-rest
decreases-loop-rest l = length l.rest
