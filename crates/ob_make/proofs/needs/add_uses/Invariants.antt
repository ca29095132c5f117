use Rattle.std.proofs.Common.{◌≡◌, ◌++◌, length}
use Rattle.std.specs.Prelude.{map as each}
use Rattle.std.specs.List.{filter}
use Rattle.ob_env.specs.Faces.{wanted_of}
use Rattle.ob_make.specs.Seen.{is_needed}
use Rattle.ob_make.specs.Walking.{singled}
use Rattle.ob_make.proofs.needs.add_uses.Given as goal

abbrev pub invariant-loop-rest : goal.invariant-loop-rest
invariant-loop-rest l = l.needs ++ filter (is_needed l.«module») (singled (each (λ w. w.object.«module») (each wanted_of l.rest))) ≡ l.fn.needs ++ filter (is_needed l.«module») (singled (each (λ w. w.object.«module») (each wanted_of l.uses)))

abbrev pub decreases-loop-rest : goal.decreases-loop-rest
decreases-loop-rest l = length l.rest
