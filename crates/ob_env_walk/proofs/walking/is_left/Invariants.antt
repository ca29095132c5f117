use Rattle.std.proofs.Common.{◌≡◌, length}
use Rattle.std.specs.Prelude.{bytes_eq}
use Rattle.std.specs.List.{list_any}
use Rattle.ob_env.specs.Faces.{faces_of}
use Rattle.ob_env_walk.proofs.walking.is_left.Given as goal

abbrev pub invariant-loop-rest : goal.invariant-loop-rest
invariant-loop-rest l = list_any (λ f. bytes_eq l.m f.«module») (faces_of l.rest) ≡ list_any (λ f. bytes_eq l.m f.«module») (faces_of l.left)

abbrev pub decreases-loop-rest : goal.decreases-loop-rest
decreases-loop-rest l = length l.rest
