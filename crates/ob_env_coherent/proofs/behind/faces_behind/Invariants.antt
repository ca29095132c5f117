use Rattle.std.proofs.Common.{◌≡◌, ◌++◌, List, length}
use Rattle.ob_types.specs.declared.face.Interface.{Interface}
use Rattle.ob_env_coherent.proofs.behind.faces_behind.Given as goal

abbrev pub invariant-loop-left : goal.invariant-loop-left
invariant-loop-left l = (more : List Interface) → l.rest ≡ l.left ++ more → l.faces ≡ l.before ++ more

abbrev pub decreases-loop-left : goal.decreases-loop-left
decreases-loop-left l = length l.left
