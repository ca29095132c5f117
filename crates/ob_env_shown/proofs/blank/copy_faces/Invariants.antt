use Rattle.std.proofs.Common.{◌≡◌, ◌++◌, drop}
use Rattle.ob_env_shown.proofs.blank.copy_faces.Given as goal

abbrev pub invariant-faces : goal.invariant-faces
invariant-faces l = l.all ++ drop l.face-index l.faces ≡ l.faces
