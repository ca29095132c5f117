use Rattle.std.proofs.Common.{◌≡◌, ◌++◌, drop}
use Rattle.ob_env_shown.specs.Faces.{rows_of}
use Rattle.ob_env_shown.proofs.blank.blank_rows.Given as goal

abbrev pub invariant-faces : goal.invariant-faces
invariant-faces l = l.all ++ rows_of (drop l.face-index l.faces) ≡ rows_of l.faces
