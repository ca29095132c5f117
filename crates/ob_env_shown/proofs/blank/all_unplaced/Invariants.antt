use Rattle.std.proofs.Common.{◌≡◌, ◌++◌, map, drop}
use Rattle.ob_env.specs.Shown.{unplaced}
use Rattle.ob_env_shown.proofs.blank.all_unplaced.Given as goal

abbrev pub invariant-fields : goal.invariant-fields
invariant-fields l = l.all ++ map unplaced (drop l.field-index l.fields) ≡ map unplaced l.fields
