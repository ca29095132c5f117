use Rattle.std.proofs.Common.{◌≡◌, length}
use Rattle.std.specs.List.{list_all}
use Rattle.ob_env.specs.Mapped.{map_of}
use Rattle.ob_env.specs.Fit.{is_inside}
use Rattle.ob_env_coherent.proofs.conditions.all_inside.Given as goal

abbrev pub invariant-loop-rest : goal.invariant-loop-rest
invariant-loop-rest l = list_all (is_inside (map_of l.env) l.before l.words) l.rest ≡ list_all (is_inside (map_of l.env) l.before l.words) l.fields

abbrev pub decreases-loop-rest : goal.decreases-loop-rest
decreases-loop-rest l = length l.rest
