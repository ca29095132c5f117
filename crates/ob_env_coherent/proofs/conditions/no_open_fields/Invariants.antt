use Rattle.std.proofs.Common.{◌≡◌, length}
use Rattle.std.specs.List.{list_all}
use Rattle.ob_env.specs.Mapped.{map_of}
use Rattle.ob_env.specs.Fit.{is_closed_field}
use Rattle.ob_env_coherent.proofs.conditions.no_open_fields.Given as goal

abbrev pub invariant-loop-rest : goal.invariant-loop-rest
invariant-loop-rest l = list_all (is_closed_field (map_of l.env) l.steps) l.rest ≡ list_all (is_closed_field (map_of l.env) l.steps) l.fields

abbrev pub decreases-loop-rest : goal.decreases-loop-rest
decreases-loop-rest l = length l.rest
