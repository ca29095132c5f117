use Rattle.std.proofs.Common.{◌≡◌, length}
use Rattle.std.specs.List.{list_all}
use Rattle.ob_env.specs.Fit.{is_numbered}
use Rattle.ob_env_coherent.proofs.conditions.all_numbered.Given as goal

abbrev pub invariant-loop-rest : goal.invariant-loop-rest
invariant-loop-rest l = list_all (is_numbered l.before l.procedures) l.rest ≡ list_all (is_numbered l.before l.procedures) l.methods

abbrev pub decreases-loop-rest : goal.decreases-loop-rest
decreases-loop-rest l = length l.rest
