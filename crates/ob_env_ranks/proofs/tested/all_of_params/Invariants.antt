use Rattle.std.proofs.Common.{◌≡◌, length}
use Rattle.std.specs.Prelude.{map as each}
use Rattle.std.specs.List.{list_all}
use Rattle.ob_env_ranks.proofs.tested.all_of_params.Given as goal

abbrev pub invariant-loop-rest : goal.invariant-loop-rest
invariant-loop-rest g l = list_all (g.P.Test.passes l.p) (each (λ x. x.1) l.rest) ≡ list_all (g.P.Test.passes l.p) (each (λ x. x.1) l.params)

abbrev pub decreases-loop-rest : goal.decreases-loop-rest
decreases-loop-rest g l = length l.rest
