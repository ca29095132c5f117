use Rattle.std.proofs.Common.{◌≡◌, ◌++◌, length}
use Rattle.std.specs.Prelude.{map as each}
use Rattle.std.specs.List.{list_all}
use Rattle.ob_types.specs.Maps.{stands_on}
use Rattle.ob_env_ranks.proofs.within.marks_of.Given as goal

abbrev pub invariant-loop-rest : goal.invariant-loop-rest
invariant-loop-rest g l = l.row ++ each (λ o. list_all (g.P.Test.passes l.p) (stands_on o.desc)) l.rest ≡ each (λ o. list_all (g.P.Test.passes l.p) (stands_on o.desc)) l.objects

abbrev pub decreases-loop-rest : goal.decreases-loop-rest
decreases-loop-rest g l = length l.rest
