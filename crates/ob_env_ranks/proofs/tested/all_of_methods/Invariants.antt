use Rattle.std.proofs.Common.{◌≡◌, length}
use Rattle.std.specs.List.{list_all, flat_map}
use Rattle.ob_types.specs.Maps.{signature_types}
use Rattle.ob_env_ranks.proofs.tested.all_of_methods.Given as goal

abbrev pub invariant-loop-rest : goal.invariant-loop-rest
invariant-loop-rest g l = list_all (g.P.Test.passes l.p) (flat_map (λ m. signature_types m.signature) l.rest) ≡ list_all (g.P.Test.passes l.p) (flat_map (λ m. signature_types m.signature) l.methods)

abbrev pub decreases-loop-rest : goal.decreases-loop-rest
decreases-loop-rest g l = length l.rest
