use Rattle.std.proofs.Common.{◌≡◌, length, nat_lt}
use Rattle.std.specs.List.{list_all}
use Rattle.ob_obj_spelling.proofs.checks.has_procedures_within.Given as goal

abbrev pub invariant-loop-rest : goal.invariant-loop-rest
invariant-loop-rest l = list_all (λ d. nat_lt d.procedure l.limit) l.rest ≡ list_all (λ d. nat_lt d.procedure l.limit) l.definitions

abbrev pub decreases-loop-rest : goal.decreases-loop-rest
decreases-loop-rest l = length l.rest
