use Rattle.std.proofs.Common.{◌≤◌, length}
use Rattle.std.specs.List.{AllByRecursion}
use Rattle.ob_desc.specs.Grammar.{type_print}
use Rattle.ob_obj_spelling.proofs.short.are_short.Given as goal

abbrev pub invariant-loop-rest : goal.invariant-loop-rest
invariant-loop-rest l = AllByRecursion (λ p. length (type_print p.1) ≤ 131071) l.rest → AllByRecursion (λ p. length (type_print p.1) ≤ 131071) l.params

abbrev pub decreases-loop-rest : goal.decreases-loop-rest
decreases-loop-rest l = length l.rest
