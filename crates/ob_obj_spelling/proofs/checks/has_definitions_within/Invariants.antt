use Rattle.std.proofs.Common.{◌≡◌, length}
use Rattle.std.specs.List.{list_all}
use Rattle.ob_obj.specs.Grammar.{has_procedures}
use Rattle.ob_obj_spelling.proofs.checks.has_definitions_within.Given as goal

abbrev pub invariant-loop-rest : goal.invariant-loop-rest
invariant-loop-rest l = list_all (has_procedures l.limit) l.rest ≡ list_all (has_procedures l.limit) l.types

abbrev pub decreases-loop-rest : goal.decreases-loop-rest
decreases-loop-rest l = length l.rest
