use Rattle.std.proofs.Common.{◌≡◌, ◌+◌, ◌≤◌, length}
use Rattle.ob_obj.specs.Grammar.{names_in}
use Rattle.ob_obj_spelling.proofs.checks.count_names.Given as goal

abbrev pub invariant-loop-rest : goal.invariant-loop-rest
invariant-loop-rest l = (l.count + names_in l.rest ≡ names_in l.exports) × (l.count + length l.rest ≤ length l.exports)

abbrev pub decreases-loop-rest : goal.decreases-loop-rest
decreases-loop-rest l = length l.rest
