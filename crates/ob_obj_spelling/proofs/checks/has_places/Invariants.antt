use Rattle.std.proofs.Common.{◌≡◌, ◌+◌, length}
use Rattle.ob_obj.specs.Grammar.{are_placed}
use Rattle.ob_obj_spelling.proofs.checks.has_places.Given as goal

abbrev pub invariant-loop-rest : goal.invariant-loop-rest
invariant-loop-rest l = (are_placed l.index l.rest l.left ≡ are_placed 0 l.code l.positions) × (l.index + length l.rest ≡ length l.code)

abbrev pub decreases-loop-rest : goal.decreases-loop-rest
decreases-loop-rest l = length l.rest
