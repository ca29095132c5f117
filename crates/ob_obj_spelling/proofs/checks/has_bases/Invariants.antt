use Rattle.std.proofs.Common.{◌≡◌, ◌+◌, length}
use Rattle.ob_obj.specs.Grammar.{bases_stand}
use Rattle.ob_obj_spelling.proofs.checks.has_bases.Given as goal

abbrev pub invariant-loop-rest : goal.invariant-loop-rest
invariant-loop-rest l = (bases_stand l.links l.index l.rest ≡ bases_stand l.links 0 l.types) × (l.index + length l.rest ≡ length l.types)

abbrev pub decreases-loop-rest : goal.decreases-loop-rest
decreases-loop-rest l = length l.rest
