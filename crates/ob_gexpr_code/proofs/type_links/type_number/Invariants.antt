use Rattle.std.proofs.Common.{◌≡◌, ◌+◌, length}
use Rattle.ob_scheme.specs.Numbers.{same_type, number_among}
use Rattle.ob_gexpr_code.proofs.type_links.type_number.Given as goal

abbrev pub invariant-loop-rest : goal.invariant-loop-rest
invariant-loop-rest l = (l.number + number_among same_type l.rest l.name ≡ number_among same_type l.types l.name) × (l.number + length l.rest ≡ length l.types)

abbrev pub decreases-loop-rest : goal.decreases-loop-rest
decreases-loop-rest l = length l.rest
