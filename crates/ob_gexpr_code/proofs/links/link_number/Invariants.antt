use Rattle.std.proofs.Common.{◌≡◌, ◌+◌, length}
use Rattle.ob_scheme.specs.Numbers.{same_link, number_among, link_to}
use Rattle.ob_gexpr_code.proofs.links.link_number.Given as goal

abbrev pub invariant-loop-rest : goal.invariant-loop-rest
invariant-loop-rest l = (l.number + number_among same_link l.rest (link_to l.unit l.name) ≡ number_among same_link l.links (link_to l.unit l.name)) × (l.number + length l.rest ≡ length l.links)

abbrev pub decreases-loop-rest : goal.decreases-loop-rest
decreases-loop-rest l = length l.rest
