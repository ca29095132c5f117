use Rattle.std.proofs.Common.{◌≡◌}
use Rattle.ob_uses_roots.specs.Noted.{noted}
use Rattle.ob_uses_roots.specs.Parts.{counts_of_part, counts_of_parts, size_of_parts}
use Rattle.ob_uses_roots.proofs.exprs.count_part.Given as goal

-- what was noted, and the parts after it, is the whole
abbrev pub invariant-parts : goal.invariant-parts
invariant-parts l = noted l.found (counts_of_parts l.parts.items) ≡ noted l.fn.found (counts_of_part l.part)

abbrev pub decreases-parts : goal.decreases-parts
decreases-parts l = size_of_parts l.parts.items
