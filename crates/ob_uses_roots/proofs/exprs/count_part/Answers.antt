use Rattle.ob_uses_roots.specs.Noted.{noted}
use Rattle.ob_uses_roots.specs.Parts.{counts_of_part, counts_of_parts}
use Rattle.ob_uses_roots.proofs.Parts.{counts_next, size_next}
use Rattle.ob_uses_roots.proofs.exprs.count_part.Goals as goal

pub parts-smaller : goal.parts-smaller
parts-smaller c = size_next _ c.parts.parts.items c.pop.new.self.items c.in-Some.next c.in_ok-take_apart-2.ensures.size c.in-Some.ensures.items

pub parts-preserved : goal.parts-preserved
parts-preserved c =
    let left = noted c.take_apart-in-Some.new.found (counts_of_parts c.take_apart-in-Some.new.parts.items) in
    let whole = noted c.args.found.now (counts_of_part c.args.part) in
    counts_next c.parts.found left whole c.parts.parts.items c.pop.new.self.items c.in-Some.next c.in_ok-take_apart-2.ensures.counts c.in-Some.ensures.items c.parts.invariant
