use Rattle.std.proofs.Common.{◌++◌}
use Rattle.ob_layout.specs.Parts.{texts_of_part, texts_of_parts}
use Rattle.ob_layout.specs.Used.{used, counted}
use Rattle.ob_layout.proofs.UsedTexts.{texts_next, size_next}
use Rattle.ob_layout.proofs.texts.texts_in.Goals as goal

pub parts-smaller : goal.parts-smaller
parts-smaller g c = size_next _ c.parts.parts.items c.pop.new.self.items c.in-Some.next c.in_ok-take_apart-2.ensures.size c.in-Some.ensures.items

pub parts-preserved : goal.parts-preserved
parts-preserved g c =
    let words = counted (g.T.Types.types c.args.types.now) in
    let left = used c.take_apart-in-Some.new.out ++ texts_of_parts words c.take_apart-in-Some.new.parts.items in
    let whole = used c.args.out.now ++ texts_of_part words c.args.part in
    texts_next words (used c.parts.out) left whole c.parts.parts.items c.pop.new.self.items c.in-Some.next c.in_ok-take_apart-2.ensures.texts c.in-Some.ensures.items c.parts.invariant
