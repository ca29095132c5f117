use Rattle.std.proofs.Common.{◌<◌, ◌≤◌, ◌+◌, ◌-◌, ◌/◌, length, arith, sym, ◌∙◌}
use Rattle.ob_cmp.proofs.Halving.{above_from, below_up_to, found, missing}
use Rattle.ob_cmp.proofs.lookup.find_object.Goals as goal

pub halves-preserved-in-Less : goal.halves-preserved-in-Less
halves-preserved-in-Less c =
    let middle = c.halves.low + (c.halves.high - c.halves.low) / 2 in
    let within : middle < length c.args.objects.now = omega arith in
    record {
      inside = omega arith;
      below = c.halves.invariant.below;
      above = above_from c.args.name.now c.args.objects.now middle c.index-objects-middle.result c.requires within c.index-objects-middle.is (sym c.compare.ensures ∙ c.in-Less.is);
    }

pub halves-preserved : goal.halves-preserved
halves-preserved c =
    let middle = c.halves.low + (c.halves.high - c.halves.low) / 2 in
    let within : middle < length c.args.objects.now = omega arith in
    record {
      inside = c.halves.invariant.inside;
      below = below_up_to c.args.name.now c.args.objects.now middle c.index-objects-middle.result c.requires within c.index-objects-middle.is (sym c.compare.ensures ∙ c.in-Greater.is);
      above = c.halves.invariant.above;
    }

pub returns-in-Equal : goal.returns-in-Equal
returns-in-Equal c =
    let middle = c.halves.low + (c.halves.high - c.halves.low) / 2 in
    let within : middle < length c.args.objects.now = omega arith in
    sym (found c.args.name.now c.args.objects.now middle c.index-objects-middle.result c.requires within c.index-objects-middle.is (sym c.compare.ensures ∙ c.in-Equal.is))

pub returns : goal.returns
returns c = sym (missing c.args.name.now c.args.objects.now c.halves.low c.halves.high c.halves-test.false c.halves.invariant.below c.halves.invariant.above)
