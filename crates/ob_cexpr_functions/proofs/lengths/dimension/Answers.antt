use Rattle.std.proofs.Common.{◌≡◌, ◌-◌, None, Some, sym, ap, ◌∙◌}
use Rattle.std.specs.Option.{option_map}
use Rattle.ob_rules.specs.Shapes.{array_of}
use Rattle.ob_rules.specs.Predeclared.{dimension}
use Rattle.ob_cexpr_functions.proofs.LengthLaws.{stops, goes, ends}
use Rattle.ob_cexpr_functions.proofs.lengths.dimension.Goals as goal

pub returns-in-None : goal.returns-in-None
returns-in-None g c =
    let is : None ≡ array_of (g.T.Types.types c.args.types.now) c.dimensions.of.now = sym (ap (option_map _) c.in-None.is) ∙ c.array_of.ensures in
    stops (g.T.Types.types c.args.types.now) c.args.left c.dimensions.counter c.dimensions.of.now (dimension (g.T.Types.types c.args.types.now) c.args.left c.args.t.now) c.dimensions-test.true is c.dimensions.invariant

pub dimensions-preserved : goal.dimensions-preserved
dimensions-preserved g c =
    let is : Some (c.in-Some.field-0-0, c.in-Some.element.now) ≡ array_of (g.T.Types.types c.args.types.now) c.dimensions.of.now = sym (ap (option_map _) c.in-Some.is) ∙ c.array_of.ensures in
    goes (g.T.Types.types c.args.types.now) c.args.left c.dimensions.counter c.dimensions.of.now _ c.in-Some.element.now (dimension (g.T.Types.types c.args.types.now) c.args.left c.args.t.now) c.dimensions-test.true is c.dimensions.invariant

pub returns : goal.returns
returns g c = c.array_of-2.ensures ∙ ends (g.T.Types.types c.args.types.now) c.args.left c.dimensions.counter c.dimensions.of.now (dimension (g.T.Types.types c.args.types.now) c.args.left c.args.t.now) c.dimensions-test.false c.dimensions.invariant
