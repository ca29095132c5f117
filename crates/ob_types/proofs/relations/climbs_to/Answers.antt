use Rattle.std.proofs.Common.{◌≡◌, ◌-◌, true, false, None, Some, sym, ap, ◌∙◌}
use Rattle.std.specs.Option.{option_copied}
use Rattle.ob_types.specs.Tests.{same_at, shape_at, base_of, target, climbs}
use Rattle.ob_types.proofs.Climbs.{here, stuck, onward, last}
use Rattle.ob_types.proofs.relations.climbs_to.Goals as goal

pub returns-then-is_same_at : goal.returns-then-is_same_at
returns-then-is_same_at g c =
    let is : same_at (g.T.Types.types c.args.types.now) c.loop.current.now c.args.b.now ≡ true = sym c.is_same_at.ensures ∙ c.if-is_same_at.true in
    sym (here (g.T.Types.types c.args.types.now) (201 - c.loop.counter) c.loop.current.now c.args.b.now is) ∙ c.loop.invariant

pub returns-in-None : goal.returns-in-None
returns-in-None g c =
    let is : same_at (g.T.Types.types c.args.types.now) c.loop.current.now c.args.b.now ≡ false = sym c.is_same_at.ensures ∙ c.if-is_same_at.false in
    let none : base_of (shape_at (g.T.Types.types c.args.types.now) (target (g.T.Types.types c.args.types.now) 201 c.loop.current.now)) ≡ None = sym c.base_within.ensures ∙ ap option_copied c.in-None.is in
    stuck (g.T.Types.types c.args.types.now) c.loop.counter c.loop.current.now c.args.b.now (climbs (g.T.Types.types c.args.types.now) 201 c.args.a.now c.args.b.now) c.loop-test.true is none c.loop.invariant

pub loop-preserved : goal.loop-preserved
loop-preserved g c =
    let is : same_at (g.T.Types.types c.args.types.now) c.loop.current.now c.args.b.now ≡ false = sym c.is_same_at.ensures ∙ c.if-is_same_at.false in
    let some : base_of (shape_at (g.T.Types.types c.args.types.now) (target (g.T.Types.types c.args.types.now) 201 c.loop.current.now)) ≡ Some c.in-Some.of.now = sym c.base_within.ensures ∙ ap option_copied c.in-Some.is in
    onward (g.T.Types.types c.args.types.now) c.loop.counter c.loop.current.now c.args.b.now c.in-Some.of.now (climbs (g.T.Types.types c.args.types.now) 201 c.args.a.now c.args.b.now) c.loop-test.true is some c.loop.invariant

pub returns : goal.returns
returns g c = c.is_same_at-2.ensures ∙ last (g.T.Types.types c.args.types.now) c.loop.counter c.loop.current.now c.args.b.now (climbs (g.T.Types.types c.args.types.now) 201 c.args.a.now c.args.b.now) c.loop-test.false c.loop.invariant
