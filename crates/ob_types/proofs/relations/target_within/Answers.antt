use Rattle.std.proofs.Common.{◌≡◌, ◌-◌, None, Some, sym, ap, ◌∙◌}
use Rattle.std.specs.Option.{option_copied}
use Rattle.ob_types.specs.Tests.{alias_of, target}
use Rattle.ob_types.proofs.Targets.{stays, goes, ends}
use Rattle.ob_types.proofs.relations.target_within.Goals as goal

pub returns-in-None : goal.returns-in-None
returns-in-None g c =
    let is : alias_of (g.T.Types.types c.args.types.now) c.loop.current.now ≡ None = sym c.alias_target.ensures ∙ ap option_copied c.in-None.is in
    sym (stays (g.T.Types.types c.args.types.now) (201 - c.loop.counter) c.loop.current.now is) ∙ c.loop.invariant

pub loop-preserved : goal.loop-preserved
loop-preserved g c =
    let is : alias_of (g.T.Types.types c.args.types.now) c.loop.current.now ≡ Some c.in-Some.of.now = sym c.alias_target.ensures ∙ ap option_copied c.in-Some.is in
    goes (g.T.Types.types c.args.types.now) c.loop.counter c.loop.current.now c.in-Some.of.now (target (g.T.Types.types c.args.types.now) 201 c.args.t.now) c.loop-test.true is c.loop.invariant

pub returns : goal.returns
returns g c = ends (g.T.Types.types c.args.types.now) c.loop.counter c.loop.current.now (target (g.T.Types.types c.args.types.now) 201 c.args.t.now) c.loop-test.false c.loop.invariant
