use Rattle.std.proofs.Common.{◌≡◌, ◌-◌, None, Some, sym, ap, ◌∙◌}
use Rattle.std.specs.Option.{option_copied}
use Rattle.ob_types.specs.Tests.{alias_of, target}
use Rattle.ob_env.specs.Mapped.{map_of}
use Rattle.ob_env_coherent.proofs.Steps.{stays, goes, ends}
use Rattle.ob_env_coherent.proofs.targets.target_for.Goals as goal

pub returns-in-None : goal.returns-in-None
returns-in-None c =
    let is : alias_of (map_of c.args.env.now) c.loop.current.now ≡ None = sym c.alias_target.ensures ∙ ap option_copied c.in-None.is in
    sym (stays (map_of c.args.env.now) (c.args.steps - c.loop.counter) c.loop.current.now is) ∙ c.loop.invariant

pub loop-preserved : goal.loop-preserved
loop-preserved c =
    let is : alias_of (map_of c.args.env.now) c.loop.current.now ≡ Some c.in-Some.of.now = sym c.alias_target.ensures ∙ ap option_copied c.in-Some.is in
    goes (map_of c.args.env.now) c.args.steps c.loop.counter c.loop.current.now c.in-Some.of.now (target (map_of c.args.env.now) c.args.steps c.args.t.now) c.loop-test.true is c.loop.invariant

pub returns : goal.returns
returns c = ends (map_of c.args.env.now) c.args.steps c.loop.counter c.loop.current.now (target (map_of c.args.env.now) c.args.steps c.args.t.now) c.loop-test.false c.loop.invariant
