use Rattle.std.proofs.Common.{◌≡◌, Some, sym}
use Rattle.ob_env.specs.Mapped.{map_of}
use Rattle.ob_env.specs.Fit.{visible_names, base_of}
use Rattle.ob_env_coherent.proofs.Distinct.{visible_more}
use Rattle.ob_env_coherent.proofs.names.visible.Goals as goal

pub loop-preserved : goal.loop-preserved
loop-preserved c =
    let base : base_of (map_of c.args.env.now) c.args.steps c.loop.current.now ≡ Some c.in-Some.base.now = sym c.in-Some.ensures in
    visible_more (map_of c.args.env.now) c.args.steps c.loop.counter c.loop.current.now c.in-Some.base.now c.loop.names.items c.push_own.new.names.items (visible_names (map_of c.args.env.now) c.args.steps 201 c.args.r.now) c.loop-test.true c.in_ok-push_own.ensures base c.loop.invariant
