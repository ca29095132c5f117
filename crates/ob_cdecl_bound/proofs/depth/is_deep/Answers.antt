use Rattle.std.proofs.Common.{◌∙◌}
use Rattle.ob_cdecl_bound.proofs.Keeping.{deep_around}
use Rattle.ob_cdecl_bound.proofs.depth.is_deep.Goals as goal

pub returns : goal.returns
returns g c = λ u e f h. c.in_ok-deep.ensures ∙ deep_around u c.args.unit (g.E.Types.types c.args.imported.now) c.args.types.now e f h
