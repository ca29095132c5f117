use Rattle.ob_types.specs.TypedView.{module_view}
use Rattle.ob_layout.specs.LaidOut.{laid_out}
use Rattle.ob_env.specs.Faces.{faces_of, described}
use Rattle.ob_compile.proofs.Ruled.{laid_as}
use Rattle.ob_compile.proofs.rules.made.Goals as goal

pub returns : goal.returns
returns c = laid_as c.args.env.now (laid_out (described (faces_of c.args.env.now)) (module_view c.args.tree.inner)) (module_view c.in-Ok.laid.inner) c.measured.result c.in-Ok.ensures c.measured.ensures
