use Rattle.ob_compile.proofs.Sized.{seen_as}
use Rattle.ob_compile.proofs.limits.measured.Goals as goal

pub returns : goal.returns
returns c = seen_as c.args.env.now c.in-Ok.view.env.now c.args.«module».now c.in-Ok.view.«module».now c.viewed.result c.in-Ok.ensures.1 c.in-Ok.ensures.0 c.viewed.ensures
