use Rattle.ob_compile.proofs.Facing.{as_shown}
use Rattle.ob_compile.proofs.Sized.{large, small}
use Rattle.ob_compile.proofs.limits.faced.Goals as goal

pub returns-in-Some : goal.returns-in-Some
returns-in-Some c =
    let is = c.args.view.now.env.now in
    let m = c.args.view.now.«module».now in
    large is m c.module.result.now c.args.shown.face c.len.result c.in-Ok.limit c.in-Some.which c.over_limit.result (as_shown c.args.shown.face is m c.requires) c.module.ensures c.len.ensures c.in-Ok.ensures c.in-Some.is c.over_limit.ensures

pub returns-in-None : goal.returns-in-None
returns-in-None c =
    let is = c.args.view.now.env.now in
    let m = c.args.view.now.«module».now in
    small is m c.module.result.now c.args.shown.face c.len.result c.in-Ok.limit c.sized.result (as_shown c.args.shown.face is m c.requires) c.module.ensures c.len.ensures c.in-Ok.ensures c.in-None.is c.sized.ensures
