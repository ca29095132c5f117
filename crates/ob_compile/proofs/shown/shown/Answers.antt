use Rattle.std.proofs.Common.{sym, subst}
use Rattle.ob_types.specs.TypedView.{module_view}
use Rattle.ob_env.specs.Faces.{faces_of, described}
use Rattle.ob_layout.specs.LaidOut.{viewed}
use Rattle.ob_uses.specs.Held.{held_names}
use Rattle.ob_uses.specs.Objects.{HasOwnTypes}
use Rattle.ob_compile.proofs.Facing.{own_types, shown_is}
use Rattle.ob_compile.proofs.shown.shown.Goals as goal

pub interface_of-requires : goal.interface_of-requires
interface_of-requires c =
    let is = c.args.view.now.env.now in
    let m = c.args.view.now.«module».now in
    subst (λ k. HasOwnTypes (viewed (described (faces_of is)) (module_view m)) (module_view k)) (sym c.module.ensures) (own_types (described (faces_of is)) (module_view m))

pub returns : goal.returns
returns c =
    let is = c.args.view.now.env.now in
    let m = c.args.view.now.«module».now in
    let held = c.view_is_held.ensures (faces_of is) (module_view m) in
    shown_is is c.env.result.now m c.module.result.now _ c.in_ok-face.face c.env.ensures c.module.ensures held.1 (c.in_ok-face.ensures.steps (held_names (faces_of is) (module_view m)) held.0)
