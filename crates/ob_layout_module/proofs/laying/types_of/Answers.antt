use Rattle.std.proofs.Common.{map, sym, subst, ap, ◌∙◌}
use Rattle.ob_layout.specs.LaidOut.{laid_type}
use Rattle.ob_types.specs.TypedView.{module_view}
use Rattle.ob_env.specs.Faces.{faces_of, described}
use Rattle.ob_layout_module.specs.Sums.{Hold}
use Rattle.ob_layout_module.proofs.laying.types_of.Goals as goal

pub laid_types-requires : goal.laid_types-requires
laid_types-requires c =
    subst (λ rows. Hold (described (faces_of c.in_ok-view.view.env.now)) (module_view c.in_ok-view.view.«module».now) rows 201) (sym c.deref.ensures.value) c.in_ok-rows.ensures

pub returns : goal.returns
returns c =
    c.in_ok-types.ensures
    ∙ ap (λ ts. map (laid_type (described (faces_of c.in_ok-view.view.env.now)) (module_view c.in_ok-view.view.«module».now)) ts) c.as_slice.ensures
    ∙ ap (λ e. map (laid_type (described (faces_of e)) (module_view c.in_ok-view.view.«module».now)) c.args.«module».now.types) c.in_ok-view.ensures.1
    ∙ ap (λ m. map (laid_type (described (faces_of c.args.env.now)) (module_view m)) c.args.«module».now.types) c.in_ok-view.ensures.0
