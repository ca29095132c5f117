use Rattle.std.proofs.Common.{List, [], ◌∷◌, refl, ap}
use Rattle.ob_uses_roots.proofs.Parting.{turn, over}
use Rattle.ob_types.specs.declared.typed.Actual.{Actual}
use Rattle.ob_types.specs.TypedView.{actuals_view}
use Rattle.ob_layout.proofs.UsedTexts.{view_actuals}
use Rattle.ob_uses_roots.specs.Counts.{Shapes, formals}
use Rattle.ob_uses_roots.proofs.calls.note_formals.Goals as goal

pub formals-preserved : goal.formals-preserved
formals-preserved c = turn (λ (x : Actual). Shapes x.formal ∷ []) (λ (xs : List Actual). formals (actuals_view xs)) (λ x xs. ap formals (view_actuals x xs)) c.args.actuals.now c.formals.actual-index c.actual-item.result c.formals.found c.note_shape.new.found _ c.formals-test.true c.actual-item.is c.in_ok-note_shape.ensures c.formals.invariant

pub returns : goal.returns
returns c = over (λ (xs : List Actual). formals (actuals_view xs)) refl c.args.actuals.now c.formals.actual-index c.formals.found _ c.formals-test.false c.formals.invariant
