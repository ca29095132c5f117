use Rattle.std.proofs.Common.{◌≡◌, ◌≤◌, ◌+◌, drop}
use Rattle.std.specs.Prelude.{max}
use Rattle.ob_types.specs.declared.typed.Designator.{size-Designator}
use Rattle.ob_types.specs.declared.typed.TypedExpr.{size-TypedExpr}
use Rattle.ob_types.specs.TypedView.{designator_view, expr_view, actuals_view}
use Rattle.ob_scheme.specs.Needs.{need_desig, need_expr, need_actuals}
use Rattle.ob_gproc_operands.specs.Capped.{capped}
use Rattle.ob_gproc_operands.specs.Nowhere.{nowhere}
use Rattle.ob_gproc_operands.proofs.exprs.+need_expr.Given as goal

-- what the actual parameters so far and the rest above them need is the whole
abbrev pub invariant-operands_of_actuals-actuals : goal.invariant-operands_of_actuals-actuals
invariant-operands_of_actuals-actuals l = max l.need (capped (l.standing + need_actuals nowhere (actuals_view (drop l.actual-index l.actuals)))) ≡ capped (need_actuals nowhere (actuals_view l.actuals))

-- what is needed so far, and what the rest needs, is the whole
abbrev pub invariant-operands_of_designator-selectors : goal.invariant-operands_of_designator-selectors
invariant-operands_of_designator-selectors l = (max l.need (capped (need_desig nowhere l.wanted (designator_view l.rest))) ≡ capped (need_desig nowhere l.fn.want (designator_view l.d))) × (size-Designator l.rest ≤ size-Designator l.d)

abbrev pub invariant-operands_of_expr-operators : goal.invariant-operands_of_expr-operators
invariant-operands_of_expr-operators l = (max l.need (capped (need_expr nowhere l.wanted (expr_view l.rest))) ≡ capped (need_expr nowhere l.fn.want (expr_view l.e))) × (size-TypedExpr l.rest ≤ size-TypedExpr l.e)
