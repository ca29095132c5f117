use Rattle.std.proofs.Common.{◌≡◌, ◌≤◌, drop}
use Rattle.ob_types.specs.declared.typed.Designator.{size-Designator}
use Rattle.ob_types.specs.declared.typed.TypedExpr.{size-TypedExpr}
use Rattle.ob_types.specs.TypedView.{designator_view, expr_view, actuals_view}
use Rattle.ob_scheme.specs.Expressions.{end_desig, end_expr, end_actuals}
use Rattle.ob_gstmt_labels.proofs.exprs.+end_expr.Given as goal

-- the end of what stands in front of here, behind all that was counted, is the end of the whole
abbrev pub invariant-end_designator-selectors : goal.invariant-end_designator-selectors
invariant-end_designator-selectors g l = record {
  no_deeper : size-Designator l.rest ≤ size-Designator l.fn.d;
  ends : end_desig (g.S.Scope.context l.scope) l.wanted (designator_view l.rest) l.end ≡ end_desig (g.S.Scope.context l.scope) l.fn.want (designator_view l.fn.d) l.fn.pc;
}

abbrev pub invariant-end_expr-operators : goal.invariant-end_expr-operators
invariant-end_expr-operators g l = record {
  no_deeper : size-TypedExpr l.rest ≤ size-TypedExpr l.fn.e;
  ends : end_expr (g.S.Scope.context l.scope) l.wanted (expr_view l.rest) l.end ≡ end_expr (g.S.Scope.context l.scope) l.fn.want (expr_view l.fn.e) l.fn.pc;
}

-- the end of the rest from here is the end of the whole
abbrev pub invariant-end_actuals-actuals : goal.invariant-end_actuals-actuals
invariant-end_actuals-actuals g l = end_actuals (g.S.Scope.context l.scope) (actuals_view (drop l.actual-index l.actuals)) l.end ≡ end_actuals (g.S.Scope.context l.scope) (actuals_view l.actuals) l.pc
