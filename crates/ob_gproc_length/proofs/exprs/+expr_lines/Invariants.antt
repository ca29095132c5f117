use Rattle.std.proofs.Common.{◌≡◌, ◌≤◌, ◌+◌, drop}
use Rattle.ob_types.specs.declared.typed.Designator.{size-Designator}
use Rattle.ob_types.specs.declared.typed.TypedExpr.{size-TypedExpr}
use Rattle.ob_types.specs.TypedView.{designator_view, expr_view, actuals_view}
use Rattle.ob_gproc_length.specs.Lengths.{capped, desig_lines, expr_lines, actuals_lines}
use Rattle.ob_gproc_length.proofs.exprs.+expr_lines.Given as goal

-- the lines so far, and those of the rest, are those of the whole
abbrev pub invariant-lines_of_actuals-actuals : goal.invariant-lines_of_actuals-actuals
invariant-lines_of_actuals-actuals g l = (capped (l.lines + actuals_lines (g.T.Types.types l.types) (actuals_view (drop l.actual-index l.actuals))) ≡ capped (actuals_lines (g.T.Types.types l.types) (actuals_view l.actuals))) × (l.lines ≤ 262145)

abbrev pub invariant-lines_of_designator-selectors : goal.invariant-lines_of_designator-selectors
invariant-lines_of_designator-selectors g l = (capped (l.lines + desig_lines (g.T.Types.types l.types) l.wanted (designator_view l.rest)) ≡ capped (desig_lines (g.T.Types.types l.types) l.fn.want (designator_view l.d))) × (size-Designator l.rest ≤ size-Designator l.d)

abbrev pub invariant-lines_of_expr-operators : goal.invariant-lines_of_expr-operators
invariant-lines_of_expr-operators g l = (capped (l.lines + expr_lines (g.T.Types.types l.types) l.wanted (expr_view l.rest)) ≡ capped (expr_lines (g.T.Types.types l.types) l.fn.want (expr_view l.e))) × (size-TypedExpr l.rest ≤ size-TypedExpr l.e)
