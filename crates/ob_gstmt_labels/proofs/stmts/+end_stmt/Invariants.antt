use Rattle.std.proofs.Common.{◌≡◌, drop}
use Rattle.ob_types.specs.TypedView.{stmts_view, branches_view, cases_view}
use Rattle.ob_scheme.specs.Statements.{end_stmts, end_branches, end_cases}
use Rattle.ob_gstmt_labels.proofs.stmts.+end_stmt.Given as goal

-- the end of the rest from here is the end of the whole
abbrev pub invariant-end_stmts-statements : goal.invariant-end_stmts-statements
invariant-end_stmts-statements g l = end_stmts (g.S.Scope.context l.scope) (stmts_view (drop l.s-index l.body)) l.end ≡ end_stmts (g.S.Scope.context l.scope) (stmts_view l.body) l.pc

abbrev pub invariant-end_branches-branches : goal.invariant-end_branches-branches
invariant-end_branches-branches g l = end_branches (g.S.Scope.context l.scope) (branches_view (drop l.branch-index l.branches)) l.end ≡ end_branches (g.S.Scope.context l.scope) (branches_view l.branches) l.pc

abbrev pub invariant-end_cases-cases : goal.invariant-end_cases-cases
invariant-end_cases-cases g l = end_cases (g.S.Scope.context l.scope) (cases_view (drop l.labelled-index l.cases)) l.end ≡ end_cases (g.S.Scope.context l.scope) (cases_view l.cases) l.pc
