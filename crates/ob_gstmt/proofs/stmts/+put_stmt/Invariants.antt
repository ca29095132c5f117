use Rattle.std.proofs.Common.{◌≡◌, drop}
use Rattle.ob_types.specs.TypedView.{stmts_view, branches_view, cases_view}
use Rattle.ob_scheme.specs.Coded.{appended, place_in}
use Rattle.ob_scheme.specs.Statements.{stmts_code, branches_code, cases_code, next_stmts, next_branches, next_cases}
use Rattle.ob_gstmt.proofs.stmts.+put_stmt.Given as goal

-- what was put, and the rest after it, is the whole; so are the words of FOR and CASE
abbrev pub invariant-put_stmts-statements : goal.invariant-put_stmts-statements
invariant-put_stmts-statements g l = (appended l.code (stmts_code (g.S.Scope.context l.scope) (stmts_view (drop l.s-index l.body)) (place_in l.code) l.next l.exit) ≡ appended l.initial.code (stmts_code (g.S.Scope.context l.scope) (stmts_view l.body) (place_in l.initial.code) l.hidden l.exit)) × (next_stmts (g.S.Scope.context l.scope) (stmts_view (drop l.s-index l.body)) l.next ≡ next_stmts (g.S.Scope.context l.scope) (stmts_view l.body) l.hidden)

abbrev pub invariant-put_branches-branches : goal.invariant-put_branches-branches
invariant-put_branches-branches g l = (appended l.code (branches_code (g.S.Scope.context l.scope) (branches_view (drop l.branch-index l.branches)) (place_in l.code) l.next l.exit l.end) ≡ appended l.initial.code (branches_code (g.S.Scope.context l.scope) (branches_view l.branches) (place_in l.initial.code) l.hidden l.exit l.end)) × (next_branches (g.S.Scope.context l.scope) (branches_view (drop l.branch-index l.branches)) l.next ≡ next_branches (g.S.Scope.context l.scope) (branches_view l.branches) l.hidden)

abbrev pub invariant-put_cases-cases : goal.invariant-put_cases-cases
invariant-put_cases-cases g l = (appended l.code (cases_code (g.S.Scope.context l.scope) l.word (cases_view (drop l.labelled-index l.cases)) (place_in l.code) l.next l.exit l.end) ≡ appended l.initial.code (cases_code (g.S.Scope.context l.scope) l.word (cases_view l.cases) (place_in l.initial.code) l.hidden l.exit l.end)) × (next_cases (g.S.Scope.context l.scope) (cases_view (drop l.labelled-index l.cases)) l.next ≡ next_cases (g.S.Scope.context l.scope) (cases_view l.cases) l.hidden)
