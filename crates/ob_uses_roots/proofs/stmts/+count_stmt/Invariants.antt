use Rattle.std.proofs.Common.{◌≡◌, drop}
use Rattle.ob_uses_roots.specs.Noted.{noted}
use Rattle.ob_types.specs.TypedView.{stmts_view, branches_view, cases_view}
use Rattle.ob_uses_roots.specs.Counts.{counts_of_all, counts_of_branches, counts_of_cases}
use Rattle.ob_uses_roots.proofs.stmts.+count_stmt.Given as goal

-- what was noted, and the rest after it, is the whole
abbrev pub invariant-count_stmts-statements : goal.invariant-count_stmts-statements
invariant-count_stmts-statements l = noted l.found (counts_of_all (stmts_view (drop l.s-index l.body))) ≡ noted l.initial.found (counts_of_all (stmts_view l.body))

abbrev pub invariant-count_branches-branches : goal.invariant-count_branches-branches
invariant-count_branches-branches l = noted l.found (counts_of_branches (branches_view (drop l.branch-index l.branches))) ≡ noted l.initial.found (counts_of_branches (branches_view l.branches))

abbrev pub invariant-count_cases-cases : goal.invariant-count_cases-cases
invariant-count_cases-cases l = noted l.found (counts_of_cases (cases_view (drop l.case-index l.cases))) ≡ noted l.initial.found (counts_of_cases (cases_view l.cases))
