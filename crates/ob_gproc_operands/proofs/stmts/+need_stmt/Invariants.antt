use Rattle.std.proofs.Common.{◌≡◌, drop}
use Rattle.std.specs.Prelude.{max}
use Rattle.ob_types.specs.TypedView.{stmts_view, branches_view, cases_view}
use Rattle.ob_scheme.specs.Needs.{need_stmts, need_branches, need_cases}
use Rattle.ob_gproc_operands.specs.Capped.{capped}
use Rattle.ob_gproc_operands.specs.Nowhere.{nowhere}
use Rattle.ob_gproc_operands.proofs.stmts.+need_stmt.Given as goal

-- what the parts so far and the rest need is the whole
abbrev pub invariant-operands_of_stmts-statements : goal.invariant-operands_of_stmts-statements
invariant-operands_of_stmts-statements l = max l.need (capped (need_stmts nowhere (stmts_view (drop l.s-index l.body)))) ≡ capped (need_stmts nowhere (stmts_view l.body))

abbrev pub invariant-operands_of_branches-branches : goal.invariant-operands_of_branches-branches
invariant-operands_of_branches-branches l = max l.need (capped (need_branches nowhere (branches_view (drop l.branch-index l.branches)))) ≡ capped (need_branches nowhere (branches_view l.branches))

abbrev pub invariant-operands_of_cases-cases : goal.invariant-operands_of_cases-cases
invariant-operands_of_cases-cases l = max l.need (capped (need_cases nowhere (cases_view (drop l.case-index l.cases)))) ≡ capped (need_cases nowhere (cases_view l.cases))
