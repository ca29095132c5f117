use Rattle.std.proofs.Common.{◌≡◌, ◌++◌, drop}
use Rattle.ob_types.specs.TypedView.{stmts_view, branches_view, cases_view}
use Rattle.ob_layout.specs.Texts.{texts_of_all, texts_of_branches, texts_of_cases}
use Rattle.ob_layout.specs.Used.{used, counted}
use Rattle.ob_layout.proofs.texts_of_code.+statements.Given as goal

abbrev pub invariant-texts_in_body-statements : goal.invariant-texts_in_body-statements
invariant-texts_in_body-statements g l = used l.out ++ texts_of_all (counted (g.T.Types.types l.types)) (stmts_view (drop l.s-index l.body)) ≡ used l.fn.out ++ texts_of_all (counted (g.T.Types.types l.types)) (stmts_view l.body)

abbrev pub invariant-texts_in_branches-branches : goal.invariant-texts_in_branches-branches
invariant-texts_in_branches-branches g l = used l.out ++ texts_of_branches (counted (g.T.Types.types l.types)) (branches_view (drop l.branch-index l.branches)) ≡ used l.fn.out ++ texts_of_branches (counted (g.T.Types.types l.types)) (branches_view l.branches)

abbrev pub invariant-texts_in_cases-cases : goal.invariant-texts_in_cases-cases
invariant-texts_in_cases-cases g l = used l.out ++ texts_of_cases (counted (g.T.Types.types l.types)) (cases_view (drop l.case-index l.cases)) ≡ used l.fn.out ++ texts_of_cases (counted (g.T.Types.types l.types)) (cases_view l.cases)
