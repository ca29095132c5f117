use Rattle.std.proofs.Common.{◌≡◌, ◌+◌, ◌≤◌, drop}
use Rattle.std.specs.Prelude.{min}
use Rattle.ob_types.specs.TypedView.{stmts_view, branches_view, cases_view}
use Rattle.ob_layout.specs.Room.{hidden_of_all, hidden_of_branches, hidden_of_cases}
use Rattle.ob_layout.proofs.room.+hidden.Given as goal

abbrev pub invariant-hidden_in-statements : goal.invariant-hidden_in-statements
invariant-hidden_in-statements l = (l.total ≤ 4294967296) × (min (l.total + hidden_of_all (stmts_view (drop l.s-index l.body))) 4294967296 ≡ min (hidden_of_all (stmts_view l.body)) 4294967296)

abbrev pub invariant-hidden_in_branches-branches : goal.invariant-hidden_in_branches-branches
invariant-hidden_in_branches-branches l = (l.total ≤ 4294967296) × (min (l.total + hidden_of_branches (branches_view (drop l.branch-index l.branches))) 4294967296 ≡ min (hidden_of_branches (branches_view l.branches)) 4294967296)

abbrev pub invariant-hidden_in_cases-cases : goal.invariant-hidden_in_cases-cases
invariant-hidden_in_cases-cases l = (l.total ≤ 4294967296) × (min (l.total + hidden_of_cases (cases_view (drop l.case-index l.cases))) 4294967296 ≡ min (hidden_of_cases (cases_view l.cases)) 4294967296)
