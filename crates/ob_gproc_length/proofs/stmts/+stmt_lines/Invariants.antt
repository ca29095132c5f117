use Rattle.std.proofs.Common.{◌≡◌, ◌≤◌, ◌+◌, drop}
use Rattle.ob_types.specs.TypedView.{stmts_view, branches_view, cases_view}
use Rattle.ob_gproc_length.specs.Lengths.{capped, stmts_lines, branches_lines, cases_lines}
use Rattle.ob_gproc_length.proofs.stmts.+stmt_lines.Given as goal

-- the lines so far, and those of the rest, are those of the whole
abbrev pub invariant-lines_of_stmts-statements : goal.invariant-lines_of_stmts-statements
invariant-lines_of_stmts-statements g l = (capped (l.lines + stmts_lines (g.T.Types.types l.types) (stmts_view (drop l.s-index l.body))) ≡ capped (stmts_lines (g.T.Types.types l.types) (stmts_view l.body))) × (l.lines ≤ 262145)

abbrev pub invariant-lines_of_branches-branches : goal.invariant-lines_of_branches-branches
invariant-lines_of_branches-branches g l = (capped (l.lines + branches_lines (g.T.Types.types l.types) (branches_view (drop l.branch-index l.branches))) ≡ capped (branches_lines (g.T.Types.types l.types) (branches_view l.branches))) × (l.lines ≤ 262145)

abbrev pub invariant-lines_of_cases-cases : goal.invariant-lines_of_cases-cases
invariant-lines_of_cases-cases g l = (capped (l.lines + cases_lines (g.T.Types.types l.types) (cases_view (drop l.labelled-index l.cases))) ≡ capped (cases_lines (g.T.Types.types l.types) (cases_view l.cases))) × (l.lines ≤ 262145)
