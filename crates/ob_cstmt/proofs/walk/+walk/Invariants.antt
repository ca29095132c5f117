use Rattle.std.proofs.Common.{◌≡◌, drop, map, [], ◌+◌, ◌*◌}
use Rattle.ob_rules.specs.Books.{book_after}
use Rattle.ob_rules.specs.Statements as spec
use Rattle.ob_cstmt_parts.specs.Seen.{stmts_in, branches_in, cases_in, rejoined}
use Rattle.ob_cstmt.proofs.walk.+walk.Given as goal

-- what came before, and the rest behind it, is the whole; what stands around is as it was
abbrev pub invariant-check_stmts-stmts : goal.invariant-check_stmts-stmts
invariant-check_stmts-stmts g l =
    ((spec.in_turn (map spec.judging l.stmts) (g.S.Surroundings.around l.initial.here)).node ≡ rejoined (stmts_in l.all) (spec.in_turn (map spec.judging (drop l.stmt-index l.stmts)) (g.S.Surroundings.around l.initial.here)).node)
    × (book_after l.initial.book (spec.in_turn (map spec.judging l.stmts) (g.S.Surroundings.around l.initial.here)).notes ≡ book_after l.book (spec.in_turn (map spec.judging (drop l.stmt-index l.stmts)) (g.S.Surroundings.around l.initial.here)).notes)
    × (g.S.Surroundings.around l.here ≡ g.S.Surroundings.around l.initial.here)

abbrev pub invariant-check_branches-branches : goal.invariant-check_branches-branches
invariant-check_branches-branches g l =
    ((spec.conditionals (g.S.Surroundings.around l.initial.here) (map spec.conditional_of l.branches)).node ≡ rejoined (branches_in l.all) (spec.conditionals (g.S.Surroundings.around l.initial.here) (map spec.conditional_of (drop l.branch-index l.branches))).node)
    × (book_after l.initial.book (spec.conditionals (g.S.Surroundings.around l.initial.here) (map spec.conditional_of l.branches)).notes ≡ book_after l.book (spec.conditionals (g.S.Surroundings.around l.initial.here) (map spec.conditional_of (drop l.branch-index l.branches))).notes)
    × (g.S.Surroundings.around l.here ≡ g.S.Surroundings.around l.initial.here)

abbrev pub invariant-check_guarded-branches : goal.invariant-check_guarded-branches
invariant-check_guarded-branches g l =
    ((spec.with_branches (g.S.Surroundings.around l.initial.here) (map spec.guarded_of l.branches)).node ≡ rejoined (branches_in l.all) (spec.with_branches (g.S.Surroundings.around l.initial.here) (map spec.guarded_of (drop l.branch-index l.branches))).node)
    × (book_after l.initial.book (spec.with_branches (g.S.Surroundings.around l.initial.here) (map spec.guarded_of l.branches)).notes ≡ book_after l.book (spec.with_branches (g.S.Surroundings.around l.initial.here) (map spec.guarded_of (drop l.branch-index l.branches))).notes)
    × (g.S.Surroundings.around l.here ≡ g.S.Surroundings.around l.initial.here)

abbrev pub invariant-check_cases-cases : goal.invariant-check_cases-cases
invariant-check_cases-cases g l =
    ((spec.cases (g.S.Surroundings.around l.initial.here) l.selects [] (map spec.labelled_of l.cases)).node ≡ rejoined (cases_in l.all) (spec.cases (g.S.Surroundings.around l.initial.here) l.selects l.before (map spec.labelled_of (drop l.case-index l.cases))).node)
    × (book_after l.initial.book (spec.cases (g.S.Surroundings.around l.initial.here) l.selects [] (map spec.labelled_of l.cases)).notes ≡ book_after l.book (spec.cases (g.S.Surroundings.around l.initial.here) l.selects l.before (map spec.labelled_of (drop l.case-index l.cases))).notes)
    × (g.S.Surroundings.around l.here ≡ g.S.Surroundings.around l.initial.here)

abbrev pub decreases-check_stmt : goal.decreases-check_stmt
decreases-check_stmt g l = goal.size-check_stmt g l * 4

abbrev pub decreases-check_stmts : goal.decreases-check_stmts
decreases-check_stmts g l = goal.size-check_stmts g l * 4 + 1

abbrev pub decreases-check_otherwise : goal.decreases-check_otherwise
decreases-check_otherwise g l = goal.size-check_otherwise g l * 4 + 2

abbrev pub decreases-check_loop : goal.decreases-check_loop
decreases-check_loop g l = goal.size-check_loop g l * 4 + 2

abbrev pub decreases-check_guarded_body : goal.decreases-check_guarded_body
decreases-check_guarded_body g l = goal.size-check_guarded_body g l * 4 + 2

abbrev pub decreases-check_branches : goal.decreases-check_branches
decreases-check_branches g l = goal.size-check_branches g l * 4 + 3

abbrev pub decreases-check_cases : goal.decreases-check_cases
decreases-check_cases g l = goal.size-check_cases g l * 4 + 3

abbrev pub decreases-check_guarded : goal.decreases-check_guarded
decreases-check_guarded g l = goal.size-check_guarded g l * 4 + 3

abbrev pub decreases-check_while : goal.decreases-check_while
decreases-check_while g l = goal.size-check_while g l * 4 + 2

abbrev pub decreases-check_repeat : goal.decreases-check_repeat
decreases-check_repeat g l = goal.size-check_repeat g l * 4 + 2

abbrev pub decreases-check_for : goal.decreases-check_for
decreases-check_for g l = goal.size-check_for g l * 4 + 2
