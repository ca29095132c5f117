use Rattle.std.proofs.Common.{◌≡◌, refl, sym, ap, ◌∙◌, map, drop, ◌+◌, List, [], ◌∷◌, Some}
use Rattle.std.specs.Option.{option_map}
use Rattle.ob_tree.specs.declared.expr.Element.{Element}
use Rattle.ob_tree.specs.declared.expr.Expr.{Expr}
use Rattle.ob_tree.specs.declared.ident.Ident.{Ident}
use Rattle.ob_tree.specs.declared.stmt.Stmt.TheVariants as s
use Rattle.ob_types.specs.declared.typed.TypedStmt.TheVariants as typed
use Rattle.ob_rules.specs.Judged.{sound, made, ◌▷◌}
use Rattle.ob_rules.specs.Names as names
use Rattle.ob_rules.specs.Names.{Around, map_of}
use Rattle.ob_rules.specs.Books.{book_after}
use Rattle.ob_rules.specs.Expressions as exprs
use Rattle.ob_rules.specs.Statements as spec
use Rattle.ob_rules.proofs.BookLaws.{after_none}
use Rattle.ob_rules.proofs.RowLaws.{made_noted}
use Rattle.ob_cstmt_parts.specs.Seen.{expr_in, test_in, stmts_in, branches_in, cases_in, else_in, rejoined}
use Rattle.ob_cstmt_parts.proofs.RowSteps.{begins, ends}
use Rattle.ob_cstmt.proofs.Steps.{alone_made, noted_as, map_from, map_over, always, pair_made, pair_noted, some_made, stmts_step, branches_step, guarded_step, cases_step, unguarded, loop_made, loop_noted, left_loop, for_is, for_says, case_of_parts, case_says}
use Rattle.ob_cstmt.proofs.StmtViews.{judging_empty, judging_call, judging_assign, judging_if, judging_case, judging_while, judging_repeat, judging_for, judging_loop, judging_exit, judging_return, judging_with, conditional_is, labelled_is, guarded_is}
use Rattle.ob_cstmt.proofs.walk.+walk.Goals as goal

pub check_stmts-stmts-init : goal.check_stmts-stmts-init
check_stmts-stmts-init g t c =
    let u = g.S.Surroundings.around c.args.here.now in
    (begins (spec.in_turn (map spec.judging c.args.stmts.now) u).node ∙ ap (λ xs. rejoined (Some xs) (spec.in_turn (map spec.judging c.args.stmts.now) u).node) (sym c.new.ensures), refl, refl)

pub check_stmts-stmts-preserved : goal.check_stmts-stmts-preserved
check_stmts-stmts-preserved g t c =
    let u = g.S.Surroundings.around c.args.here.now in
    let i = c.stmts.stmt-index in
    let rest = map spec.judging (drop (i + 1) c.args.stmts.now) in
    let split : map spec.judging (drop i c.args.stmts.now) ≡ spec.judging c.stmt-item.result ∷ rest = map_from spec.judging c.args.stmts.now i c.stmt-item.result c.stmts-test.true ∙ ap (λ y. spec.judging y ∷ rest) (sym c.stmt-item.is) in
    stmts_step (spec.judging c.stmt-item.result) rest u (g.S.Surroundings.around c.stmts.here) (g.S.Surroundings.around c.check_stmt.new.here) (stmts_in c.stmts.all) (stmts_in c.in_ok-made.made) (stmts_in c.in_ok-all.all) _ c.stmts.book c.check_stmt.new.book _
    c.stmts.invariant.2 c.in_ok-made.ensures.around c.in_ok-made.ensures.made c.in_ok-made.ensures.noted c.in_ok-all.ensures
    (c.stmts.invariant.0 ∙ ap (λ fs. rejoined (stmts_in c.stmts.all) (spec.in_turn fs u).node) split)
    (c.stmts.invariant.1 ∙ ap (λ fs. book_after c.stmts.book (spec.in_turn fs u).notes) split)

pub check_stmts-returns-clause-made : goal.check_stmts-returns-clause-made
check_stmts-returns-clause-made g t c =
    let u = g.S.Surroundings.around c.args.here.now in
    sym (c.stmts.invariant.0 ∙ ap (λ fs. rejoined (stmts_in c.stmts.all) (spec.in_turn fs u).node) (map_over spec.judging c.args.stmts.now c.stmts.stmt-index c.stmts-test.false) ∙ ends (stmts_in c.stmts.all))

pub check_stmts-returns-clause-noted : goal.check_stmts-returns-clause-noted
check_stmts-returns-clause-noted g t c =
    let u = g.S.Surroundings.around c.args.here.now in
    sym (c.stmts.invariant.1 ∙ ap (λ fs. book_after c.stmts.book (spec.in_turn fs u).notes) (map_over spec.judging c.args.stmts.now c.stmts.stmt-index c.stmts-test.false) ∙ after_none c.stmts.book)

pub check_branches-branches-init : goal.check_branches-branches-init
check_branches-branches-init g t c =
    let u = g.S.Surroundings.around c.args.here.now in
    (begins (spec.conditionals u (map spec.conditional_of c.args.branches.now)).node ∙ ap (λ xs. rejoined (Some xs) (spec.conditionals u (map spec.conditional_of c.args.branches.now)).node) (sym c.new.ensures), refl, refl)

pub check_branches-branches-preserved : goal.check_branches-branches-preserved
check_branches-branches-preserved g t c =
    let u = g.S.Surroundings.around c.args.here.now in
    let i = c.branches.branch-index in
    let rest = map spec.conditional_of (drop (i + 1) c.args.branches.now) in
    let split : map spec.conditional_of (drop i c.args.branches.now) ≡ spec.conditional_of c.branch-item.result ∷ rest = map_from spec.conditional_of c.args.branches.now i c.branch-item.result c.branches-test.true ∙ ap (λ y. spec.conditional_of y ∷ rest) (sym c.branch-item.is) in
    let b : spec.Conditional = record { test = exprs.phrase_of c.branch-item.result.test; body = map spec.judging c.branch-item.result.body } in
    let view : spec.conditional_of c.branch-item.result ∷ rest ≡ b ∷ rest = ap (λ y. y ∷ rest) (conditional_is c.branch-item.result) in
    branches_step b rest u (g.S.Surroundings.around c.branches.here) (g.S.Surroundings.around c.check_stmts.new.here) (expr_in c.in_ok-test.test) (stmts_in c.in_ok-body.body) (branches_in c.branches.all) (branches_in c.in_ok-all.all) _ c.branches.book c.condition.new.book c.check_stmts.new.book _
    c.branches.invariant.2 c.in_ok-body.ensures.around c.in_ok-test.ensures.made c.in_ok-test.ensures.noted
    (c.in_ok-body.ensures.made ∙ ap (λ ss. (spec.in_turn (map spec.judging ss) (g.S.Surroundings.around c.branches.here)).node) c.as_slice.ensures)
    (c.in_ok-body.ensures.noted ∙ ap (λ ss. book_after c.condition.new.book (spec.in_turn (map spec.judging ss) (g.S.Surroundings.around c.branches.here)).notes) c.as_slice.ensures)
    c.in_ok-all.ensures
    ((c.branches.invariant.0 ∙ ap (λ fs. rejoined (branches_in c.branches.all) (spec.conditionals u fs).node) split) ∙ ap (λ fs. rejoined (branches_in c.branches.all) (spec.conditionals u fs).node) view)
    ((c.branches.invariant.1 ∙ ap (λ fs. book_after c.branches.book (spec.conditionals u fs).notes) split) ∙ ap (λ fs. book_after c.branches.book (spec.conditionals u fs).notes) view)

pub check_branches-returns-clause-made : goal.check_branches-returns-clause-made
check_branches-returns-clause-made g t c =
    let u = g.S.Surroundings.around c.args.here.now in
    sym (c.branches.invariant.0 ∙ ap (λ fs. rejoined (branches_in c.branches.all) (spec.conditionals u fs).node) (map_over spec.conditional_of c.args.branches.now c.branches.branch-index c.branches-test.false) ∙ ends (branches_in c.branches.all))

pub check_branches-returns-clause-noted : goal.check_branches-returns-clause-noted
check_branches-returns-clause-noted g t c =
    let u = g.S.Surroundings.around c.args.here.now in
    sym (c.branches.invariant.1 ∙ ap (λ fs. book_after c.branches.book (spec.conditionals u fs).notes) (map_over spec.conditional_of c.args.branches.now c.branches.branch-index c.branches-test.false) ∙ after_none c.branches.book)

pub check_guarded-branches-init : goal.check_guarded-branches-init
check_guarded-branches-init g t c =
    let u = g.S.Surroundings.around c.args.here.now in
    (begins (spec.with_branches u (map spec.guarded_of c.args.branches.now)).node ∙ ap (λ xs. rejoined (Some xs) (spec.with_branches u (map spec.guarded_of c.args.branches.now)).node) (sym c.new.ensures), refl, refl)

pub check_guarded-branches-preserved : goal.check_guarded-branches-preserved
check_guarded-branches-preserved g t c =
    let u = g.S.Surroundings.around c.args.here.now in
    let i = c.branches.branch-index in
    let rest = map spec.guarded_of (drop (i + 1) c.args.branches.now) in
    let split : map spec.guarded_of (drop i c.args.branches.now) ≡ spec.guarded_of c.branch-item.result ∷ rest = map_from spec.guarded_of c.args.branches.now i c.branch-item.result c.branches-test.true ∙ ap (λ y. spec.guarded_of y ∷ rest) (sym c.branch-item.is) in
    let b : spec.GuardedBody = record { guard = c.branch-item.result.guard; body = map spec.judging c.branch-item.result.body } in
    let view : spec.guarded_of c.branch-item.result ∷ rest ≡ b ∷ rest = ap (λ y. y ∷ rest) (guarded_is c.branch-item.result) in
    let inside = spec.guarded_around (g.S.Surroundings.around c.branches.here) c.in_ok-variable.variable c.in_ok-of.of in
    guarded_step b rest u (g.S.Surroundings.around c.branches.here) (g.S.Surroundings.around c.check_guarded_body.new.here) (test_in c.in_ok-test.test) c.in_ok-variable.variable c.in_ok-of.of (expr_in c.test_tree.result) (stmts_in c.in_ok-body.body) (branches_in c.branches.all) (branches_in c.in_ok-all.all) _ c.branches.book c.check_guard.new.book c.check_guarded_body.new.book _
    c.branches.invariant.2 c.in_ok-body.ensures.around c.in_ok-test.ensures.made c.in_ok-test.ensures.noted
    c.in_ok-variable.ensures
    (c.in_ok-of.ensures ∙ ap (λ o. spec.type_if (test_in o)) c.as_ref.ensures.value)
    c.test_tree.ensures
    (c.in_ok-body.ensures.made ∙ ap (λ ss. (spec.in_turn (map spec.judging ss) inside).node) c.as_slice.ensures)
    (c.in_ok-body.ensures.noted ∙ ap (λ ss. book_after c.check_guard.new.book (spec.in_turn (map spec.judging ss) inside).notes) c.as_slice.ensures)
    c.in_ok-all.ensures
    ((c.branches.invariant.0 ∙ ap (λ fs. rejoined (branches_in c.branches.all) (spec.with_branches u fs).node) split) ∙ ap (λ fs. rejoined (branches_in c.branches.all) (spec.with_branches u fs).node) view)
    ((c.branches.invariant.1 ∙ ap (λ fs. book_after c.branches.book (spec.with_branches u fs).notes) split) ∙ ap (λ fs. book_after c.branches.book (spec.with_branches u fs).notes) view)

pub check_guarded-returns-clause-made : goal.check_guarded-returns-clause-made
check_guarded-returns-clause-made g t c =
    let u = g.S.Surroundings.around c.args.here.now in
    sym (c.branches.invariant.0 ∙ ap (λ fs. rejoined (branches_in c.branches.all) (spec.with_branches u fs).node) (map_over spec.guarded_of c.args.branches.now c.branches.branch-index c.branches-test.false) ∙ ends (branches_in c.branches.all))

pub check_guarded-returns-clause-noted : goal.check_guarded-returns-clause-noted
check_guarded-returns-clause-noted g t c =
    let u = g.S.Surroundings.around c.args.here.now in
    sym (c.branches.invariant.1 ∙ ap (λ fs. book_after c.branches.book (spec.with_branches u fs).notes) (map_over spec.guarded_of c.args.branches.now c.branches.branch-index c.branches-test.false) ∙ after_none c.branches.book)

pub check_cases-cases-init : goal.check_cases-cases-init
check_cases-cases-init g t c =
    let u = g.S.Surroundings.around c.args.here.now in
    let ds = map spec.labelled_of c.args.cases.now in
    (begins (spec.cases u c.args.selects [] ds).node ∙ ap (λ xs. rejoined (Some xs) (spec.cases u c.args.selects [] ds).node) (sym c.new.ensures) ∙ ap (λ bs. rejoined (Some c.new.result.inner) (spec.cases u c.args.selects bs ds).node) (sym c.new-before.ensures), ap (λ bs. book_after c.args.book.now (spec.cases u c.args.selects bs ds).notes) (sym c.new-before.ensures), refl)

pub check_cases-cases-preserved : goal.check_cases-cases-preserved
check_cases-cases-preserved g t c =
    let u = g.S.Surroundings.around c.args.here.now in
    let i = c.cases.case-index in
    let rest = map spec.labelled_of (drop (i + 1) c.args.cases.now) in
    let split : map spec.labelled_of (drop i c.args.cases.now) ≡ spec.labelled_of c.case-item.result ∷ rest = map_from spec.labelled_of c.args.cases.now i c.case-item.result c.cases-test.true ∙ ap (λ y. spec.labelled_of y ∷ rest) (sym c.case-item.is) in
    let d : spec.Labelled = record { labels = map exprs.ranged_of c.case-item.result.labels; body = map spec.judging c.case-item.result.body } in
    let view : spec.labelled_of c.case-item.result ∷ rest ≡ d ∷ rest = ap (λ y. y ∷ rest) (labelled_is c.case-item.result) in
    let found = λ (ls : List Element). spec.labels (g.S.Surroundings.around c.cases.here) c.args.selects c.cases.before (map exprs.ranged_of ls) in
    cases_step u (g.S.Surroundings.around c.cases.here) (g.S.Surroundings.around c.check_stmts.new.here) c.args.selects d rest c.cases.before c.check_labels.new.before c.in_ok-labels.labels (stmts_in c.in_ok-body.body) (cases_in c.cases.all) (cases_in c.in_ok-all.all) _ c.cases.book c.check_labels.new.book c.check_stmts.new.book _
    c.cases.invariant.2 c.in_ok-body.ensures.around
    (c.in_ok-labels.ensures.made ∙ ap (λ ls. (found ls).found.node) c.as_slice.ensures)
    (c.in_ok-labels.ensures.noted ∙ ap (λ ls. book_after c.cases.book (found ls).found.notes) c.as_slice.ensures)
    (c.in_ok-labels.ensures.before ∙ ap (λ ls. (found ls).before) c.as_slice.ensures)
    (c.in_ok-body.ensures.made ∙ ap (λ ss. (spec.in_turn (map spec.judging ss) (g.S.Surroundings.around c.cases.here)).node) c.as_slice-in-cases.ensures)
    (c.in_ok-body.ensures.noted ∙ ap (λ ss. book_after c.check_labels.new.book (spec.in_turn (map spec.judging ss) (g.S.Surroundings.around c.cases.here)).notes) c.as_slice-in-cases.ensures)
    c.in_ok-all.ensures
    ((c.cases.invariant.0 ∙ ap (λ fs. rejoined (cases_in c.cases.all) (spec.cases u c.args.selects c.cases.before fs).node) split) ∙ ap (λ fs. rejoined (cases_in c.cases.all) (spec.cases u c.args.selects c.cases.before fs).node) view)
    ((c.cases.invariant.1 ∙ ap (λ fs. book_after c.cases.book (spec.cases u c.args.selects c.cases.before fs).notes) split) ∙ ap (λ fs. book_after c.cases.book (spec.cases u c.args.selects c.cases.before fs).notes) view)

pub check_cases-returns-clause-made : goal.check_cases-returns-clause-made
check_cases-returns-clause-made g t c =
    let u = g.S.Surroundings.around c.args.here.now in
    sym (c.cases.invariant.0 ∙ ap (λ fs. rejoined (cases_in c.cases.all) (spec.cases u c.args.selects c.cases.before fs).node) (map_over spec.labelled_of c.args.cases.now c.cases.case-index c.cases-test.false) ∙ ends (cases_in c.cases.all))

pub check_cases-returns-clause-noted : goal.check_cases-returns-clause-noted
check_cases-returns-clause-noted g t c =
    let u = g.S.Surroundings.around c.args.here.now in
    sym (c.cases.invariant.1 ∙ ap (λ fs. book_after c.cases.book (spec.cases u c.args.selects c.cases.before fs).notes) (map_over spec.labelled_of c.args.cases.now c.cases.case-index c.cases-test.false) ∙ after_none c.cases.book)

pub check_stmt-returns-in-Empty-clause-made : goal.check_stmt-returns-in-Empty-clause-made
check_stmt-returns-in-Empty-clause-made g t c =
    let u = g.S.Surroundings.around c.args.here.now in
    let whole : spec.judging c.args.stmt.now u ≡ sound [] = ap (λ y. spec.judging y u) c.in-Empty.is ∙ judging_empty u in
    ap Some c.new.ensures ∙ ap (λ j. j.node) (sym whole)

pub check_stmt-returns-in-Empty-clause-noted : goal.check_stmt-returns-in-Empty-clause-noted
check_stmt-returns-in-Empty-clause-noted g t c =
    let u = g.S.Surroundings.around c.args.here.now in
    let whole : spec.judging c.args.stmt.now u ≡ sound [] = ap (λ y. spec.judging y u) c.in-Empty.is ∙ judging_empty u in
    sym (after_none c.args.book.now) ∙ ap (λ j. book_after c.args.book.now j.notes) (sym whole)

pub check_stmt-returns-in-Call-clause-made : goal.check_stmt-returns-in-Call-clause-made
check_stmt-returns-in-Call-clause-made g t c =
    let u = g.S.Surroundings.around c.args.here.now in
    let whole : spec.judging c.args.stmt.now u ≡ spec.call_statement (exprs.named_of c.in-Call.designator) u = ap (λ y. spec.judging y u) c.in-Call.is ∙ judging_call c.in-Call.designator u in
    alone_made c.call_alone.result _ _ c.call_alone.ensures.made (ap (λ j. j.node) (sym whole))

pub check_stmt-returns-in-Call-clause-noted : goal.check_stmt-returns-in-Call-clause-noted
check_stmt-returns-in-Call-clause-noted g t c =
    let u = g.S.Surroundings.around c.args.here.now in
    let whole : spec.judging c.args.stmt.now u ≡ spec.call_statement (exprs.named_of c.in-Call.designator) u = ap (λ y. spec.judging y u) c.in-Call.is ∙ judging_call c.in-Call.designator u in
    noted_as c.call_alone.result c.call_alone.new.book c.args.book.now (spec.judging c.args.stmt.now u) _ whole c.call_alone.ensures.noted

pub check_stmt-returns-in-Call-clause-around : goal.check_stmt-returns-in-Call-clause-around
check_stmt-returns-in-Call-clause-around g t c =
    always c.call_alone.result refl

pub check_stmt-returns-in-Assign-clause-made : goal.check_stmt-returns-in-Assign-clause-made
check_stmt-returns-in-Assign-clause-made g t c =
    let u = g.S.Surroundings.around c.args.here.now in
    let whole : spec.judging c.args.stmt.now u ≡ spec.assignment u (exprs.named_of c.in-Assign.target) c.in-Assign.pos (exprs.phrase_of c.in-Assign.value) = ap (λ y. spec.judging y u) c.in-Assign.is ∙ judging_assign c.in-Assign.target c.in-Assign.pos c.in-Assign.value u in
    alone_made c.assignment_alone.result _ _ c.assignment_alone.ensures.made (ap (λ j. j.node) (sym whole))

pub check_stmt-returns-in-Assign-clause-noted : goal.check_stmt-returns-in-Assign-clause-noted
check_stmt-returns-in-Assign-clause-noted g t c =
    let u = g.S.Surroundings.around c.args.here.now in
    let whole : spec.judging c.args.stmt.now u ≡ spec.assignment u (exprs.named_of c.in-Assign.target) c.in-Assign.pos (exprs.phrase_of c.in-Assign.value) = ap (λ y. spec.judging y u) c.in-Assign.is ∙ judging_assign c.in-Assign.target c.in-Assign.pos c.in-Assign.value u in
    noted_as c.assignment_alone.result c.assignment_alone.new.book c.args.book.now (spec.judging c.args.stmt.now u) _ whole c.assignment_alone.ensures.noted

pub check_stmt-returns-in-Assign-clause-around : goal.check_stmt-returns-in-Assign-clause-around
check_stmt-returns-in-Assign-clause-around g t c =
    always c.assignment_alone.result refl

pub check_stmt-returns-in-Return-clause-made : goal.check_stmt-returns-in-Return-clause-made
check_stmt-returns-in-Return-clause-made g t c =
    let u = g.S.Surroundings.around c.args.here.now in
    let whole : spec.judging c.args.stmt.now u ≡ spec.return u c.in-Return.pos (spec.phrase_if c.in-Return.value) = ap (λ y. spec.judging y u) c.in-Return.is ∙ judging_return c.in-Return.pos c.in-Return.value u in
    alone_made c.return_alone.result _ _ c.return_alone.ensures.made (ap (λ j. j.node) (sym whole))

pub check_stmt-returns-in-Return-clause-noted : goal.check_stmt-returns-in-Return-clause-noted
check_stmt-returns-in-Return-clause-noted g t c =
    let u = g.S.Surroundings.around c.args.here.now in
    let whole : spec.judging c.args.stmt.now u ≡ spec.return u c.in-Return.pos (spec.phrase_if c.in-Return.value) = ap (λ y. spec.judging y u) c.in-Return.is ∙ judging_return c.in-Return.pos c.in-Return.value u in
    noted_as c.return_alone.result c.return_alone.new.book c.args.book.now (spec.judging c.args.stmt.now u) _ whole c.return_alone.ensures.noted

pub check_stmt-returns-in-Return-clause-around : goal.check_stmt-returns-in-Return-clause-around
check_stmt-returns-in-Return-clause-around g t c =
    always c.return_alone.result refl

pub check_stmt-returns-in-While-clause-made : goal.check_stmt-returns-in-While-clause-made
check_stmt-returns-in-While-clause-made g t c =
    let u = g.S.Surroundings.around c.args.here.now in
    let whole : spec.judging c.args.stmt.now u ≡ spec.while_statement c.in-While.pos (exprs.phrase_of c.in-While.test) (map spec.judging c.as_slice-in-While.result.now) u = ap (λ y. spec.judging y u) (c.in-While.is ∙ ap (λ b. s.While c.in-While.pos c.in-While.test b) (sym c.as_slice-in-While.ensures)) ∙ judging_while c.in-While.pos c.in-While.test c.as_slice-in-While.result.now u in
    alone_made c.check_while.result _ _ c.check_while.ensures.made (ap (λ j. j.node) (sym whole))

pub check_stmt-returns-in-While-clause-noted : goal.check_stmt-returns-in-While-clause-noted
check_stmt-returns-in-While-clause-noted g t c =
    let u = g.S.Surroundings.around c.args.here.now in
    let whole : spec.judging c.args.stmt.now u ≡ spec.while_statement c.in-While.pos (exprs.phrase_of c.in-While.test) (map spec.judging c.as_slice-in-While.result.now) u = ap (λ y. spec.judging y u) (c.in-While.is ∙ ap (λ b. s.While c.in-While.pos c.in-While.test b) (sym c.as_slice-in-While.ensures)) ∙ judging_while c.in-While.pos c.in-While.test c.as_slice-in-While.result.now u in
    noted_as c.check_while.result c.check_while.new.book c.args.book.now (spec.judging c.args.stmt.now u) _ whole c.check_while.ensures.noted

pub check_stmt-returns-in-While-clause-around : goal.check_stmt-returns-in-While-clause-around
check_stmt-returns-in-While-clause-around g t c =
    c.check_while.ensures.around

pub check_stmt-returns-in-Repeat-clause-made : goal.check_stmt-returns-in-Repeat-clause-made
check_stmt-returns-in-Repeat-clause-made g t c =
    let u = g.S.Surroundings.around c.args.here.now in
    let whole : spec.judging c.args.stmt.now u ≡ spec.repeat_statement c.in-Repeat.pos (map spec.judging c.as_slice-in-Repeat.result.now) (exprs.phrase_of c.in-Repeat.test) u = ap (λ y. spec.judging y u) (c.in-Repeat.is ∙ ap (λ b. s.Repeat c.in-Repeat.pos b c.in-Repeat.test) (sym c.as_slice-in-Repeat.ensures)) ∙ judging_repeat c.in-Repeat.pos c.as_slice-in-Repeat.result.now c.in-Repeat.test u in
    alone_made c.check_repeat.result _ _ c.check_repeat.ensures.made (ap (λ j. j.node) (sym whole))

pub check_stmt-returns-in-Repeat-clause-noted : goal.check_stmt-returns-in-Repeat-clause-noted
check_stmt-returns-in-Repeat-clause-noted g t c =
    let u = g.S.Surroundings.around c.args.here.now in
    let whole : spec.judging c.args.stmt.now u ≡ spec.repeat_statement c.in-Repeat.pos (map spec.judging c.as_slice-in-Repeat.result.now) (exprs.phrase_of c.in-Repeat.test) u = ap (λ y. spec.judging y u) (c.in-Repeat.is ∙ ap (λ b. s.Repeat c.in-Repeat.pos b c.in-Repeat.test) (sym c.as_slice-in-Repeat.ensures)) ∙ judging_repeat c.in-Repeat.pos c.as_slice-in-Repeat.result.now c.in-Repeat.test u in
    noted_as c.check_repeat.result c.check_repeat.new.book c.args.book.now (spec.judging c.args.stmt.now u) _ whole c.check_repeat.ensures.noted

pub check_stmt-returns-in-Repeat-clause-around : goal.check_stmt-returns-in-Repeat-clause-around
check_stmt-returns-in-Repeat-clause-around g t c =
    c.check_repeat.ensures.around

pub check_stmt-returns-in-For-clause-made : goal.check_stmt-returns-in-For-clause-made
check_stmt-returns-in-For-clause-made g t c =
    let u = g.S.Surroundings.around c.args.here.now in
    let whole : spec.judging c.args.stmt.now u ≡ spec.for u c.in-For.pos c.ident.result (exprs.phrase_of c.in-For.start) (exprs.phrase_of c.in-For.end) (spec.phrase_if c.in-For.step) (map spec.judging c.as_slice-in-For.result.now) = ap (λ y. spec.judging y u) (c.in-For.is ∙ ap (λ b. s.For c.in-For.pos c.in-For.variable c.in-For.start c.in-For.end c.in-For.step b) (sym c.as_slice-in-For.ensures)) ∙ judging_for c.in-For.pos c.in-For.variable c.in-For.start c.in-For.end c.in-For.step c.as_slice-in-For.result.now u ∙ ap (λ (x : Ident). spec.for u c.in-For.pos x (exprs.phrase_of c.in-For.start) (exprs.phrase_of c.in-For.end) (spec.phrase_if c.in-For.step) (map spec.judging c.as_slice-in-For.result.now)) (sym c.ident.ensures) in
    alone_made c.check_for.result _ _ c.check_for.ensures.made (ap (λ j. j.node) (sym whole))

pub check_stmt-returns-in-For-clause-noted : goal.check_stmt-returns-in-For-clause-noted
check_stmt-returns-in-For-clause-noted g t c =
    let u = g.S.Surroundings.around c.args.here.now in
    let whole : spec.judging c.args.stmt.now u ≡ spec.for u c.in-For.pos c.ident.result (exprs.phrase_of c.in-For.start) (exprs.phrase_of c.in-For.end) (spec.phrase_if c.in-For.step) (map spec.judging c.as_slice-in-For.result.now) = ap (λ y. spec.judging y u) (c.in-For.is ∙ ap (λ b. s.For c.in-For.pos c.in-For.variable c.in-For.start c.in-For.end c.in-For.step b) (sym c.as_slice-in-For.ensures)) ∙ judging_for c.in-For.pos c.in-For.variable c.in-For.start c.in-For.end c.in-For.step c.as_slice-in-For.result.now u ∙ ap (λ (x : Ident). spec.for u c.in-For.pos x (exprs.phrase_of c.in-For.start) (exprs.phrase_of c.in-For.end) (spec.phrase_if c.in-For.step) (map spec.judging c.as_slice-in-For.result.now)) (sym c.ident.ensures) in
    noted_as c.check_for.result c.check_for.new.book c.args.book.now (spec.judging c.args.stmt.now u) _ whole c.check_for.ensures.noted

pub check_stmt-returns-in-For-clause-around : goal.check_stmt-returns-in-For-clause-around
check_stmt-returns-in-For-clause-around g t c =
    c.check_for.ensures.around

pub check_stmt-returns-in-Loop-clause-made : goal.check_stmt-returns-in-Loop-clause-made
check_stmt-returns-in-Loop-clause-made g t c =
    let u = g.S.Surroundings.around c.args.here.now in
    let whole : spec.judging c.args.stmt.now u ≡ spec.loop_statement c.in-Loop.pos (map spec.judging c.as_slice-in-Loop.result.now) u = ap (λ y. spec.judging y u) (c.in-Loop.is ∙ ap (λ b. s.Loop c.in-Loop.pos b) (sym c.as_slice-in-Loop.ensures)) ∙ judging_loop c.in-Loop.pos c.as_slice-in-Loop.result.now u in
    alone_made c.check_loop.result _ _ c.check_loop.ensures.made (ap (λ j. j.node) (sym whole))

pub check_stmt-returns-in-Loop-clause-noted : goal.check_stmt-returns-in-Loop-clause-noted
check_stmt-returns-in-Loop-clause-noted g t c =
    let u = g.S.Surroundings.around c.args.here.now in
    let whole : spec.judging c.args.stmt.now u ≡ spec.loop_statement c.in-Loop.pos (map spec.judging c.as_slice-in-Loop.result.now) u = ap (λ y. spec.judging y u) (c.in-Loop.is ∙ ap (λ b. s.Loop c.in-Loop.pos b) (sym c.as_slice-in-Loop.ensures)) ∙ judging_loop c.in-Loop.pos c.as_slice-in-Loop.result.now u in
    noted_as c.check_loop.result c.check_loop.new.book c.args.book.now (spec.judging c.args.stmt.now u) _ whole c.check_loop.ensures.noted

pub check_stmt-returns-in-Loop-clause-around : goal.check_stmt-returns-in-Loop-clause-around
check_stmt-returns-in-Loop-clause-around g t c =
    c.check_loop.ensures.around

pub check_stmt-returns-in-Exit-clause-made : goal.check_stmt-returns-in-Exit-clause-made
check_stmt-returns-in-Exit-clause-made g t c =
    let u = g.S.Surroundings.around c.args.here.now in
    let whole : spec.judging c.args.stmt.now u ≡ spec.exit u c.in-Exit.pos = ap (λ y. spec.judging y u) c.in-Exit.is ∙ judging_exit c.in-Exit.pos u in
    alone_made c.exit_alone.result _ _ c.exit_alone.ensures.made (ap (λ j. j.node) (sym whole))

pub check_stmt-returns-in-Exit-clause-noted : goal.check_stmt-returns-in-Exit-clause-noted
check_stmt-returns-in-Exit-clause-noted g t c =
    let u = g.S.Surroundings.around c.args.here.now in
    let whole : spec.judging c.args.stmt.now u ≡ spec.exit u c.in-Exit.pos = ap (λ y. spec.judging y u) c.in-Exit.is ∙ judging_exit c.in-Exit.pos u in
    noted_as c.exit_alone.result c.exit_alone.new.book c.args.book.now (spec.judging c.args.stmt.now u) _ whole c.exit_alone.ensures.noted

pub check_stmt-returns-in-Exit-clause-around : goal.check_stmt-returns-in-Exit-clause-around
check_stmt-returns-in-Exit-clause-around g t c =
    always c.exit_alone.result refl

pub check_stmt-returns-in_ok-otherwise-in-If-clause-made : goal.check_stmt-returns-in_ok-otherwise-in-If-clause-made
check_stmt-returns-in_ok-otherwise-in-If-clause-made g t c =
    let u = g.S.Surroundings.around c.args.here.now in
    let rows = spec.conditionals u (map spec.conditional_of c.as_slice.result.now) in
    let other = λ (y : Around). spec.in_turn_if (option_map (λ b. map spec.judging b) c.in-If.otherwise) y in
    let whole : spec.judging c.args.stmt.now u ≡ spec.if_statement (map spec.conditional_of c.as_slice.result.now) (option_map (λ b. map spec.judging b) c.in-If.otherwise) u = ap (λ y. spec.judging y u) (c.in-If.is ∙ ap (λ b. s.If c.in-If.pos b c.in-If.otherwise) (sym c.as_slice.ensures)) ∙ judging_if c.in-If.pos c.as_slice.result.now c.in-If.otherwise u in
    alone_made c.if_alone.result _ _ c.if_alone.ensures (pair_made (λ p. spec.one (typed.If p.0 (spec.empty_if_none p.1))) rows (other u) _ _ _ c.in_ok-branches-in-If.ensures.made (c.in_ok-otherwise-in-If.ensures.made ∙ ap (λ y. (other y).node) c.in_ok-branches-in-If.ensures.around) refl ∙ ap (λ j. j.node) (sym whole))

pub check_stmt-returns-in_ok-otherwise-in-If-clause-noted : goal.check_stmt-returns-in_ok-otherwise-in-If-clause-noted
check_stmt-returns-in_ok-otherwise-in-If-clause-noted g t c =
    let u = g.S.Surroundings.around c.args.here.now in
    let rows = spec.conditionals u (map spec.conditional_of c.as_slice.result.now) in
    let other = λ (y : Around). spec.in_turn_if (option_map (λ b. map spec.judging b) c.in-If.otherwise) y in
    let whole : spec.judging c.args.stmt.now u ≡ spec.if_statement (map spec.conditional_of c.as_slice.result.now) (option_map (λ b. map spec.judging b) c.in-If.otherwise) u = ap (λ y. spec.judging y u) (c.in-If.is ∙ ap (λ b. s.If c.in-If.pos b c.in-If.otherwise) (sym c.as_slice.ensures)) ∙ judging_if c.in-If.pos c.as_slice.result.now c.in-If.otherwise u in
    always {P = c.check_otherwise.new.book ≡ book_after c.args.book.now (spec.judging c.args.stmt.now u).notes} c.if_alone.result (pair_noted (λ p. typed.If p.0 (spec.empty_if_none p.1) ∷ []) rows (other u) c.args.book.now c.check_branches.new.book c.check_otherwise.new.book c.in_ok-branches-in-If.ensures.noted (c.in_ok-otherwise-in-If.ensures.noted ∙ ap (λ y. book_after c.check_branches.new.book (other y).notes) c.in_ok-branches-in-If.ensures.around) ∙ ap (λ j. book_after c.args.book.now j.notes) (sym whole))

pub check_stmt-returns-in_ok-otherwise-in-If-clause-around : goal.check_stmt-returns-in_ok-otherwise-in-If-clause-around
check_stmt-returns-in_ok-otherwise-in-If-clause-around g t c =
    always c.if_alone.result (c.in_ok-otherwise-in-If.ensures.around ∙ c.in_ok-branches-in-If.ensures.around)

pub check_stmt-returns-in_ok-otherwise-in-With-clause-made : goal.check_stmt-returns-in_ok-otherwise-in-With-clause-made
check_stmt-returns-in_ok-otherwise-in-With-clause-made g t c =
    let u = g.S.Surroundings.around c.args.here.now in
    let rows = spec.with_branches u (map spec.guarded_of c.as_slice-in-With.result.now) in
    let other = λ (y : Around). spec.in_turn_if (option_map (λ b. map spec.judging b) c.in-With.otherwise) y in
    let whole : spec.judging c.args.stmt.now u ≡ spec.with_statement c.in-With.pos (map spec.guarded_of c.as_slice-in-With.result.now) (option_map (λ b. map spec.judging b) c.in-With.otherwise) u = ap (λ y. spec.judging y u) (c.in-With.is ∙ ap (λ b. s.With c.in-With.pos b c.in-With.otherwise) (sym c.as_slice-in-With.ensures)) ∙ judging_with c.in-With.pos c.as_slice-in-With.result.now c.in-With.otherwise u in
    alone_made c.with_alone.result _ _ c.with_alone.ensures (pair_made (λ p. spec.one (typed.With p.0 p.1 c.in-With.pos)) rows (other u) _ _ _ c.in_ok-branches-in-With.ensures.made (c.in_ok-otherwise-in-With.ensures.made ∙ ap (λ y. (other y).node) c.in_ok-branches-in-With.ensures.around) refl ∙ ap (λ j. j.node) (sym whole))

pub check_stmt-returns-in_ok-otherwise-in-With-clause-noted : goal.check_stmt-returns-in_ok-otherwise-in-With-clause-noted
check_stmt-returns-in_ok-otherwise-in-With-clause-noted g t c =
    let u = g.S.Surroundings.around c.args.here.now in
    let rows = spec.with_branches u (map spec.guarded_of c.as_slice-in-With.result.now) in
    let other = λ (y : Around). spec.in_turn_if (option_map (λ b. map spec.judging b) c.in-With.otherwise) y in
    let whole : spec.judging c.args.stmt.now u ≡ spec.with_statement c.in-With.pos (map spec.guarded_of c.as_slice-in-With.result.now) (option_map (λ b. map spec.judging b) c.in-With.otherwise) u = ap (λ y. spec.judging y u) (c.in-With.is ∙ ap (λ b. s.With c.in-With.pos b c.in-With.otherwise) (sym c.as_slice-in-With.ensures)) ∙ judging_with c.in-With.pos c.as_slice-in-With.result.now c.in-With.otherwise u in
    always {P = c.check_otherwise-in-With.new.book ≡ book_after c.args.book.now (spec.judging c.args.stmt.now u).notes} c.with_alone.result (pair_noted (λ p. typed.With p.0 p.1 c.in-With.pos ∷ []) rows (other u) c.args.book.now c.check_guarded.new.book c.check_otherwise-in-With.new.book c.in_ok-branches-in-With.ensures.noted (c.in_ok-otherwise-in-With.ensures.noted ∙ ap (λ y. book_after c.check_guarded.new.book (other y).notes) c.in_ok-branches-in-With.ensures.around) ∙ ap (λ j. book_after c.args.book.now j.notes) (sym whole))

pub check_stmt-returns-in_ok-otherwise-in-With-clause-around : goal.check_stmt-returns-in_ok-otherwise-in-With-clause-around
check_stmt-returns-in_ok-otherwise-in-With-clause-around g t c =
    always c.with_alone.result (c.in_ok-otherwise-in-With.ensures.around ∙ c.in_ok-branches-in-With.ensures.around)

pub check_stmt-returns-in_ok-otherwise-in-Case-clause-made : goal.check_stmt-returns-in_ok-otherwise-in-Case-clause-made
check_stmt-returns-in_ok-otherwise-in-Case-clause-made g t c =
    let u = g.S.Surroundings.around c.args.here.now in
    let x = spec.case_judged u (exprs.phrase_of c.get.result.now) in
    let ds = map spec.labelled_of c.as_slice-in-Case.result.now in
    let o = (option_map (λ b. map spec.judging b) c.in-Case.otherwise) in
    let m = g.S.Types.types c.types.result.now in
    let em : m ≡ map_of u = c.types.ensures.map in
    let es : c.case_selects-selects.result ≡ spec.selects_if m c.in_ok-value-in-Case.value = c.case_selects-selects.ensures in
    let whole : spec.judging c.args.stmt.now u ≡ spec.case_with u c.in-Case.pos x ds o = ap (λ y. spec.judging y u) (c.in-Case.is ∙ ap (λ (v : Expr). s.Case c.in-Case.pos v c.in-Case.cases c.in-Case.otherwise) (sym c.get.ensures) ∙ ap (λ b. s.Case c.in-Case.pos c.get.result.now b c.in-Case.otherwise) (sym c.as_slice-in-Case.ensures)) ∙ judging_case c.in-Case.pos c.get.result.now c.as_slice-in-Case.result.now c.in-Case.otherwise u in
    alone_made c.case_alone.result _ _ c.case_alone.ensures (case_of_parts u c.in-Case.pos x ds o m c.in_ok-value-in-Case.value c.case_selects-selects.result (cases_in c.in_ok-cases-in-Case.cases) (else_in c.in_ok-otherwise-in-Case.otherwise) _ em c.in_ok-value-in-Case.ensures.made es c.in_ok-cases-in-Case.ensures.made (c.in_ok-otherwise-in-Case.ensures.made ∙ ap (λ y. (spec.in_turn_if o y).node) c.in_ok-cases-in-Case.ensures.around) refl ∙ ap (λ j. j.node) (sym whole))

pub check_stmt-returns-in_ok-otherwise-in-Case-clause-noted : goal.check_stmt-returns-in_ok-otherwise-in-Case-clause-noted
check_stmt-returns-in_ok-otherwise-in-Case-clause-noted g t c =
    let u = g.S.Surroundings.around c.args.here.now in
    let x = spec.case_judged u (exprs.phrase_of c.get.result.now) in
    let ds = map spec.labelled_of c.as_slice-in-Case.result.now in
    let o = (option_map (λ b. map spec.judging b) c.in-Case.otherwise) in
    let m = g.S.Types.types c.types.result.now in
    let em : m ≡ map_of u = c.types.ensures.map in
    let es : c.case_selects-selects.result ≡ spec.selects_if m c.in_ok-value-in-Case.value = c.case_selects-selects.ensures in
    let whole : spec.judging c.args.stmt.now u ≡ spec.case_with u c.in-Case.pos x ds o = ap (λ y. spec.judging y u) (c.in-Case.is ∙ ap (λ (v : Expr). s.Case c.in-Case.pos v c.in-Case.cases c.in-Case.otherwise) (sym c.get.ensures) ∙ ap (λ b. s.Case c.in-Case.pos c.get.result.now b c.in-Case.otherwise) (sym c.as_slice-in-Case.ensures)) ∙ judging_case c.in-Case.pos c.get.result.now c.as_slice-in-Case.result.now c.in-Case.otherwise u in
    always {P = c.check_otherwise-in-Case.new.book ≡ book_after c.args.book.now (spec.judging c.args.stmt.now u).notes} c.case_alone.result (case_says u c.in-Case.pos x ds o m c.in_ok-value-in-Case.value c.case_selects-selects.result c.args.book.now c.boxed_case_value.new.book c.check_cases.new.book c.check_otherwise-in-Case.new.book em c.in_ok-value-in-Case.ensures.made es c.in_ok-value-in-Case.ensures.noted c.in_ok-cases-in-Case.ensures.noted (c.in_ok-otherwise-in-Case.ensures.noted ∙ ap (λ y. book_after c.check_cases.new.book (spec.in_turn_if o y).notes) c.in_ok-cases-in-Case.ensures.around) ∙ ap (λ j. book_after c.args.book.now j.notes) (sym whole))

pub check_stmt-returns-in_ok-otherwise-in-Case-clause-around : goal.check_stmt-returns-in_ok-otherwise-in-Case-clause-around
check_stmt-returns-in_ok-otherwise-in-Case-clause-around g t c =
    always c.case_alone.result (c.in_ok-otherwise-in-Case.ensures.around ∙ c.in_ok-cases-in-Case.ensures.around)

pub check_loop-returns-clause-made : goal.check_loop-returns-clause-made
check_loop-returns-clause-made g t c =
    let u = g.S.Surroundings.around c.args.here.now in
    let inside : g.S.Surroundings.around c.set_in_loop.new.self ≡ spec.in_loop u = c.set_in_loop.ensures in
    alone_made c.alone.result _ _ c.alone.ensures (loop_made u c.args.at (map spec.judging c.args.body.now) _ _ (c.in_ok-repeated.ensures.made ∙ ap (λ y. (spec.in_turn (map spec.judging c.args.body.now) y).node) inside) c.loop_made.ensures)

pub check_loop-returns-clause-noted : goal.check_loop-returns-clause-noted
check_loop-returns-clause-noted g t c =
    let u = g.S.Surroundings.around c.args.here.now in
    let inside : g.S.Surroundings.around c.set_in_loop.new.self ≡ spec.in_loop u = c.set_in_loop.ensures in
    always {P = c.check_stmts.new.book ≡ book_after c.args.book.now (spec.loop_statement c.args.at (map spec.judging c.args.body.now) u).notes} c.alone.result (loop_noted u c.args.at (map spec.judging c.args.body.now) c.args.book.now c.check_stmts.new.book (c.in_ok-repeated.ensures.noted ∙ ap (λ y. book_after c.args.book.now (spec.in_turn (map spec.judging c.args.body.now) y).notes) inside))

pub check_loop-returns-clause-around : goal.check_loop-returns-clause-around
check_loop-returns-clause-around g t c =
    let u = g.S.Surroundings.around c.args.here.now in
    let inside : g.S.Surroundings.around c.set_in_loop.new.self ≡ spec.in_loop u = c.set_in_loop.ensures in
    always c.alone.result (left_loop u (g.S.Surroundings.around c.check_stmts.new.here) _ c.in_loop-outer.result c.in_loop-outer.ensures (c.in_ok-repeated.ensures.around ∙ inside) c.set_in_loop-2.ensures)

pub check_otherwise-returns-in_ok-made-in-Some-clause-made : goal.check_otherwise-returns-in_ok-made-in-Some-clause-made
check_otherwise-returns-in_ok-made-in-Some-clause-made g t c =
    let u = g.S.Surroundings.around c.args.here.now in
    let body = spec.in_turn (map spec.judging c.as_slice.result.now) u in
    let whole : spec.in_turn_if (option_map (λ b. map spec.judging b) c.args.otherwise.now) u ≡ made (λ x. Some x) body = ap (λ o. spec.in_turn_if (option_map (λ b. map spec.judging b) o) u) (c.in-Some.is ∙ ap Some (sym c.as_slice.ensures)) in
    c.some_stmts.ensures ∙ some_made body (stmts_in c.in_ok-made-in-Some.made) c.in_ok-made-in-Some.ensures.made ∙ ap (λ j. j.node) (sym whole)

pub check_otherwise-returns-in_ok-made-in-Some-clause-noted : goal.check_otherwise-returns-in_ok-made-in-Some-clause-noted
check_otherwise-returns-in_ok-made-in-Some-clause-noted g t c =
    let u = g.S.Surroundings.around c.args.here.now in
    let body = spec.in_turn (map spec.judging c.as_slice.result.now) u in
    let whole : spec.in_turn_if (option_map (λ b. map spec.judging b) c.args.otherwise.now) u ≡ made (λ x. Some x) body = ap (λ o. spec.in_turn_if (option_map (λ b. map spec.judging b) o) u) (c.in-Some.is ∙ ap Some (sym c.as_slice.ensures)) in
    c.in_ok-made-in-Some.ensures.noted ∙ sym (made_noted (λ x. Some x) c.args.book.now body) ∙ ap (λ j. book_after c.args.book.now j.notes) (sym whole)

pub check_guarded_body-returns-in_ok-made-in-Some-clause-made : goal.check_guarded_body-returns-in_ok-made-in-Some-clause-made
check_guarded_body-returns-in_ok-made-in-Some-clause-made g t c =
    let u = g.S.Surroundings.around c.args.here.now in
    let variable = c.in-Some.variable in
    let inside : g.S.Surroundings.around c.guard.new.self ≡ spec.guarded_around u (Some variable) c.args.of = c.in_ok-guard-in-Some.ensures in
    let whole : spec.guarded_around u c.args.variable c.args.of ≡ spec.guarded_around u (Some variable) c.args.of = ap (λ o. spec.guarded_around u o c.args.of) c.in-Some.is in
    c.in_ok-made-in-Some.ensures.made ∙ ap (λ y. (spec.in_turn (map spec.judging c.args.body.now) y).node) (inside ∙ sym whole)

pub check_guarded_body-returns-in_ok-made-in-Some-clause-noted : goal.check_guarded_body-returns-in_ok-made-in-Some-clause-noted
check_guarded_body-returns-in_ok-made-in-Some-clause-noted g t c =
    let u = g.S.Surroundings.around c.args.here.now in
    let variable = c.in-Some.variable in
    let inside : g.S.Surroundings.around c.guard.new.self ≡ spec.guarded_around u (Some variable) c.args.of = c.in_ok-guard-in-Some.ensures in
    let whole : spec.guarded_around u c.args.variable c.args.of ≡ spec.guarded_around u (Some variable) c.args.of = ap (λ o. spec.guarded_around u o c.args.of) c.in-Some.is in
    c.in_ok-made-in-Some.ensures.noted ∙ ap (λ y. book_after c.args.book.now (spec.in_turn (map spec.judging c.args.body.now) y).notes) (inside ∙ sym whole)

pub check_guarded_body-returns-in_ok-made-in-Some-clause-around : goal.check_guarded_body-returns-in_ok-made-in-Some-clause-around
check_guarded_body-returns-in_ok-made-in-Some-clause-around g t c =
    let u = g.S.Surroundings.around c.args.here.now in
    let variable = c.in-Some.variable in
    let inside : g.S.Surroundings.around c.guard.new.self ≡ spec.guarded_around u (Some variable) c.args.of = c.in_ok-guard-in-Some.ensures in
    let whole : spec.guarded_around u c.args.variable c.args.of ≡ spec.guarded_around u (Some variable) c.args.of = ap (λ o. spec.guarded_around u o c.args.of) c.in-Some.is in
    unguarded u (g.S.Surroundings.around c.check_stmts-in-Some.new.here) _ variable c.args.of (c.in_ok-made-in-Some.ensures.around ∙ inside) (λ h. c.unguard.ensures u.guards (variable, c.args.of) h)

pub check_while-returns-clause-made : goal.check_while-returns-clause-made
check_while-returns-clause-made g t c =
    let u = g.S.Surroundings.around c.args.here.now in
    alone_made c.alone.result _ _ c.alone.ensures (pair_made (λ p. spec.one (typed.While p.0 p.1 c.args.at)) (spec.condition u (exprs.phrase_of c.args.test.now)) (spec.in_turn (map spec.judging c.args.body.now) u) _ _ _ c.in_ok-tested.ensures.made c.in_ok-repeated.ensures.made c.while_made.ensures)

pub check_while-returns-clause-noted : goal.check_while-returns-clause-noted
check_while-returns-clause-noted g t c =
    let u = g.S.Surroundings.around c.args.here.now in
    always {P = c.check_stmts.new.book ≡ book_after c.args.book.now (spec.while_statement c.args.at (exprs.phrase_of c.args.test.now) (map spec.judging c.args.body.now) u).notes} c.alone.result (pair_noted (λ p. typed.While p.0 p.1 c.args.at ∷ []) (spec.condition u (exprs.phrase_of c.args.test.now)) (spec.in_turn (map spec.judging c.args.body.now) u) c.args.book.now c.condition.new.book c.check_stmts.new.book c.in_ok-tested.ensures.noted c.in_ok-repeated.ensures.noted)

pub check_while-returns-clause-around : goal.check_while-returns-clause-around
check_while-returns-clause-around g t c =
    always c.alone.result c.in_ok-repeated.ensures.around

pub check_repeat-returns-clause-made : goal.check_repeat-returns-clause-made
check_repeat-returns-clause-made g t c =
    let u = g.S.Surroundings.around c.args.here.now in
    alone_made c.alone.result _ _ c.alone.ensures (pair_made (λ p. spec.one (typed.Repeat p.0 p.1 c.args.at)) (spec.in_turn (map spec.judging c.args.body.now) u) (spec.condition u (exprs.phrase_of c.args.test.now)) _ _ _ c.in_ok-repeated.ensures.made (c.in_ok-tested.ensures.made ∙ ap (λ y. (spec.condition y (exprs.phrase_of c.args.test.now)).node) c.in_ok-repeated.ensures.around) c.repeat_made.ensures)

pub check_repeat-returns-clause-noted : goal.check_repeat-returns-clause-noted
check_repeat-returns-clause-noted g t c =
    let u = g.S.Surroundings.around c.args.here.now in
    always {P = c.condition.new.book ≡ book_after c.args.book.now (spec.repeat_statement c.args.at (map spec.judging c.args.body.now) (exprs.phrase_of c.args.test.now) u).notes} c.alone.result (pair_noted (λ p. typed.Repeat p.0 p.1 c.args.at ∷ []) (spec.in_turn (map spec.judging c.args.body.now) u) (spec.condition u (exprs.phrase_of c.args.test.now)) c.args.book.now c.check_stmts.new.book c.condition.new.book c.in_ok-repeated.ensures.noted (c.in_ok-tested.ensures.noted ∙ ap (λ y. book_after c.check_stmts.new.book (spec.condition y (exprs.phrase_of c.args.test.now)).notes) c.in_ok-repeated.ensures.around))

pub check_repeat-returns-clause-around : goal.check_repeat-returns-clause-around
check_repeat-returns-clause-around g t c =
    always c.alone.result c.in_ok-repeated.ensures.around

pub check_for-returns-clause-made : goal.check_for-returns-clause-made
check_for-returns-clause-made g t c =
    let u = g.S.Surroundings.around c.args.here.now in
    let at = c.args.at in
    let v = names.named u c.args.variable.now ▷ λ e. spec.for_variable u at c.args.variable.now e in
    let a = (exprs.phrase_of c.args.start.now).value u in
    let b = (exprs.phrase_of c.args.end.now).value u in
    let step = spec.for_step u at (spec.phrase_if c.args.step.now) in
    let body = spec.in_turn (map spec.judging c.args.body.now) u in
    let p = c.in_ok-place.place in
    let all = for_is u at v a b step body (g.S.Types.types c.types.result.now) p (expr_in c.in_ok-first.first) (expr_in c.in_ok-last.last) c.in_ok-by.by (stmts_in c.in_ok-repeated.repeated) _
    (c.types.ensures.map ∙ ap map_of c.in_ok-repeated.ensures.around) c.in_ok-place.ensures.made
    (c.in_ok-first.ensures.made ∙ ap (λ o. (spec.bound_if (map_of u) at o a).node) c.as_ref.ensures.value)
    (c.in_ok-last.ensures.made ∙ ap (λ o. (spec.bound_if (map_of u) at o b).node) c.as_ref-2.ensures.value)
    c.in_ok-by.ensures.made c.in_ok-repeated.ensures.made c.for_if.ensures in
    alone_made c.alone.result _ _ c.alone.ensures all

pub check_for-returns-clause-noted : goal.check_for-returns-clause-noted
check_for-returns-clause-noted g t c =
    let u = g.S.Surroundings.around c.args.here.now in
    let at = c.args.at in
    let v = names.named u c.args.variable.now ▷ λ e. spec.for_variable u at c.args.variable.now e in
    let a = (exprs.phrase_of c.args.start.now).value u in
    let b = (exprs.phrase_of c.args.end.now).value u in
    let step = spec.for_step u at (spec.phrase_if c.args.step.now) in
    let body = spec.in_turn (map spec.judging c.args.body.now) u in
    let p = c.in_ok-place.place in
    always {P = c.check_stmts.new.book ≡ book_after c.args.book.now (spec.for u c.args.at c.args.variable.now (exprs.phrase_of c.args.start.now) (exprs.phrase_of c.args.end.now) (spec.phrase_if c.args.step.now) (map spec.judging c.args.body.now)).notes} c.alone.result (for_says u at v a b step body p c.args.book.now c.for_variable.new.book c.check_bound.new.book c.check_bound-2.new.book c.check_step_if.new.book c.check_stmts.new.book
    c.in_ok-place.ensures.made c.in_ok-place.ensures.noted
    (c.in_ok-first.ensures.noted ∙ ap (λ o. book_after c.for_variable.new.book (spec.bound_if (map_of u) at o a).notes) c.as_ref.ensures.value)
    (c.in_ok-last.ensures.noted ∙ ap (λ o. book_after c.check_bound.new.book (spec.bound_if (map_of u) at o b).notes) c.as_ref-2.ensures.value)
    c.in_ok-by.ensures.noted c.in_ok-repeated.ensures.noted)

pub check_for-returns-clause-around : goal.check_for-returns-clause-around
check_for-returns-clause-around g t c =
    always c.alone.result c.in_ok-repeated.ensures.around
