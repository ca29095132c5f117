use Rattle.std.proofs.Common.{◌≡◌, suc, arith, sym, ap, ◌∙◌, subst}
use Rattle.std.proofs.lemmas.Result.{on_ok_weaker, IfOk-weaker}
use Rattle.ob_trap.specs.declared.trap.Trap.TheVariants as trap
use Rattle.ob_types.specs.TypedSyntax.{If, Case, Loop, With, Branch, NoBranch, OneCase, NoCase}
use Rattle.ob_types.specs.TypedView.{expr_view, stmt_view, stmts_view, branches_view, cases_view, otherwise_view}
use Rattle.ob_types.proofs.TypedViews.{view_assign, view_call_proper, view_updated, view_copy, view_new, view_new_open_array, view_assert, view_halt, view_if, view_while, view_repeat, view_for, view_loop, view_exit, view_return}
use Rattle.ob_scheme.specs.Coded.{appended, place_in}
use Rattle.ob_scheme.specs.Statements.{stmt_code, stmts_code, branches_code, cases_code, labels_code, end_labels, end_stmt, next_stmt, next_stmts, next_branches, next_cases, next_else, else_code}
use Rattle.ob_scheme.proofs.Views.{view_case, view_with}
use Rattle.ob_scheme.proofs.Puts.{while_put, stmts_turn, stmts_over, hidden_turn, hidden_over}
use Rattle.ob_gstmt_labels.proofs.Behinds.{labels_behind}
use Rattle.ob_gstmt.proofs.StmtPuts.{repeat_put, loop_put, if_put, with_put, case_put, for_put, branch_put, branches_turn, branches_next, branches_over, branches_next_over, case_one_put, cases_turn, cases_next, cases_over, cases_next_over}
use Rattle.ob_gstmt.proofs.stmts.+put_stmt.Goals as goal

pub put_stmt-returns-in_ok-put_assignment-in-Assign-clause-code : goal.put_stmt-returns-in_ok-put_assignment-in-Assign-clause-code
put_stmt-returns-in_ok-put_assignment-in-Assign-clause-code g t c =
    let x = g.S.Scope.context c.args.scope.now in
    let view = ap stmt_view c.in-Assign.is ∙ view_assign c.in-Assign.target c.in-Assign.assigned c.in-Assign.value c.in-Assign.pos in
    c.in_ok-put_assignment-in-Assign.ensures ∙ ap (λ v. appended c.args.code.now (stmt_code x v (place_in c.args.code.now) c.args.hidden c.args.exit)) (sym view)

pub put_stmt-returns-in_ok-put_assignment-in-Assign-clause-hidden : goal.put_stmt-returns-in_ok-put_assignment-in-Assign-clause-hidden
put_stmt-returns-in_ok-put_assignment-in-Assign-clause-hidden g t c =
    let x = g.S.Scope.context c.args.scope.now in
    let view = ap stmt_view c.in-Assign.is ∙ view_assign c.in-Assign.target c.in-Assign.assigned c.in-Assign.value c.in-Assign.pos in
    ap (λ v. next_stmt x v c.args.hidden) (sym view)

pub put_stmt-returns-in_ok-put_expr-in-Call-clause-code : goal.put_stmt-returns-in_ok-put_expr-in-Call-clause-code
put_stmt-returns-in_ok-put_expr-in-Call-clause-code g t c =
    let x = g.S.Scope.context c.args.scope.now in
    let view = ap stmt_view c.in-Call.is ∙ view_call_proper c.in-Call.call in
    c.in_ok-put_expr-in-Call.ensures ∙ ap (λ v. appended c.args.code.now (stmt_code x v (place_in c.args.code.now) c.args.hidden c.args.exit)) (sym view)

pub put_stmt-returns-in_ok-put_expr-in-Call-clause-hidden : goal.put_stmt-returns-in_ok-put_expr-in-Call-clause-hidden
put_stmt-returns-in_ok-put_expr-in-Call-clause-hidden g t c =
    let x = g.S.Scope.context c.args.scope.now in
    let view = ap stmt_view c.in-Call.is ∙ view_call_proper c.in-Call.call in
    ap (λ v. next_stmt x v c.args.hidden) (sym view)

pub put_stmt-returns-in_ok-put_update-in-Update-clause-code : goal.put_stmt-returns-in_ok-put_update-in-Update-clause-code
put_stmt-returns-in_ok-put_update-in-Update-clause-code g t c =
    let x = g.S.Scope.context c.args.scope.now in
    let view = ap stmt_view c.in-Update.is ∙ view_updated c.in-Update.op c.in-Update.target c.in-Update.operand c.in-Update.pos in
    c.in_ok-put_update-in-Update.ensures ∙ ap (λ v. appended c.args.code.now (stmt_code x v (place_in c.args.code.now) c.args.hidden c.args.exit)) (sym view)

pub put_stmt-returns-in_ok-put_update-in-Update-clause-hidden : goal.put_stmt-returns-in_ok-put_update-in-Update-clause-hidden
put_stmt-returns-in_ok-put_update-in-Update-clause-hidden g t c =
    let x = g.S.Scope.context c.args.scope.now in
    let view = ap stmt_view c.in-Update.is ∙ view_updated c.in-Update.op c.in-Update.target c.in-Update.operand c.in-Update.pos in
    ap (λ v. next_stmt x v c.args.hidden) (sym view)

pub put_stmt-returns-in_ok-put_copy-in-Copy-clause-code : goal.put_stmt-returns-in_ok-put_copy-in-Copy-clause-code
put_stmt-returns-in_ok-put_copy-in-Copy-clause-code g t c =
    let x = g.S.Scope.context c.args.scope.now in
    let view = ap stmt_view c.in-Copy.is ∙ view_copy c.in-Copy.source c.in-Copy.target c.in-Copy.pos in
    c.in_ok-put_copy-in-Copy.ensures ∙ ap (λ v. appended c.args.code.now (stmt_code x v (place_in c.args.code.now) c.args.hidden c.args.exit)) (sym view)

pub put_stmt-returns-in_ok-put_copy-in-Copy-clause-hidden : goal.put_stmt-returns-in_ok-put_copy-in-Copy-clause-hidden
put_stmt-returns-in_ok-put_copy-in-Copy-clause-hidden g t c =
    let x = g.S.Scope.context c.args.scope.now in
    let view = ap stmt_view c.in-Copy.is ∙ view_copy c.in-Copy.source c.in-Copy.target c.in-Copy.pos in
    ap (λ v. next_stmt x v c.args.hidden) (sym view)

pub put_stmt-returns-in_ok-put_new-in-New-clause-code : goal.put_stmt-returns-in_ok-put_new-in-New-clause-code
put_stmt-returns-in_ok-put_new-in-New-clause-code g t c =
    let x = g.S.Scope.context c.args.scope.now in
    let view = ap stmt_view c.in-New.is ∙ view_new c.in-New.target c.in-New.made c.in-New.pos in
    c.in_ok-put_new-in-New.ensures ∙ ap (λ v. appended c.args.code.now (stmt_code x v (place_in c.args.code.now) c.args.hidden c.args.exit)) (sym view)

pub put_stmt-returns-in_ok-put_new-in-New-clause-hidden : goal.put_stmt-returns-in_ok-put_new-in-New-clause-hidden
put_stmt-returns-in_ok-put_new-in-New-clause-hidden g t c =
    let x = g.S.Scope.context c.args.scope.now in
    let view = ap stmt_view c.in-New.is ∙ view_new c.in-New.target c.in-New.made c.in-New.pos in
    ap (λ v. next_stmt x v c.args.hidden) (sym view)

pub put_stmt-returns-in_ok-put_new_open-in-NewOpenArray-clause-code : goal.put_stmt-returns-in_ok-put_new_open-in-NewOpenArray-clause-code
put_stmt-returns-in_ok-put_new_open-in-NewOpenArray-clause-code g t c =
    let x = g.S.Scope.context c.args.scope.now in
    let view = ap stmt_view c.in-NewOpenArray.is ∙ view_new_open_array c.in-NewOpenArray.target c.in-NewOpenArray.element c.in-NewOpenArray.length c.in-NewOpenArray.pos in
    c.in_ok-put_new_open-in-NewOpenArray.ensures ∙ ap (λ v. appended c.args.code.now (stmt_code x v (place_in c.args.code.now) c.args.hidden c.args.exit)) (sym view)

pub put_stmt-returns-in_ok-put_new_open-in-NewOpenArray-clause-hidden : goal.put_stmt-returns-in_ok-put_new_open-in-NewOpenArray-clause-hidden
put_stmt-returns-in_ok-put_new_open-in-NewOpenArray-clause-hidden g t c =
    let x = g.S.Scope.context c.args.scope.now in
    let view = ap stmt_view c.in-NewOpenArray.is ∙ view_new_open_array c.in-NewOpenArray.target c.in-NewOpenArray.element c.in-NewOpenArray.length c.in-NewOpenArray.pos in
    ap (λ v. next_stmt x v c.args.hidden) (sym view)

pub put_stmt-returns-in_ok-put_assert-in-Assert-clause-code : goal.put_stmt-returns-in_ok-put_assert-in-Assert-clause-code
put_stmt-returns-in_ok-put_assert-in-Assert-clause-code g t c =
    let x = g.S.Scope.context c.args.scope.now in
    let view = ap stmt_view c.in-Assert.is ∙ view_assert c.in-Assert.condition c.in-Assert.number c.in-Assert.pos in
    c.in_ok-put_assert-in-Assert.ensures ∙ ap (λ v. appended c.args.code.now (stmt_code x v (place_in c.args.code.now) c.args.hidden c.args.exit)) (sym view)

pub put_stmt-returns-in_ok-put_assert-in-Assert-clause-hidden : goal.put_stmt-returns-in_ok-put_assert-in-Assert-clause-hidden
put_stmt-returns-in_ok-put_assert-in-Assert-clause-hidden g t c =
    let x = g.S.Scope.context c.args.scope.now in
    let view = ap stmt_view c.in-Assert.is ∙ view_assert c.in-Assert.condition c.in-Assert.number c.in-Assert.pos in
    ap (λ v. next_stmt x v c.args.hidden) (sym view)

pub put_stmt-returns-in_ok-put_halt-in-Halt-clause-code : goal.put_stmt-returns-in_ok-put_halt-in-Halt-clause-code
put_stmt-returns-in_ok-put_halt-in-Halt-clause-code g t c =
    let x = g.S.Scope.context c.args.scope.now in
    let view = ap stmt_view c.in-Halt.is ∙ view_halt c.in-Halt.number c.in-Halt.pos in
    c.in_ok-put_halt-in-Halt.ensures ∙ ap (λ v. appended c.args.code.now (stmt_code x v (place_in c.args.code.now) c.args.hidden c.args.exit)) (sym view)

pub put_stmt-returns-in_ok-put_halt-in-Halt-clause-hidden : goal.put_stmt-returns-in_ok-put_halt-in-Halt-clause-hidden
put_stmt-returns-in_ok-put_halt-in-Halt-clause-hidden g t c =
    let x = g.S.Scope.context c.args.scope.now in
    let view = ap stmt_view c.in-Halt.is ∙ view_halt c.in-Halt.number c.in-Halt.pos in
    ap (λ v. next_stmt x v c.args.hidden) (sym view)

pub put_stmt-returns-in_ok-put_jump-in-Exit-clause-code : goal.put_stmt-returns-in_ok-put_jump-in-Exit-clause-code
put_stmt-returns-in_ok-put_jump-in-Exit-clause-code g t c =
    let x = g.S.Scope.context c.args.scope.now in
    let view = ap stmt_view c.in-Exit.is ∙ view_exit in
    c.in_ok-put_jump-in-Exit.ensures ∙ ap (λ v. appended c.args.code.now (stmt_code x v (place_in c.args.code.now) c.args.hidden c.args.exit)) (sym view)

pub put_stmt-returns-in_ok-put_jump-in-Exit-clause-hidden : goal.put_stmt-returns-in_ok-put_jump-in-Exit-clause-hidden
put_stmt-returns-in_ok-put_jump-in-Exit-clause-hidden g t c =
    let x = g.S.Scope.context c.args.scope.now in
    let view = ap stmt_view c.in-Exit.is ∙ view_exit in
    ap (λ v. next_stmt x v c.args.hidden) (sym view)

pub put_stmt-returns-in_ok-put_return-in-Return-clause-code : goal.put_stmt-returns-in_ok-put_return-in-Return-clause-code
put_stmt-returns-in_ok-put_return-in-Return-clause-code g t c =
    let x = g.S.Scope.context c.args.scope.now in
    let view = ap stmt_view c.in-Return.is ∙ view_return c.in-Return.value in
    c.in_ok-put_return-in-Return.ensures ∙ ap (λ v. appended c.args.code.now (stmt_code x v (place_in c.args.code.now) c.args.hidden c.args.exit)) (sym view)

pub put_stmt-returns-in_ok-put_return-in-Return-clause-hidden : goal.put_stmt-returns-in_ok-put_return-in-Return-clause-hidden
put_stmt-returns-in_ok-put_return-in-Return-clause-hidden g t c =
    let x = g.S.Scope.context c.args.scope.now in
    let view = ap stmt_view c.in-Return.is ∙ view_return c.in-Return.value in
    ap (λ v. next_stmt x v c.args.hidden) (sym view)

pub put_stmt-returns-in_ok-next-in-If-clause-code : goal.put_stmt-returns-in_ok-next-in-If-clause-code
put_stmt-returns-in_ok-next-in-If-clause-code g t c =
    let x = g.S.Scope.context c.args.scope.now in
    let view : stmt_view c.args.s.now ≡ If (branches_view c.in-If.branches) (stmts_view c.in-If.otherwise) = ap stmt_view c.in-If.is ∙ view_if c.in-If.branches c.in-If.otherwise in
    let f : c.in_ok-end-in-If.end ≡ end_stmt x (If (branches_view c.in-If.branches) (stmts_view c.in-If.otherwise)) (place_in c.args.code.now) = c.in_ok-end-in-If.ensures ∙ ap (λ n. end_stmt x (stmt_view c.args.s.now) n) c.place.ensures ∙ ap (λ v. end_stmt x v (place_in c.args.code.now)) view in
    let h1 = c.in_ok-next-in-If.ensures.code ∙ ap (λ b. appended c.args.code.now (branches_code x (branches_view b) (place_in c.args.code.now) c.args.hidden c.args.exit c.in_ok-end-in-If.end)) c.as_slice.ensures in
    let h2 = c.in_ok-next-in-If.ensures.hidden ∙ ap (λ b. next_branches x (branches_view b) c.args.hidden) c.as_slice.ensures in
    on_ok_weaker c.put_stmts.result (λ h. if_put x (branches_view c.in-If.branches) (stmts_view c.in-If.otherwise) c.args.hidden c.in_ok-next-in-If.next c.args.exit c.in_ok-end-in-If.end c.args.code.now c.put_branches.new.code c.put_stmts.new.code f h1 h2 (h ∙ ap (λ b. appended c.put_branches.new.code (stmts_code x (stmts_view b) (place_in c.put_branches.new.code) c.in_ok-next-in-If.next c.args.exit)) c.as_slice-in-If.ensures) ∙ ap (λ v. appended c.args.code.now (stmt_code x v (place_in c.args.code.now) c.args.hidden c.args.exit)) (sym view)) c.put_stmts.ensures.code

pub put_stmt-returns-in_ok-next-in-If-clause-hidden : goal.put_stmt-returns-in_ok-next-in-If-clause-hidden
put_stmt-returns-in_ok-next-in-If-clause-hidden g t c =
    let x = g.S.Scope.context c.args.scope.now in
    let view : stmt_view c.args.s.now ≡ If (branches_view c.in-If.branches) (stmts_view c.in-If.otherwise) = ap stmt_view c.in-If.is ∙ view_if c.in-If.branches c.in-If.otherwise in
    let h2 = c.in_ok-next-in-If.ensures.hidden ∙ ap (λ b. next_branches x (branches_view b) c.args.hidden) c.as_slice.ensures in
    IfOk-weaker c.put_stmts.result (λ n. n ≡ next_stmts x (stmts_view c.as_slice-in-If.result.now) c.in_ok-next-in-If.next) (λ n. n ≡ next_stmt x (stmt_view c.args.s.now) c.args.hidden) (λ n h. h ∙ ap (λ b. next_stmts x (stmts_view b) c.in_ok-next-in-If.next) c.as_slice-in-If.ensures ∙ ap (next_stmts x (stmts_view c.in-If.otherwise)) h2 ∙ ap (λ v. next_stmt x v c.args.hidden) (sym view)) c.put_stmts.ensures.hidden

pub put_stmt-returns-in_ok-put_none_taken-in-None-otherwise-clause-code : goal.put_stmt-returns-in_ok-put_none_taken-in-None-otherwise-clause-code
put_stmt-returns-in_ok-put_none_taken-in-None-otherwise-clause-code g t c =
    let x = g.S.Scope.context c.args.scope.now in
    let view : stmt_view c.args.s.now ≡ With (branches_view c.in-With.branches) (otherwise_view c.in-With.otherwise) c.in-With.pos = ap stmt_view c.in-With.is ∙ view_with c.in-With.branches c.in-With.otherwise c.in-With.pos in
    let f : c.in_ok-end-in-With.end ≡ end_stmt x (With (branches_view c.in-With.branches) (otherwise_view c.in-With.otherwise) c.in-With.pos) (place_in c.args.code.now) = c.in_ok-end-in-With.ensures ∙ ap (λ n. end_stmt x (stmt_view c.args.s.now) n) c.place-in-With.ensures ∙ ap (λ v. end_stmt x v (place_in c.args.code.now)) view in
    let h1 = c.in_ok-next-in-With.ensures.code ∙ ap (λ b. appended c.args.code.now (branches_code x (branches_view b) (place_in c.args.code.now) c.args.hidden c.args.exit c.in_ok-end-in-With.end)) c.as_slice-in-With.ensures in
    let h2 = c.in_ok-next-in-With.ensures.hidden ∙ ap (λ b. next_branches x (branches_view b) c.args.hidden) c.as_slice-in-With.ensures in
    with_put x (branches_view c.in-With.branches) (otherwise_view c.in-With.otherwise) c.in-With.pos c.args.hidden c.in_ok-next-in-With.next c.args.exit c.in_ok-end-in-With.end c.args.code.now c.put_branches-in-With.new.code c.put_none_taken-in-None-otherwise.new.code f h1 h2 (c.in_ok-put_none_taken-in-None-otherwise.ensures ∙ ap (λ o. appended c.put_branches-in-With.new.code (else_code x trap.NoMatch c.in-With.pos (otherwise_view o) (place_in c.put_branches-in-With.new.code) c.in_ok-next-in-With.next c.args.exit)) (sym c.in-None-otherwise.is)) ∙ ap (λ v. appended c.args.code.now (stmt_code x v (place_in c.args.code.now) c.args.hidden c.args.exit)) (sym view)

pub put_stmt-returns-in_ok-put_none_taken-in-None-otherwise-clause-hidden : goal.put_stmt-returns-in_ok-put_none_taken-in-None-otherwise-clause-hidden
put_stmt-returns-in_ok-put_none_taken-in-None-otherwise-clause-hidden g t c =
    let x = g.S.Scope.context c.args.scope.now in
    let view : stmt_view c.args.s.now ≡ With (branches_view c.in-With.branches) (otherwise_view c.in-With.otherwise) c.in-With.pos = ap stmt_view c.in-With.is ∙ view_with c.in-With.branches c.in-With.otherwise c.in-With.pos in
    let h2 = c.in_ok-next-in-With.ensures.hidden ∙ ap (λ b. next_branches x (branches_view b) c.args.hidden) c.as_slice-in-With.ensures in
    h2 ∙ ap (λ o. next_else x (otherwise_view o) (next_branches x (branches_view c.in-With.branches) c.args.hidden)) (sym c.in-None-otherwise.is) ∙ ap (λ v. next_stmt x v c.args.hidden) (sym view)

pub put_stmt-returns-in-Some-otherwise-clause-code : goal.put_stmt-returns-in-Some-otherwise-clause-code
put_stmt-returns-in-Some-otherwise-clause-code g t c =
    let x = g.S.Scope.context c.args.scope.now in
    let view : stmt_view c.args.s.now ≡ With (branches_view c.in-With.branches) (otherwise_view c.in-With.otherwise) c.in-With.pos = ap stmt_view c.in-With.is ∙ view_with c.in-With.branches c.in-With.otherwise c.in-With.pos in
    let f : c.in_ok-end-in-With.end ≡ end_stmt x (With (branches_view c.in-With.branches) (otherwise_view c.in-With.otherwise) c.in-With.pos) (place_in c.args.code.now) = c.in_ok-end-in-With.ensures ∙ ap (λ n. end_stmt x (stmt_view c.args.s.now) n) c.place-in-With.ensures ∙ ap (λ v. end_stmt x v (place_in c.args.code.now)) view in
    let h1 = c.in_ok-next-in-With.ensures.code ∙ ap (λ b. appended c.args.code.now (branches_code x (branches_view b) (place_in c.args.code.now) c.args.hidden c.args.exit c.in_ok-end-in-With.end)) c.as_slice-in-With.ensures in
    let h2 = c.in_ok-next-in-With.ensures.hidden ∙ ap (λ b. next_branches x (branches_view b) c.args.hidden) c.as_slice-in-With.ensures in
    on_ok_weaker c.put_stmts-in-Some-otherwise.result (λ h. with_put x (branches_view c.in-With.branches) (otherwise_view c.in-With.otherwise) c.in-With.pos c.args.hidden c.in_ok-next-in-With.next c.args.exit c.in_ok-end-in-With.end c.args.code.now c.put_branches-in-With.new.code c.put_stmts-in-Some-otherwise.new.code f h1 h2 (h ∙ ap (λ b. appended c.put_branches-in-With.new.code (stmts_code x (stmts_view b) (place_in c.put_branches-in-With.new.code) c.in_ok-next-in-With.next c.args.exit)) c.as_slice-in-Some-otherwise.ensures ∙ ap (λ o. appended c.put_branches-in-With.new.code (else_code x trap.NoMatch c.in-With.pos (otherwise_view o) (place_in c.put_branches-in-With.new.code) c.in_ok-next-in-With.next c.args.exit)) (sym c.in-Some-otherwise.is)) ∙ ap (λ v. appended c.args.code.now (stmt_code x v (place_in c.args.code.now) c.args.hidden c.args.exit)) (sym view)) c.put_stmts-in-Some-otherwise.ensures.code

pub put_stmt-returns-in-Some-otherwise-clause-hidden : goal.put_stmt-returns-in-Some-otherwise-clause-hidden
put_stmt-returns-in-Some-otherwise-clause-hidden g t c =
    let x = g.S.Scope.context c.args.scope.now in
    let view : stmt_view c.args.s.now ≡ With (branches_view c.in-With.branches) (otherwise_view c.in-With.otherwise) c.in-With.pos = ap stmt_view c.in-With.is ∙ view_with c.in-With.branches c.in-With.otherwise c.in-With.pos in
    let h2 = c.in_ok-next-in-With.ensures.hidden ∙ ap (λ b. next_branches x (branches_view b) c.args.hidden) c.as_slice-in-With.ensures in
    IfOk-weaker c.put_stmts-in-Some-otherwise.result (λ n. n ≡ next_stmts x (stmts_view c.as_slice-in-Some-otherwise.result.now) c.in_ok-next-in-With.next) (λ n. n ≡ next_stmt x (stmt_view c.args.s.now) c.args.hidden) (λ n h. h ∙ ap (λ b. next_stmts x (stmts_view b) c.in_ok-next-in-With.next) c.as_slice-in-Some-otherwise.ensures ∙ ap (next_stmts x (stmts_view c.in-Some-otherwise.body)) h2 ∙ ap (λ o. next_else x (otherwise_view o) (next_branches x (branches_view c.in-With.branches) c.args.hidden)) (sym c.in-Some-otherwise.is) ∙ ap (λ v. next_stmt x v c.args.hidden) (sym view)) c.put_stmts-in-Some-otherwise.ensures.hidden

pub put_stmt-returns-in_ok-put_none_taken-in-None-clause-code : goal.put_stmt-returns-in_ok-put_none_taken-in-None-clause-code
put_stmt-returns-in_ok-put_none_taken-in-None-clause-code g t c =
    let x = g.S.Scope.context c.args.scope.now in
    let view : stmt_view c.args.s.now ≡ Case (expr_view c.in-Case.value) (cases_view c.in-Case.cases) (otherwise_view c.in-Case.otherwise) c.in-Case.pos = ap stmt_view c.in-Case.is ∙ view_case c.in-Case.value c.in-Case.cases c.in-Case.otherwise c.in-Case.pos in
    let f : c.in_ok-end-in-Case.end ≡ end_stmt x (Case (expr_view c.in-Case.value) (cases_view c.in-Case.cases) (otherwise_view c.in-Case.otherwise) c.in-Case.pos) (place_in c.args.code.now) = c.in_ok-end-in-Case.ensures ∙ ap (λ n. end_stmt x (stmt_view c.args.s.now) n) c.place-in-Case.ensures ∙ ap (λ v. end_stmt x v (place_in c.args.code.now)) view in
    let h1 = c.in_ok-next-in-Case.ensures.code ∙ ap (λ b. appended c.put_stored.new.code (cases_code x c.args.hidden (cases_view b) (place_in c.put_stored.new.code) c.in_ok-first-in-Case.first c.args.exit c.in_ok-end-in-Case.end)) c.as_slice-in-Case.ensures in
    let h2 = c.in_ok-next-in-Case.ensures.hidden ∙ ap (λ b. next_cases x (cases_view b) c.in_ok-first-in-Case.first) c.as_slice-in-Case.ensures in
    case_put x (expr_view c.in-Case.value) (cases_view c.in-Case.cases) (otherwise_view c.in-Case.otherwise) c.in-Case.pos c.args.hidden c.in_ok-first-in-Case.first c.in_ok-next-in-Case.next c.args.exit c.in_ok-end-in-Case.end c.args.code.now c.put_stored.new.code c.put_cases.new.code c.put_none_taken.new.code f c.in_ok-put_stored-in-Case.ensures c.in_ok-first-in-Case.ensures.is h1 h2 (c.in_ok-put_none_taken-in-None.ensures ∙ ap (λ o. appended c.put_cases.new.code (else_code x trap.NoCase c.in-Case.pos (otherwise_view o) (place_in c.put_cases.new.code) c.in_ok-next-in-Case.next c.args.exit)) (sym c.in-None.is)) ∙ ap (λ v. appended c.args.code.now (stmt_code x v (place_in c.args.code.now) c.args.hidden c.args.exit)) (sym view)

pub put_stmt-returns-in_ok-put_none_taken-in-None-clause-hidden : goal.put_stmt-returns-in_ok-put_none_taken-in-None-clause-hidden
put_stmt-returns-in_ok-put_none_taken-in-None-clause-hidden g t c =
    let x = g.S.Scope.context c.args.scope.now in
    let view : stmt_view c.args.s.now ≡ Case (expr_view c.in-Case.value) (cases_view c.in-Case.cases) (otherwise_view c.in-Case.otherwise) c.in-Case.pos = ap stmt_view c.in-Case.is ∙ view_case c.in-Case.value c.in-Case.cases c.in-Case.otherwise c.in-Case.pos in
    let h2 = c.in_ok-next-in-Case.ensures.hidden ∙ ap (λ b. next_cases x (cases_view b) c.in_ok-first-in-Case.first) c.as_slice-in-Case.ensures in
    let w = h2 ∙ ap (next_cases x (cases_view c.in-Case.cases)) c.in_ok-first-in-Case.ensures.is in
    w ∙ ap (λ o. next_else x (otherwise_view o) (next_cases x (cases_view c.in-Case.cases) (suc c.args.hidden))) (sym c.in-None.is) ∙ ap (λ v. next_stmt x v c.args.hidden) (sym view)

pub put_stmt-returns-in-Some-clause-code : goal.put_stmt-returns-in-Some-clause-code
put_stmt-returns-in-Some-clause-code g t c =
    let x = g.S.Scope.context c.args.scope.now in
    let view : stmt_view c.args.s.now ≡ Case (expr_view c.in-Case.value) (cases_view c.in-Case.cases) (otherwise_view c.in-Case.otherwise) c.in-Case.pos = ap stmt_view c.in-Case.is ∙ view_case c.in-Case.value c.in-Case.cases c.in-Case.otherwise c.in-Case.pos in
    let f : c.in_ok-end-in-Case.end ≡ end_stmt x (Case (expr_view c.in-Case.value) (cases_view c.in-Case.cases) (otherwise_view c.in-Case.otherwise) c.in-Case.pos) (place_in c.args.code.now) = c.in_ok-end-in-Case.ensures ∙ ap (λ n. end_stmt x (stmt_view c.args.s.now) n) c.place-in-Case.ensures ∙ ap (λ v. end_stmt x v (place_in c.args.code.now)) view in
    let h1 = c.in_ok-next-in-Case.ensures.code ∙ ap (λ b. appended c.put_stored.new.code (cases_code x c.args.hidden (cases_view b) (place_in c.put_stored.new.code) c.in_ok-first-in-Case.first c.args.exit c.in_ok-end-in-Case.end)) c.as_slice-in-Case.ensures in
    let h2 = c.in_ok-next-in-Case.ensures.hidden ∙ ap (λ b. next_cases x (cases_view b) c.in_ok-first-in-Case.first) c.as_slice-in-Case.ensures in
    on_ok_weaker c.put_stmts-in-Some.result (λ h. case_put x (expr_view c.in-Case.value) (cases_view c.in-Case.cases) (otherwise_view c.in-Case.otherwise) c.in-Case.pos c.args.hidden c.in_ok-first-in-Case.first c.in_ok-next-in-Case.next c.args.exit c.in_ok-end-in-Case.end c.args.code.now c.put_stored.new.code c.put_cases.new.code c.put_stmts-in-Some.new.code f c.in_ok-put_stored-in-Case.ensures c.in_ok-first-in-Case.ensures.is h1 h2 (h ∙ ap (λ b. appended c.put_cases.new.code (stmts_code x (stmts_view b) (place_in c.put_cases.new.code) c.in_ok-next-in-Case.next c.args.exit)) c.as_slice-in-Some.ensures ∙ ap (λ o. appended c.put_cases.new.code (else_code x trap.NoCase c.in-Case.pos (otherwise_view o) (place_in c.put_cases.new.code) c.in_ok-next-in-Case.next c.args.exit)) (sym c.in-Some.is)) ∙ ap (λ v. appended c.args.code.now (stmt_code x v (place_in c.args.code.now) c.args.hidden c.args.exit)) (sym view)) c.put_stmts-in-Some.ensures.code

pub put_stmt-returns-in-Some-clause-hidden : goal.put_stmt-returns-in-Some-clause-hidden
put_stmt-returns-in-Some-clause-hidden g t c =
    let x = g.S.Scope.context c.args.scope.now in
    let view : stmt_view c.args.s.now ≡ Case (expr_view c.in-Case.value) (cases_view c.in-Case.cases) (otherwise_view c.in-Case.otherwise) c.in-Case.pos = ap stmt_view c.in-Case.is ∙ view_case c.in-Case.value c.in-Case.cases c.in-Case.otherwise c.in-Case.pos in
    let h2 = c.in_ok-next-in-Case.ensures.hidden ∙ ap (λ b. next_cases x (cases_view b) c.in_ok-first-in-Case.first) c.as_slice-in-Case.ensures in
    let w = h2 ∙ ap (next_cases x (cases_view c.in-Case.cases)) c.in_ok-first-in-Case.ensures.is in
    IfOk-weaker c.put_stmts-in-Some.result (λ n. n ≡ next_stmts x (stmts_view c.as_slice-in-Some.result.now) c.in_ok-next-in-Case.next) (λ n. n ≡ next_stmt x (stmt_view c.args.s.now) c.args.hidden) (λ n h. h ∙ ap (λ b. next_stmts x (stmts_view b) c.in_ok-next-in-Case.next) c.as_slice-in-Some.ensures ∙ ap (next_stmts x (stmts_view c.in-Some.body)) w ∙ ap (λ o. next_else x (otherwise_view o) (next_cases x (cases_view c.in-Case.cases) (suc c.args.hidden))) (sym c.in-Some.is) ∙ ap (λ v. next_stmt x v c.args.hidden) (sym view)) c.put_stmts-in-Some.ensures.hidden

pub put_stmt-returns-in_ok-aim-in-While-clause-code : goal.put_stmt-returns-in_ok-aim-in-While-clause-code
put_stmt-returns-in_ok-aim-in-While-clause-code g t c =
    let x = g.S.Scope.context c.args.scope.now in
    let view = ap stmt_view c.in-While.is ∙ view_while c.in-While.test c.in-While.body c.in-While.pos in
    while_put x (expr_view c.in-While.test) (stmts_view c.in-While.body) c.in-While.pos c.args.hidden c.args.exit c.args.code.now c.put_expr-in-While.new.code c.put_jump.new.code c.put_stmts-in-While.new.code c.put_jump_back.new.code c.aim.new.self c.place-start.result c.place-over.result
    c.place-start.ensures c.in_ok-put_expr-in-While.ensures c.place-over.ensures c.in_ok-put_jump-in-While.ensures
    (c.in_ok-next-in-While.ensures.code ∙ ap (λ b. appended c.put_jump.new.code (stmts_code x (stmts_view b) (place_in c.put_jump.new.code) c.args.hidden c.args.exit)) c.as_slice-in-While.ensures)
    c.in_ok-put_jump_back-in-While.ensures c.in_ok-aim-in-While.ensures ∙ ap (λ v. appended c.args.code.now (stmt_code x v (place_in c.args.code.now) c.args.hidden c.args.exit)) (sym view)

pub put_stmt-returns-in_ok-aim-in-While-clause-hidden : goal.put_stmt-returns-in_ok-aim-in-While-clause-hidden
put_stmt-returns-in_ok-aim-in-While-clause-hidden g t c =
    let x = g.S.Scope.context c.args.scope.now in
    let view = ap stmt_view c.in-While.is ∙ view_while c.in-While.test c.in-While.body c.in-While.pos in
    c.in_ok-next-in-While.ensures.hidden ∙ ap (λ b. next_stmts x (stmts_view b) c.args.hidden) c.as_slice-in-While.ensures ∙ ap (λ v. next_stmt x v c.args.hidden) (sym view)

pub put_stmt-returns-in_ok-put_jump_back-in-Repeat-clause-code : goal.put_stmt-returns-in_ok-put_jump_back-in-Repeat-clause-code
put_stmt-returns-in_ok-put_jump_back-in-Repeat-clause-code g t c =
    let x = g.S.Scope.context c.args.scope.now in
    let view = ap stmt_view c.in-Repeat.is ∙ view_repeat c.in-Repeat.body c.in-Repeat.test c.in-Repeat.pos in
    repeat_put x (stmts_view c.in-Repeat.body) (expr_view c.in-Repeat.test) c.in-Repeat.pos c.args.hidden c.args.exit c.args.code.now c.put_stmts-in-Repeat.new.code c.put_expr-in-Repeat.new.code c.put_jump_back-in-Repeat.new.code c.place-start-in-Repeat.result
    c.place-start-in-Repeat.ensures
    (c.in_ok-next-in-Repeat.ensures.code ∙ ap (λ b. appended c.args.code.now (stmts_code x (stmts_view b) (place_in c.args.code.now) c.args.hidden c.args.exit)) c.as_slice-in-Repeat.ensures)
    c.in_ok-put_expr-in-Repeat.ensures c.in_ok-put_jump_back-in-Repeat.ensures ∙ ap (λ v. appended c.args.code.now (stmt_code x v (place_in c.args.code.now) c.args.hidden c.args.exit)) (sym view)

pub put_stmt-returns-in_ok-put_jump_back-in-Repeat-clause-hidden : goal.put_stmt-returns-in_ok-put_jump_back-in-Repeat-clause-hidden
put_stmt-returns-in_ok-put_jump_back-in-Repeat-clause-hidden g t c =
    let x = g.S.Scope.context c.args.scope.now in
    let view = ap stmt_view c.in-Repeat.is ∙ view_repeat c.in-Repeat.body c.in-Repeat.test c.in-Repeat.pos in
    c.in_ok-next-in-Repeat.ensures.hidden ∙ ap (λ b. next_stmts x (stmts_view b) c.args.hidden) c.as_slice-in-Repeat.ensures ∙ ap (λ v. next_stmt x v c.args.hidden) (sym view)

pub put_stmt-returns-in_ok-put_jump_back-in-Loop-clause-code : goal.put_stmt-returns-in_ok-put_jump_back-in-Loop-clause-code
put_stmt-returns-in_ok-put_jump_back-in-Loop-clause-code g t c =
    let x = g.S.Scope.context c.args.scope.now in
    let view : stmt_view c.args.s.now ≡ Loop (stmts_view c.in-Loop.body) c.in-Loop.pos = ap stmt_view c.in-Loop.is ∙ view_loop c.in-Loop.body c.in-Loop.pos in
    let f : c.in_ok-end-in-Loop.end ≡ end_stmt x (Loop (stmts_view c.in-Loop.body) c.in-Loop.pos) (place_in c.args.code.now) = c.in_ok-end-in-Loop.ensures ∙ ap (λ n. end_stmt x (stmt_view c.args.s.now) n) c.place-start-in-Loop.ensures ∙ ap (λ v. end_stmt x v (place_in c.args.code.now)) view in
    loop_put x (stmts_view c.in-Loop.body) c.in-Loop.pos c.args.hidden c.args.exit c.args.code.now c.put_stmts-in-Loop.new.code c.put_jump_back-in-Loop.new.code c.place-start-in-Loop.result c.in_ok-end-in-Loop.end
    c.place-start-in-Loop.ensures f
    (c.in_ok-next-in-Loop.ensures.code ∙ ap (λ b. appended c.args.code.now (stmts_code x (stmts_view b) (place_in c.args.code.now) c.args.hidden c.in_ok-end-in-Loop.end)) c.as_slice-in-Loop.ensures)
    c.in_ok-put_jump_back-in-Loop.ensures ∙ ap (λ v. appended c.args.code.now (stmt_code x v (place_in c.args.code.now) c.args.hidden c.args.exit)) (sym view)

pub put_stmt-returns-in_ok-put_jump_back-in-Loop-clause-hidden : goal.put_stmt-returns-in_ok-put_jump_back-in-Loop-clause-hidden
put_stmt-returns-in_ok-put_jump_back-in-Loop-clause-hidden g t c =
    let x = g.S.Scope.context c.args.scope.now in
    let view : stmt_view c.args.s.now ≡ Loop (stmts_view c.in-Loop.body) c.in-Loop.pos = ap stmt_view c.in-Loop.is ∙ view_loop c.in-Loop.body c.in-Loop.pos in
    c.in_ok-next-in-Loop.ensures.hidden ∙ ap (λ b. next_stmts x (stmts_view b) c.args.hidden) c.as_slice-in-Loop.ensures ∙ ap (λ v. next_stmt x v c.args.hidden) (sym view)

pub put_stmt-returns-in_ok-aim-in-For-clause-code : goal.put_stmt-returns-in_ok-aim-in-For-clause-code
put_stmt-returns-in_ok-aim-in-For-clause-code g t c =
    let x = g.S.Scope.context c.args.scope.now in
    let view = ap stmt_view c.in-For.is ∙ view_for c.in-For.variable c.in-For.width c.in-For.start c.in-For.end c.in-For.step c.in-For.body c.in-For.pos in
    for_put x c.in-For.variable c.in-For.width (expr_view c.in-For.start) (expr_view c.in-For.end) c.in-For.step (stmts_view c.in-For.body) c.in-For.pos c.args.hidden c.in_ok-first-in-For.first c.args.exit c.args.code.now c.put_stored-in-For.new.code c.put_start.new.code c.put_for_test.new.code c.put_jump-in-For.new.code c.put_stmts-in-For.new.code c.put_for_step.new.code c.aim-in-For.new.self c.place-again.result c.place-over-in-For.result
    c.in_ok-put_stored-in-For.ensures c.in_ok-put_start-in-For.ensures c.place-again.ensures c.in_ok-put_for_test-in-For.ensures c.place-over-in-For.ensures c.in_ok-put_jump-in-For.ensures c.in_ok-first-in-For.ensures.is
    (c.in_ok-next-in-For.ensures.code ∙ ap (λ b. appended c.put_jump-in-For.new.code (stmts_code x (stmts_view b) (place_in c.put_jump-in-For.new.code) c.in_ok-first-in-For.first c.args.exit)) c.as_slice-in-For.ensures)
    c.in_ok-put_for_step-in-For.ensures c.in_ok-aim-in-For.ensures ∙ ap (λ v. appended c.args.code.now (stmt_code x v (place_in c.args.code.now) c.args.hidden c.args.exit)) (sym view)

pub put_stmt-returns-in_ok-aim-in-For-clause-hidden : goal.put_stmt-returns-in_ok-aim-in-For-clause-hidden
put_stmt-returns-in_ok-aim-in-For-clause-hidden g t c =
    let x = g.S.Scope.context c.args.scope.now in
    let view = ap stmt_view c.in-For.is ∙ view_for c.in-For.variable c.in-For.width c.in-For.start c.in-For.end c.in-For.step c.in-For.body c.in-For.pos in
    c.in_ok-next-in-For.ensures.hidden ∙ ap (λ b. next_stmts x (stmts_view b) c.in_ok-first-in-For.first) c.as_slice-in-For.ensures ∙ ap (next_stmts x (stmts_view c.in-For.body)) c.in_ok-first-in-For.ensures.is ∙ ap (λ v. next_stmt x v c.args.hidden) (sym view)

pub put_stmts-statements-preserved : goal.put_stmts-statements-preserved
put_stmts-statements-preserved g t c =
    let x = g.S.Scope.context c.args.scope.now in
    let h = subst (λ y. c.put_stmt.new.code ≡ appended c.statements.code (stmt_code x (stmt_view y) (place_in c.statements.code) c.statements.next c.args.exit)) c.s-item.is c.in_ok-next.ensures.code in
    let e = subst (λ y. c.in_ok-next.next ≡ next_stmt x (stmt_view y) c.statements.next) c.s-item.is c.in_ok-next.ensures.hidden in (
      stmts_turn x c.args.body.now c.statements.s-index c.s-item.result c.statements.next c.in_ok-next.next c.args.exit c.statements.code c.put_stmt.new.code _ c.statements-test.true h e c.statements.invariant.0,
      hidden_turn x c.args.body.now c.statements.s-index c.s-item.result c.statements.next c.in_ok-next.next _ c.statements-test.true e c.statements.invariant.1,
    )

pub put_stmts-returns-clause-code : goal.put_stmts-returns-clause-code
put_stmts-returns-clause-code g t c =
    stmts_over (g.S.Scope.context c.args.scope.now) c.args.body.now c.statements.s-index c.statements.next c.args.exit c.statements.code _ c.statements-test.false c.statements.invariant.0

pub put_stmts-returns-clause-hidden : goal.put_stmts-returns-clause-hidden
put_stmts-returns-clause-hidden g t c =
    hidden_over (g.S.Scope.context c.args.scope.now) c.args.body.now c.statements.s-index c.statements.next _ c.statements-test.false c.statements.invariant.1

pub put_branches-branches-preserved : goal.put_branches-branches-preserved
put_branches-branches-preserved g t c =
    let x = g.S.Scope.context c.args.scope.now in
    let h = subst (λ y. c.put_branch.new.code ≡ appended c.branches.code (branches_code x (Branch (expr_view y.test) (stmts_view y.body) NoBranch) (place_in c.branches.code) c.branches.next c.args.exit c.args.end)) c.branch-item.is c.in_ok-next.ensures.code in
    let e = subst (λ y. c.in_ok-next.next ≡ next_stmts x (stmts_view y.body) c.branches.next) c.branch-item.is c.in_ok-next.ensures.hidden in (
      branches_turn x c.args.branches.now c.branches.branch-index c.branch-item.result c.branches.next c.in_ok-next.next c.args.exit c.args.end c.branches.code c.put_branch.new.code _ c.branches-test.true h e c.branches.invariant.0,
      branches_next x c.args.branches.now c.branches.branch-index c.branch-item.result c.branches.next c.in_ok-next.next _ c.branches-test.true e c.branches.invariant.1,
    )

pub put_branches-returns-clause-code : goal.put_branches-returns-clause-code
put_branches-returns-clause-code g t c =
    branches_over (g.S.Scope.context c.args.scope.now) c.args.branches.now c.branches.branch-index c.branches.next c.args.exit c.args.end c.branches.code _ c.branches-test.false c.branches.invariant.0

pub put_branches-returns-clause-hidden : goal.put_branches-returns-clause-hidden
put_branches-returns-clause-hidden g t c =
    branches_next_over (g.S.Scope.context c.args.scope.now) c.args.branches.now c.branches.branch-index c.branches.next _ c.branches-test.false c.branches.invariant.1

pub put_cases-cases-preserved : goal.put_cases-cases-preserved
put_cases-cases-preserved g t c =
    let x = g.S.Scope.context c.args.scope.now in
    let h = subst (λ y. c.put_case.new.code ≡ appended c.cases.code (cases_code x c.args.word (OneCase y.labels (stmts_view y.body) NoCase) (place_in c.cases.code) c.cases.next c.args.exit c.args.end)) c.labelled-item.is c.in_ok-next.ensures.code in
    let e = subst (λ y. c.in_ok-next.next ≡ next_stmts x (stmts_view y.body) c.cases.next) c.labelled-item.is c.in_ok-next.ensures.hidden in (
      cases_turn x c.args.word c.args.cases.now c.cases.labelled-index c.labelled-item.result c.cases.next c.in_ok-next.next c.args.exit c.args.end c.cases.code c.put_case.new.code _ c.cases-test.true h e c.cases.invariant.0,
      cases_next x c.args.cases.now c.cases.labelled-index c.labelled-item.result c.cases.next c.in_ok-next.next _ c.cases-test.true e c.cases.invariant.1,
    )

pub put_cases-returns-clause-code : goal.put_cases-returns-clause-code
put_cases-returns-clause-code g t c =
    cases_over (g.S.Scope.context c.args.scope.now) c.args.word c.args.cases.now c.cases.labelled-index c.cases.next c.args.exit c.args.end c.cases.code _ c.cases-test.false c.cases.invariant.0

pub put_cases-returns-clause-hidden : goal.put_cases-returns-clause-hidden
put_cases-returns-clause-hidden g t c =
    cases_next_over (g.S.Scope.context c.args.scope.now) c.args.cases.now c.cases.labelled-index c.cases.next _ c.cases-test.false c.cases.invariant.1

pub put_branch-returns-clause-code : goal.put_branch-returns-clause-code
put_branch-returns-clause-code g t c =
    let x = g.S.Scope.context c.args.scope.now in
    branch_put x (expr_view c.args.branch.now.test) (stmts_view c.args.branch.now.body) c.args.hidden c.args.exit c.args.end c.args.code.now c.put_expr.new.code c.put_jump.new.code c.put_stmts.new.code c.put_jump-2.new.code c.aim.new.self c.place-over.result
    c.in_ok-put_expr.ensures c.place-over.ensures c.in_ok-put_jump.ensures
    (c.in_ok-next.ensures.code ∙ ap (λ b. appended c.put_jump.new.code (stmts_code x (stmts_view b) (place_in c.put_jump.new.code) c.args.hidden c.args.exit)) c.as_slice.ensures)
    c.in_ok-put_jump-2.ensures c.in_ok-aim.ensures

pub put_branch-returns-clause-hidden : goal.put_branch-returns-clause-hidden
put_branch-returns-clause-hidden g t c =
    let x = g.S.Scope.context c.args.scope.now in
    c.in_ok-next.ensures.hidden ∙ ap (λ b. next_stmts x (stmts_view b) c.args.hidden) c.as_slice.ensures

pub put_case-returns-clause-code : goal.put_case-returns-clause-code
put_case-returns-clause-code g t c =
    let x = g.S.Scope.context c.args.scope.now in
    let labels = c.args.labelled.now.labels in
    let k = labels_behind x labels (place_in c.args.code.now) in
    let f : c.in_ok-body.body ≡ suc (end_labels x labels (place_in c.args.code.now)) = omega (arith, k, c.in_ok-body.ensures, c.place.ensures, c.len.ensures) in
    case_one_put x c.args.word labels (stmts_view c.args.labelled.now.body) c.args.hidden c.args.exit c.args.end c.in_ok-body.body c.args.code.now c.put_labels.new.code c.put_jump.new.code c.put_stmts.new.code c.put_jump-2.new.code c.aim.new.self c.place-over.result
    f (c.in_ok-put_labels.ensures ∙ ap (λ l. appended c.args.code.now (labels_code x c.args.word l (place_in c.args.code.now) c.in_ok-body.body)) c.as_slice.ensures) c.place-over.ensures c.in_ok-put_jump.ensures
    (c.in_ok-next.ensures.code ∙ ap (λ b. appended c.put_jump.new.code (stmts_code x (stmts_view b) (place_in c.put_jump.new.code) c.args.hidden c.args.exit)) c.as_slice-2.ensures)
    c.in_ok-put_jump-2.ensures c.in_ok-aim.ensures

pub put_case-returns-clause-hidden : goal.put_case-returns-clause-hidden
put_case-returns-clause-hidden g t c =
    let x = g.S.Scope.context c.args.scope.now in
    c.in_ok-next.ensures.hidden ∙ ap (λ b. next_stmts x (stmts_view b) c.args.hidden) c.as_slice-2.ensures
