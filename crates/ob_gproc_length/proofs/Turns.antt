-- One part more of a list.
use Rattle.std.specs.Prelude.{map}
use Rattle.std.proofs.Common.{◌≡◌, ◌<◌, ◌≤◌, ℕ, ◌+◌, ◌*◌, List, length, drop, get_or, Option, sym, ap, ◌∙◌, arith}
use Rattle.std.proofs.lemmas.List.{drop_more, drop_all}
use Rattle.ob_tree.specs.declared.names.QName.{QName}
use Rattle.ob_types.specs.declared.desc.Desc.{Desc}
use Rattle.ob_types.specs.declared.typed.Actual.{Actual}
use Rattle.ob_types.specs.declared.typed.TypedStmt.{TypedStmt}
use Rattle.ob_types.specs.declared.typed.TypedBranch.{TypedBranch}
use Rattle.ob_types.specs.declared.typed.TypedCase.{TypedCase}
use Rattle.ob_types.specs.declared.typed.TypedProcedure.{TypedProcedure}
use Rattle.ob_types.specs.TypedView.{expr_view, stmt_view, stmts_view, branches_view, cases_view, actuals_view, procedure_view}
use Rattle.ob_scheme.proofs.Actuals.{view_actuals}
use Rattle.ob_scheme.proofs.Views.{view_branches, view_cases}
use Rattle.ob_scheme.specs.declared.want.Want.TheVariants as want
use Rattle.ob_gproc_operands.specs.Nowhere.{passed}
use Rattle.ob_gproc_length.specs.Lengths.{capped, expr_lines, actuals_lines, stmt_lines, stmts_lines, branches_lines, cases_lines}
use Rattle.ob_gproc_length.specs.Whole.{procedures_lines}

-- the lines so far, a part, and the rest
turn : (lines a rest x lines' whole : ℕ) → x ≡ capped a → lines' ≡ capped (lines + x) → capped (lines + (a + rest)) ≡ whole → capped (lines' + rest) ≡ whole
turn lines a rest x lines' whole h k inv = omega (arith, h, k, inv)

-- no rest
last : (lines rest whole : ℕ) → rest ≡ 0 → lines ≤ 262145 → capped (lines + rest) ≡ whole → lines ≡ whole
last lines rest whole h l inv = omega (arith, h, l, inv)

module _ (types : QName → Option Desc) where
  pub actuals_turn : (es : List Actual) (i : ℕ) (d : Actual) (lines x lines' whole : ℕ) → i < length es
      → x ≡ capped (expr_lines types (passed (get_or es i d).passing) (expr_view (get_or es i d).value)) → lines' ≡ capped (lines + x)
      → capped (lines + actuals_lines types (actuals_view (drop i es))) ≡ whole → capped (lines' + actuals_lines types (actuals_view (drop (i + 1) es))) ≡ whole
  actuals_turn es i d lines x lines' whole lt h k inv =
      let y = get_or es i d in
      turn lines (expr_lines types (passed y.passing) (expr_view y.value)) (actuals_lines types (actuals_view (drop (i + 1) es))) x lines' whole h k
      (ap (λ l. capped (lines + actuals_lines types l)) (sym (ap actuals_view (drop_more es i d lt) ∙ view_actuals y (drop (i + 1) es))) ∙ inv)

  pub actuals_over : (es : List Actual) (i lines whole : ℕ) → length es ≤ i → lines ≤ 262145 → capped (lines + actuals_lines types (actuals_view (drop i es))) ≡ whole → lines ≡ whole
  actuals_over es i lines whole past = last lines (actuals_lines types (actuals_view (drop i es))) whole (ap (λ l. actuals_lines types (actuals_view l)) (drop_all i es past))

  pub stmts_turn : (es : List TypedStmt) (i : ℕ) (d : TypedStmt) (lines x lines' whole : ℕ) → i < length es
      → x ≡ capped (stmt_lines types (stmt_view (get_or es i d))) → lines' ≡ capped (lines + x)
      → capped (lines + stmts_lines types (stmts_view (drop i es))) ≡ whole → capped (lines' + stmts_lines types (stmts_view (drop (i + 1) es))) ≡ whole
  stmts_turn es i d lines x lines' whole lt h k inv =
      turn lines (stmt_lines types (stmt_view (get_or es i d))) (stmts_lines types (stmts_view (drop (i + 1) es))) x lines' whole h k
      (ap (λ l. capped (lines + stmts_lines types (stmts_view l))) (sym (drop_more es i d lt)) ∙ inv)

  pub stmts_over : (es : List TypedStmt) (i lines whole : ℕ) → length es ≤ i → lines ≤ 262145 → capped (lines + stmts_lines types (stmts_view (drop i es))) ≡ whole → lines ≡ whole
  stmts_over es i lines whole past = last lines (stmts_lines types (stmts_view (drop i es))) whole (ap (λ l. stmts_lines types (stmts_view l)) (drop_all i es past))

  pub branches_turn : (es : List TypedBranch) (i : ℕ) (d : TypedBranch) (lines x lines' whole : ℕ) → i < length es
      → x ≡ capped (expr_lines types want.Value (expr_view (get_or es i d).test) + (stmts_lines types (stmts_view (get_or es i d).body) + 2)) → lines' ≡ capped (lines + x)
      → capped (lines + branches_lines types (branches_view (drop i es))) ≡ whole → capped (lines' + branches_lines types (branches_view (drop (i + 1) es))) ≡ whole
  branches_turn es i d lines x lines' whole lt h k inv =
      let y = get_or es i d in
      turn lines (expr_lines types want.Value (expr_view y.test) + (stmts_lines types (stmts_view y.body) + 2)) (branches_lines types (branches_view (drop (i + 1) es))) x lines' whole h k
      (ap (λ l. capped (lines + branches_lines types l)) (sym (ap branches_view (drop_more es i d lt) ∙ view_branches y (drop (i + 1) es))) ∙ inv)

  pub branches_over : (es : List TypedBranch) (i lines whole : ℕ) → length es ≤ i → lines ≤ 262145 → capped (lines + branches_lines types (branches_view (drop i es))) ≡ whole → lines ≡ whole
  branches_over es i lines whole past = last lines (branches_lines types (branches_view (drop i es))) whole (ap (λ l. branches_lines types (branches_view l)) (drop_all i es past))

  pub cases_turn : (es : List TypedCase) (i : ℕ) (d : TypedCase) (lines x lines' whole : ℕ) → i < length es
      → x ≡ capped (11 * length (get_or es i d).labels + (stmts_lines types (stmts_view (get_or es i d).body) + 2)) → lines' ≡ capped (lines + x)
      → capped (lines + cases_lines types (cases_view (drop i es))) ≡ whole → capped (lines' + cases_lines types (cases_view (drop (i + 1) es))) ≡ whole
  cases_turn es i d lines x lines' whole lt h k inv =
      let y = get_or es i d in
      turn lines (11 * length y.labels + (stmts_lines types (stmts_view y.body) + 2)) (cases_lines types (cases_view (drop (i + 1) es))) x lines' whole h k
      (ap (λ l. capped (lines + cases_lines types l)) (sym (ap cases_view (drop_more es i d lt) ∙ view_cases y (drop (i + 1) es))) ∙ inv)

  pub cases_over : (es : List TypedCase) (i lines whole : ℕ) → length es ≤ i → lines ≤ 262145 → capped (lines + cases_lines types (cases_view (drop i es))) ≡ whole → lines ≡ whole
  cases_over es i lines whole past = last lines (cases_lines types (cases_view (drop i es))) whole (ap (λ l. cases_lines types (cases_view l)) (drop_all i es past))

  pub procedures_turn : (es : List TypedProcedure) (i : ℕ) (d : TypedProcedure) (lines x lines' whole : ℕ) → i < length es
      → x ≡ capped (stmts_lines types (stmts_view (get_or es i d).body) + 1) → lines' ≡ capped (lines + x)
      → capped (lines + procedures_lines types (map procedure_view (drop i es))) ≡ whole → capped (lines' + procedures_lines types (map procedure_view (drop (i + 1) es))) ≡ whole
  procedures_turn es i d lines x lines' whole lt h k inv =
      turn lines (stmts_lines types (stmts_view (get_or es i d).body) + 1) (procedures_lines types (map procedure_view (drop (i + 1) es))) x lines' whole h k
      (ap (λ l. capped (lines + procedures_lines types (map procedure_view l))) (sym (drop_more es i d lt)) ∙ inv)

  pub procedures_over : (es : List TypedProcedure) (i lines whole : ℕ) → length es ≤ i → lines ≤ 262145 → capped (lines + procedures_lines types (map procedure_view (drop i es))) ≡ whole → lines ≡ whole
  procedures_over es i lines whole past = last lines (procedures_lines types (map procedure_view (drop i es))) whole (ap (λ l. procedures_lines types (map procedure_view l)) (drop_all i es past))
