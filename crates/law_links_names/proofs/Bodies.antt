-- Statements of the grammar name what their notes mention, by induction over their trees.
use Rattle.std.proofs.Common.{List, [], ◌∷◌, map, Option, Some, None, sym, subst}
use Rattle.std.specs.List.{AllByRecursion}
use Rattle.ob_tree.specs.declared.expr.Expr.{Expr}
use Rattle.ob_tree.specs.declared.stmt.Stmt.{Stmt, roll-Stmt, map-Stmt}
use Rattle.ob_tree.specs.declared.stmt.Branch.{Branch, roll-Branch, map-Branch}
use Rattle.ob_tree.specs.declared.stmt.Case.{Case, roll-Case, map-Case}
use Rattle.ob_tree.specs.declared.stmt.GuardedBranch.{GuardedBranch, roll-GuardedBranch, map-GuardedBranch}
use Rattle.ob_tree.specs.declared.stmt.Stmt.TheOpen.{Stmt-F, Branch-F, Case-F, GuardedBranch-F}
use Rattle.ob_tree.specs.declared.stmt.Stmt.TheFolds.{ind-Stmt, fold-roll-Stmt, fold-roll-Branch, fold-roll-Case, fold-roll-GuardedBranch}
use Rattle.ob_rules.specs.Expressions.{phrase_of, named_of}
use Rattle.ob_rules.specs.Statements.{Judging, Conditional, Labelled, GuardedBody, stmt_rule, branch_rule, case_rule, guarded_rule, judging, conditional_of, labelled_of, guarded_of, phrase_if}
use Rattle.law_links_names.proofs.Setting.{Setting}
use Rattle.law_links_names.proofs.Calls.{PhraseOk}
use Rattle.law_links_names.proofs.Expressions.{expr_ok, designator_named}
use Rattle.law_links_names.proofs.Statements.{JudgingOk, AreJudging, ConditionalOk, assignment_keeps, call_keeps, if_keeps, while_keeps, repeat_keeps, loop_keeps, case_keeps, for_keeps, exit_keeps, return_keeps, with_keeps}
use Rattle.law_lists.proofs.Lists.{IfThere}

module _ (k : Setting) where
  abbrev PS : Stmt → Type 0
  PS x = JudgingOk k (judging x)

  abbrev PB : Branch → Type 0
  PB x = ConditionalOk k (conditional_of x)

  abbrev PC : Case → Type 0
  PC x = AreJudging k (labelled_of x).body

  abbrev PG : GuardedBranch → Type 0
  PG x = AreJudging k (guarded_of x).body

  abbrev SS : Type 0
  SS = (x : Stmt) × PS x

  abbrev SB : Type 0
  SB = (x : Branch) × PB x

  abbrev SC : Type 0
  SC = (x : Case) × PC x

  abbrev SG : Type 0
  SG = (x : GuardedBranch) × PG x

  bodies_are : (xs : List SS) → AreJudging k (map judging (map (λ (x : SS). x.0) xs))
  bodies_are [] = tt
  bodies_are (x ∷ xs) = (x.1, bodies_are xs)

  branches_are : (xs : List SB) → AllByRecursion (ConditionalOk k) (map conditional_of (map (λ (x : SB). x.0) xs))
  branches_are [] = tt
  branches_are (x ∷ xs) = (x.1, branches_are xs)

  cases_are : (xs : List SC) → AllByRecursion (λ (c : Labelled). AreJudging k c.body) (map labelled_of (map (λ (x : SC). x.0) xs))
  cases_are [] = tt
  cases_are (x ∷ xs) = (x.1, cases_are xs)

  guarded_are : (xs : List SG) → AllByRecursion (λ (b : GuardedBody). AreJudging k b.body) (map guarded_of (map (λ (x : SG). x.0) xs))
  guarded_are [] = tt
  guarded_are (x ∷ xs) = (x.1, guarded_are xs)

  phrase_there : (o : Option Expr) → IfThere (PhraseOk k) (phrase_if o)
  phrase_there None = tt
  phrase_there (Some x) = expr_ok k x

  by_layer : (x : Stmt-F Stmt Branch Case GuardedBranch) → JudgingOk k (stmt_rule (map-Stmt Stmt Branch Case GuardedBranch Judging Conditional Labelled GuardedBody judging conditional_of labelled_of guarded_of x)) → PS (roll-Stmt x)
  by_layer x h = subst (JudgingOk k) (sym (fold-roll-Stmt Judging Conditional Labelled GuardedBody stmt_rule branch_rule case_rule guarded_rule x)) h

  stmt_cases : (y : Stmt-F SS SB SC SG) → PS (roll-Stmt (map-Stmt SS SB SC SG Stmt Branch Case GuardedBranch (λ x. x.0) (λ x. x.0) (λ x. x.0) (λ x. x.0) y))
  stmt_cases Stmt-F.Empty = by_layer Stmt-F.Empty (λ u s n. tt)
  stmt_cases (Stmt-F.Call d) = by_layer (Stmt-F.Call d) (λ u s. call_keeps k (named_of d) (designator_named k d) u s)
  stmt_cases (Stmt-F.Assign d at x) = by_layer (Stmt-F.Assign d at x) (λ u s. assignment_keeps k u s (named_of d) at (phrase_of x) (designator_named k d) (expr_ok k x))
  stmt_cases (Stmt-F.If at bs None) = by_layer (Stmt-F.If at (map (λ (x : SB). x.0) bs) None) (λ u s. if_keeps k (map conditional_of (map (λ (x : SB). x.0) bs)) None (branches_are bs) tt u s)
  stmt_cases (Stmt-F.If at bs (Some o)) = by_layer (Stmt-F.If at (map (λ (x : SB). x.0) bs) (Some (map (λ (x : SS). x.0) o))) (λ u s. if_keeps k (map conditional_of (map (λ (x : SB). x.0) bs)) (Some (map judging (map (λ (x : SS). x.0) o))) (branches_are bs) (bodies_are o) u s)
  stmt_cases (Stmt-F.Case at x cs None) = by_layer (Stmt-F.Case at x (map (λ (x : SC). x.0) cs) None) (λ u s. case_keeps k u s at (phrase_of x) (map labelled_of (map (λ (x : SC). x.0) cs)) None (expr_ok k x) (cases_are cs) tt)
  stmt_cases (Stmt-F.Case at x cs (Some o)) = by_layer (Stmt-F.Case at x (map (λ (x : SC). x.0) cs) (Some (map (λ (x : SS). x.0) o))) (λ u s. case_keeps k u s at (phrase_of x) (map labelled_of (map (λ (x : SC). x.0) cs)) (Some (map judging (map (λ (x : SS). x.0) o))) (expr_ok k x) (cases_are cs) (bodies_are o))
  stmt_cases (Stmt-F.While at x body) = by_layer (Stmt-F.While at x (map (λ (x : SS). x.0) body)) (λ u s. while_keeps k at (phrase_of x) (map judging (map (λ (x : SS). x.0) body)) (expr_ok k x) (bodies_are body) u s)
  stmt_cases (Stmt-F.Repeat at body x) = by_layer (Stmt-F.Repeat at (map (λ (x : SS). x.0) body) x) (λ u s. repeat_keeps k at (map judging (map (λ (x : SS). x.0) body)) (phrase_of x) (bodies_are body) (expr_ok k x) u s)
  stmt_cases (Stmt-F.For at x a b step body) = by_layer (Stmt-F.For at x a b step (map (λ (x : SS). x.0) body)) (λ u s. for_keeps k u s at x (phrase_of a) (phrase_of b) (phrase_if step) (map judging (map (λ (x : SS). x.0) body)) (expr_ok k a) (expr_ok k b) (bodies_are body))
  stmt_cases (Stmt-F.Loop at body) = by_layer (Stmt-F.Loop at (map (λ (x : SS). x.0) body)) (λ u s. loop_keeps k at (map judging (map (λ (x : SS). x.0) body)) (bodies_are body) u s)
  stmt_cases (Stmt-F.Exit at) = by_layer (Stmt-F.Exit at) (λ u s. exit_keeps k u at)
  stmt_cases (Stmt-F.Return at o) = by_layer (Stmt-F.Return at o) (λ u s. return_keeps k u s at (phrase_if o) (phrase_there o))
  stmt_cases (Stmt-F.With at bs None) = by_layer (Stmt-F.With at (map (λ (x : SG). x.0) bs) None) (λ u s. with_keeps k at (map guarded_of (map (λ (x : SG). x.0) bs)) None (guarded_are bs) tt u s)
  stmt_cases (Stmt-F.With at bs (Some o)) = by_layer (Stmt-F.With at (map (λ (x : SG). x.0) bs) (Some (map (λ (x : SS). x.0) o))) (λ u s. with_keeps k at (map guarded_of (map (λ (x : SG). x.0) bs)) (Some (map judging (map (λ (x : SS). x.0) o))) (guarded_are bs) (bodies_are o) u s)

  branch_cases : (y : Branch-F SS SB SC SG) → PB (roll-Branch (map-Branch SS SB SC SG Stmt Branch Case GuardedBranch (λ x. x.0) (λ x. x.0) (λ x. x.0) (λ x. x.0) y))
  branch_cases y =
      let x = map-Branch SS SB SC SG Stmt Branch Case GuardedBranch (λ x. x.0) (λ x. x.0) (λ x. x.0) (λ x. x.0) y in
      subst (ConditionalOk k) (sym (fold-roll-Branch Judging Conditional Labelled GuardedBody stmt_rule branch_rule case_rule guarded_rule x)) (expr_ok k y.test, bodies_are y.body)

  case_cases : (y : Case-F SS SB SC SG) → PC (roll-Case (map-Case SS SB SC SG Stmt Branch Case GuardedBranch (λ x. x.0) (λ x. x.0) (λ x. x.0) (λ x. x.0) y))
  case_cases y =
      let x = map-Case SS SB SC SG Stmt Branch Case GuardedBranch (λ x. x.0) (λ x. x.0) (λ x. x.0) (λ x. x.0) y in
      subst (λ (c : Labelled). AreJudging k c.body) (sym (fold-roll-Case Judging Conditional Labelled GuardedBody stmt_rule branch_rule case_rule guarded_rule x)) (bodies_are y.body)

  guarded_cases : (y : GuardedBranch-F SS SB SC SG) → PG (roll-GuardedBranch (map-GuardedBranch SS SB SC SG Stmt Branch Case GuardedBranch (λ x. x.0) (λ x. x.0) (λ x. x.0) (λ x. x.0) y))
  guarded_cases y =
      let x = map-GuardedBranch SS SB SC SG Stmt Branch Case GuardedBranch (λ x. x.0) (λ x. x.0) (λ x. x.0) (λ x. x.0) y in
      subst (λ (b : GuardedBody). AreJudging k b.body) (sym (fold-roll-GuardedBranch Judging Conditional Labelled GuardedBody stmt_rule branch_rule case_rule guarded_rule x)) (bodies_are y.body)

  stmt_ok : (x : Stmt) → PS x
  stmt_ok = ind-Stmt PS PB PC PG (λ x y is. subst (λ z. PS (roll-Stmt z)) is (stmt_cases y)) (λ x y is. subst (λ z. PB (roll-Branch z)) is (branch_cases y)) (λ x y is. subst (λ z. PC (roll-Case z)) is (case_cases y)) (λ x y is. subst (λ z. PG (roll-GuardedBranch z)) is (guarded_cases y))

  pub stmts_ok : (xs : List Stmt) → AreJudging k (map judging xs)
  stmts_ok [] = tt
  stmts_ok (x ∷ xs) = (stmt_ok x, stmts_ok xs)
