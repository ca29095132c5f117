-- Statements with other interfaces around, by induction over the tree of the grammar.
use Rattle.std.proofs.Common.{◌≡◌, refl, sym, subst, List, [], ◌∷◌, map, Option, Some, None}
use Rattle.std.specs.List.{AllByRecursion}
use Rattle.ob_tree.specs.declared.names.QName.{QName}
use Rattle.ob_tree.specs.declared.expr.Expr.{Expr}
use Rattle.ob_tree.specs.declared.expr.Element.{Element}
use Rattle.ob_tree.specs.declared.stmt.Stmt.{Stmt, roll-Stmt, map-Stmt}
use Rattle.ob_tree.specs.declared.stmt.Stmt.TheOpen.{Stmt-F, Branch-F, Case-F, GuardedBranch-F}
use Rattle.ob_tree.specs.declared.stmt.Stmt.TheFolds.{ind-Stmt, fold-roll-Stmt, fold-roll-Branch, fold-roll-Case, fold-roll-GuardedBranch}
use Rattle.ob_tree.specs.declared.stmt.Branch.{Branch, roll-Branch, map-Branch}
use Rattle.ob_tree.specs.declared.stmt.Case.{Case, roll-Case, map-Case}
use Rattle.ob_tree.specs.declared.stmt.GuardedBranch.{GuardedBranch, roll-GuardedBranch, map-GuardedBranch}
use Rattle.ob_types.specs.declared.desc.Desc.{Desc}
use Rattle.ob_rules.specs.Names.{Around}
use Rattle.ob_rules.specs.Expressions.{phrase_of, named_of, ranged_of}
use Rattle.ob_rules.specs.Statements.{Judging, Conditional, Labelled, GuardedBody, phrase_if, stmt_rule, branch_rule, case_rule, guarded_rule, judging, conditional_of, labelled_of, guarded_of}
use Rattle.law_local_judged.specs.Said.{StmtIn}
use Rattle.law_local_judged.specs.Followed.{Agrees}
use Rattle.law_local_judged.proofs.Following.{follows_sound}
use Rattle.law_local_judged.proofs.Actuals.{PhraseFollows}
use Rattle.law_local_judged.proofs.Nodes.{RangedFollows, IfFollows as IfPhrase}
use Rattle.law_local_judged.proofs.Expressions.{expr_follows, designator_of_follows, element_of_follows}
use Rattle.law_local_judged.proofs.Bodies.{JudgingFollows, BodyFollows}
use Rattle.law_local_judged.proofs.Simple.{assignment_follows, call_statement_follows, return_follows, exit_follows}
use Rattle.law_local_judged.proofs.Guarding.{if_follows, while_follows, repeat_follows, loop_follows, with_follows}
use Rattle.law_local_judged.proofs.Looping.{LabelledFollows, case_follows, for_follows}

module _ (P : QName → Type 0) where
  abbrev JF : Judging → Type 0
  JF f = JudgingFollows P f

  abbrev BFs : List Judging → Type 0
  BFs fs = BodyFollows P fs

  -- ---- what stands in statements

  ranged_follow : (u : Around) (s : QName → Option Desc) (a : Agrees P u s) (xs : List Element) → AllByRecursion (RangedFollows P u s a) (map ranged_of xs)
  ranged_follow u s a [] = tt
  ranged_follow u s a (x ∷ xs) = (element_of_follows P u s a x, ranged_follow u s a xs)

  phrase_there : (u : Around) (s : QName → Option Desc) (a : Agrees P u s) (o : Option Expr) → IfPhrase P u s a (phrase_if o)
  phrase_there u s a None = tt
  phrase_there u s a (Some x) = expr_follows P u s a x

  abbrev PS : Stmt → Type 0
  PS x = JudgingFollows P (judging x)

  abbrev PB : Branch → Type 0
  PB b = (x : Expr) × (((conditional_of b).test ≡ phrase_of x) × BodyFollows P (conditional_of b).body)

  abbrev PC : Case → Type 0
  PC c = (ls : List Element) × (((labelled_of c).labels ≡ map ranged_of ls) × BodyFollows P (labelled_of c).body)

  abbrev PG : GuardedBranch → Type 0
  PG b = BodyFollows P (guarded_of b).body

  abbrev SS : Type 0
  SS = (x : Stmt) × PS x

  abbrev SB : Type 0
  SB = (x : Branch) × PB x

  abbrev SC : Type 0
  SC = (x : Case) × PC x

  abbrev SG : Type 0
  SG = (x : GuardedBranch) × PG x

  abbrev stmts_in : List SS → List Stmt
  stmts_in xs = map (λ (x : SS). x.0) xs

  abbrev branches_in : List SB → List Branch
  branches_in xs = map (λ (x : SB). x.0) xs

  abbrev cases_in : List SC → List Case
  cases_in xs = map (λ (x : SC). x.0) xs

  abbrev guarded_in : List SG → List GuardedBranch
  guarded_in xs = map (λ (x : SG). x.0) xs

  -- ---- parts in a row

  bodies_follow : (xs : List SS) → BodyFollows P (map judging (stmts_in xs))
  bodies_follow [] = tt
  bodies_follow (x ∷ xs) = (x.1, bodies_follow xs)

  conditionals_follow : (u : Around) (s : QName → Option Desc) (a : Agrees P u s) (bs : List SB) → AllByRecursion (λ b. PhraseFollows P u s a b.test × BodyFollows P b.body) (map conditional_of (branches_in bs))
  conditionals_follow u s a [] = tt
  conditionals_follow u s a (b ∷ bs) = ((subst (PhraseFollows P u s a) (sym b.1.1.0) (expr_follows P u s a b.1.0), b.1.1.1), conditionals_follow u s a bs)

  cases_follow : (u : Around) (s : QName → Option Desc) (a : Agrees P u s) (cs : List SC) → AllByRecursion (LabelledFollows P u s a) (map labelled_of (cases_in cs))
  cases_follow u s a [] = tt
  cases_follow u s a (c ∷ cs) = (record { labels_follow = subst (AllByRecursion (RangedFollows P u s a)) (sym c.1.1.0) (ranged_follow u s a c.1.0); body = c.1.1.1 }, cases_follow u s a cs)

  guarded_follow : (bs : List SG) → AllByRecursion (λ b. BodyFollows P b.body) (map guarded_of (guarded_in bs))
  guarded_follow [] = tt
  guarded_follow (b ∷ bs) = (b.1, guarded_follow bs)

  -- ---- each alternative

  by_layer : (x : Stmt-F Stmt Branch Case GuardedBranch) → JF (stmt_rule (map-Stmt Stmt Branch Case GuardedBranch Judging Conditional Labelled GuardedBody judging conditional_of labelled_of guarded_of x)) → PS (roll-Stmt x)
  by_layer x h = subst JF (sym (fold-roll-Stmt Judging Conditional Labelled GuardedBody stmt_rule branch_rule case_rule guarded_rule x)) h

  stmt_cases : (y : Stmt-F SS SB SC SG) → PS (roll-Stmt (map-Stmt SS SB SC SG Stmt Branch Case GuardedBranch (λ x. x.0) (λ x. x.0) (λ x. x.0) (λ x. x.0) y))
  stmt_cases Stmt-F.Empty = by_layer Stmt-F.Empty (λ u s a. follows_sound P (λ ys. Unit {0}) (AllByRecursion (StmtIn P)) (Unit {0}) [] tt (λ m. tt))
  stmt_cases (Stmt-F.Call d) = by_layer (Stmt-F.Call d) (λ u s a. call_statement_follows P u s a (named_of d) (designator_of_follows P u s a d))
  stmt_cases (Stmt-F.Assign d at x) = by_layer (Stmt-F.Assign d at x) (λ u s a. assignment_follows P u s a (named_of d) at (phrase_of x) (designator_of_follows P u s a d) (expr_follows P u s a x))
  stmt_cases (Stmt-F.If at bs None) = by_layer (Stmt-F.If at (branches_in bs) None) (λ u s a. if_follows P u s a (map conditional_of (branches_in bs)) None (conditionals_follow u s a bs) tt)
  stmt_cases (Stmt-F.If at bs (Some o)) = by_layer (Stmt-F.If at (branches_in bs) (Some (stmts_in o))) (λ u s a. if_follows P u s a (map conditional_of (branches_in bs)) (Some (map judging (stmts_in o))) (conditionals_follow u s a bs) (bodies_follow o))
  stmt_cases (Stmt-F.Case at x cs None) = by_layer (Stmt-F.Case at x (cases_in cs) None) (λ u s a. case_follows P u s a at (phrase_of x) (map labelled_of (cases_in cs)) None (expr_follows P u s a x) (cases_follow u s a cs) tt)
  stmt_cases (Stmt-F.Case at x cs (Some o)) = by_layer (Stmt-F.Case at x (cases_in cs) (Some (stmts_in o))) (λ u s a. case_follows P u s a at (phrase_of x) (map labelled_of (cases_in cs)) (Some (map judging (stmts_in o))) (expr_follows P u s a x) (cases_follow u s a cs) (bodies_follow o))
  stmt_cases (Stmt-F.While at x body) = by_layer (Stmt-F.While at x (stmts_in body)) (λ u s a. while_follows P u s a at (phrase_of x) (map judging (stmts_in body)) (expr_follows P u s a x) (bodies_follow body))
  stmt_cases (Stmt-F.Repeat at body x) = by_layer (Stmt-F.Repeat at (stmts_in body) x) (λ u s a. repeat_follows P u s a at (map judging (stmts_in body)) (phrase_of x) (expr_follows P u s a x) (bodies_follow body))
  stmt_cases (Stmt-F.For at x b c step body) = by_layer (Stmt-F.For at x b c step (stmts_in body)) (λ u s a. for_follows P u s a at x (phrase_of b) (phrase_of c) (phrase_if step) (map judging (stmts_in body)) (expr_follows P u s a b) (expr_follows P u s a c) (phrase_there u s a step) (bodies_follow body))
  stmt_cases (Stmt-F.Loop at body) = by_layer (Stmt-F.Loop at (stmts_in body)) (λ u s a. loop_follows P u s a at (map judging (stmts_in body)) (bodies_follow body))
  stmt_cases (Stmt-F.Exit at) = by_layer (Stmt-F.Exit at) (λ u s a. exit_follows P u s a at)
  stmt_cases (Stmt-F.Return at o) = by_layer (Stmt-F.Return at o) (λ u s a. return_follows P u s a at (phrase_if o) (phrase_there u s a o))
  stmt_cases (Stmt-F.With at bs None) = by_layer (Stmt-F.With at (guarded_in bs) None) (λ u s a. with_follows P u s a at (map guarded_of (guarded_in bs)) None (guarded_follow bs) tt)
  stmt_cases (Stmt-F.With at bs (Some o)) = by_layer (Stmt-F.With at (guarded_in bs) (Some (stmts_in o))) (λ u s a. with_follows P u s a at (map guarded_of (guarded_in bs)) (Some (map judging (stmts_in o))) (guarded_follow bs) (bodies_follow o))

  abbrev Conditions : Conditional → Type 0
  Conditions b = (x : Expr) × ((b.test ≡ phrase_of x) × BodyFollows P b.body)

  abbrev Labels : Labelled → Type 0
  Labels c = (ls : List Element) × ((c.labels ≡ map ranged_of ls) × BodyFollows P c.body)

  branch_cases : (y : Branch-F SS SB SC SG) → PB (roll-Branch (map-Branch SS SB SC SG Stmt Branch Case GuardedBranch (λ x. x.0) (λ x. x.0) (λ x. x.0) (λ x. x.0) y))
  branch_cases y =
      let x = map-Branch SS SB SC SG Stmt Branch Case GuardedBranch (λ x. x.0) (λ x. x.0) (λ x. x.0) (λ x. x.0) y in
      subst Conditions (sym (fold-roll-Branch Judging Conditional Labelled GuardedBody stmt_rule branch_rule case_rule guarded_rule x)) (y.test, (refl, bodies_follow y.body))

  case_cases : (y : Case-F SS SB SC SG) → PC (roll-Case (map-Case SS SB SC SG Stmt Branch Case GuardedBranch (λ x. x.0) (λ x. x.0) (λ x. x.0) (λ x. x.0) y))
  case_cases y =
      let x = map-Case SS SB SC SG Stmt Branch Case GuardedBranch (λ x. x.0) (λ x. x.0) (λ x. x.0) (λ x. x.0) y in
      subst Labels (sym (fold-roll-Case Judging Conditional Labelled GuardedBody stmt_rule branch_rule case_rule guarded_rule x)) (y.labels, (refl, bodies_follow y.body))

  guarded_cases : (y : GuardedBranch-F SS SB SC SG) → PG (roll-GuardedBranch (map-GuardedBranch SS SB SC SG Stmt Branch Case GuardedBranch (λ x. x.0) (λ x. x.0) (λ x. x.0) (λ x. x.0) y))
  guarded_cases y =
      let x = map-GuardedBranch SS SB SC SG Stmt Branch Case GuardedBranch (λ x. x.0) (λ x. x.0) (λ x. x.0) (λ x. x.0) y in
      subst (λ (b : GuardedBody). BodyFollows P b.body) (sym (fold-roll-GuardedBranch Judging Conditional Labelled GuardedBody stmt_rule branch_rule case_rule guarded_rule x)) (bodies_follow y.body)

  -- EACH STATEMENT of the grammar
  pub stmt_follows : (x : Stmt) → PS x
  stmt_follows = ind-Stmt PS PB PC PG (λ x y is. subst (λ z. PS (roll-Stmt z)) is (stmt_cases y)) (λ x y is. subst (λ z. PB (roll-Branch z)) is (branch_cases y)) (λ x y is. subst (λ z. PC (roll-Case z)) is (case_cases y)) (λ x y is. subst (λ z. PG (roll-GuardedBranch z)) is (guarded_cases y))

  pub stmts_follow : (xs : List Stmt) → BodyFollows P (map judging xs)
  stmts_follow [] = tt
  stmts_follow (x ∷ xs) = (stmt_follows x, stmts_follow xs)
