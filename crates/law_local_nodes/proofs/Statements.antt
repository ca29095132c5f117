-- Statements have a node, or break a rule, by induction over the tree of the grammar.
use Rattle.std.proofs.Common.{◌≡◌, refl, sym, subst, true, List, [], ◌∷◌, map, Option, Some, None}
use Rattle.std.specs.Prelude.{is_some}
use Rattle.std.specs.List.{AllByRecursion}
use Rattle.ob_tree.specs.declared.expr.Expr.{Expr}
use Rattle.ob_tree.specs.declared.stmt.Stmt.{Stmt, roll-Stmt, map-Stmt}
use Rattle.ob_tree.specs.declared.stmt.Stmt.TheOpen.{Stmt-F, Branch-F, Case-F, GuardedBranch-F}
use Rattle.ob_tree.specs.declared.stmt.Stmt.TheFolds.{ind-Stmt, fold-roll-Stmt, fold-roll-Branch, fold-roll-Case, fold-roll-GuardedBranch}
use Rattle.ob_tree.specs.declared.stmt.Branch.{Branch, roll-Branch, map-Branch}
use Rattle.ob_tree.specs.declared.stmt.Case.{Case, roll-Case, map-Case}
use Rattle.ob_tree.specs.declared.stmt.GuardedBranch.{GuardedBranch, roll-GuardedBranch, map-GuardedBranch}
use Rattle.ob_types.specs.declared.typed.TypedStmt.{TypedStmt}
use Rattle.ob_rules.specs.Names.{Around}
use Rattle.ob_rules.specs.Expressions.{phrase_of, named_of, ranged_of}
use Rattle.ob_rules.specs.Statements.{Judging, Conditional, Labelled, GuardedBody, in_turn, phrase_if, stmt_rule, branch_rule, case_rule, guarded_rule, judging, conditional_of, labelled_of, guarded_of}
use Rattle.law_names_procedures.proofs.Judges.{Has}
use Rattle.law_local_nodes.specs.Quiet.{StatementsAreThere}
use Rattle.law_local_nodes.proofs.Guards.{Quiet, no_guards}
use Rattle.law_local_nodes.proofs.Predeclared.{PhraseThere}
use Rattle.law_local_nodes.proofs.Expressions.{expr_there, designator_of_there}
use Rattle.law_local_nodes.proofs.Bodies.{JudgingThere, BodyThere, in_turn_there, assignment_there, call_there, ConditionThere, if_there, while_there, repeat_there, loop_there, case_there, for_there, exit_there, IfPhrase, return_there, with_statement_there}
use Rattle.law_lists.proofs.Lists.{Anything}

phrase_there : (u : Around) (q : Quiet u) (o : Option Expr) → IfPhrase u q (phrase_if o)
phrase_there u q None = tt
phrase_there u q (Some x) = expr_there u q x

abbrev PS : Stmt → Type 0
PS x = JudgingThere (judging x)

abbrev PB : Branch → Type 0
PB b = (x : Expr) × (((conditional_of b).test ≡ phrase_of x) × BodyThere (conditional_of b).body)

abbrev PC : Case → Type 0
PC c = BodyThere (labelled_of c).body

abbrev PG : GuardedBranch → Type 0
PG b = BodyThere (guarded_of b).body

abbrev SS : Type 0
SS = (x : Stmt) × PS x

abbrev SB : Type 0
SB = (x : Branch) × PB x

abbrev SC : Type 0
SC = (x : Case) × PC x

abbrev SG : Type 0
SG = (x : GuardedBranch) × PG x

abbrev stmts_in : List SS → List Stmt
stmts_in xs = map (λ (x : SS). x.0) xs

abbrev branches_in : List SB → List Branch
branches_in xs = map (λ (x : SB). x.0) xs

abbrev cases_in : List SC → List Case
cases_in xs = map (λ (x : SC). x.0) xs

abbrev guarded_in : List SG → List GuardedBranch
guarded_in xs = map (λ (x : SG). x.0) xs

-- ---- parts in a row

bodies_there : (xs : List SS) → BodyThere (map judging (stmts_in xs))
bodies_there [] = tt
bodies_there (x ∷ xs) = (x.1, bodies_there xs)

conditions_there : (u : Around) (q : Quiet u) (bs : List SB) → AllByRecursion (ConditionThere u q) (map conditional_of (branches_in bs))
conditions_there u q [] = tt
conditions_there u q (b ∷ bs) = ((subst (PhraseThere u) (sym b.1.1.0) (expr_there u q b.1.0), b.1.1.1), conditions_there u q bs)

cases_there : (cs : List SC) → AllByRecursion (λ c. BodyThere c.body) (map labelled_of (cases_in cs))
cases_there [] = tt
cases_there (c ∷ cs) = (c.1, cases_there cs)

guarded_there : (bs : List SG) → AllByRecursion (λ b. BodyThere b.body) (map guarded_of (guarded_in bs))
guarded_there [] = tt
guarded_there (b ∷ bs) = (b.1, guarded_there bs)

-- ---- each alternative

by_layer : (x : Stmt-F Stmt Branch Case GuardedBranch) → JudgingThere (stmt_rule (map-Stmt Stmt Branch Case GuardedBranch Judging Conditional Labelled GuardedBody judging conditional_of labelled_of guarded_of x)) → PS (roll-Stmt x)
by_layer x h = subst JudgingThere (sym (fold-roll-Stmt Judging Conditional Labelled GuardedBody stmt_rule branch_rule case_rule guarded_rule x)) h

stmt_cases : (y : Stmt-F SS SB SC SG) → PS (roll-Stmt (map-Stmt SS SB SC SG Stmt Branch Case GuardedBranch (λ x. x.0) (λ x. x.0) (λ x. x.0) (λ x. x.0) y))
stmt_cases Stmt-F.Empty = by_layer Stmt-F.Empty (λ u q. λ n. tt)
stmt_cases (Stmt-F.Call d) = by_layer (Stmt-F.Call d) (λ u q. call_there u q (named_of d) (designator_of_there u q d))
stmt_cases (Stmt-F.Assign d at x) = by_layer (Stmt-F.Assign d at x) (λ u q. assignment_there u q (named_of d) at (phrase_of x) (designator_of_there u q d) (expr_there u q x))
stmt_cases (Stmt-F.If at bs None) = by_layer (Stmt-F.If at (branches_in bs) None) (λ u q. if_there u q (map conditional_of (branches_in bs)) None (conditions_there u q bs) tt)
stmt_cases (Stmt-F.If at bs (Some o)) = by_layer (Stmt-F.If at (branches_in bs) (Some (stmts_in o))) (λ u q. if_there u q (map conditional_of (branches_in bs)) (Some (map judging (stmts_in o))) (conditions_there u q bs) (bodies_there o))
stmt_cases (Stmt-F.Case at x cs None) = by_layer (Stmt-F.Case at x (cases_in cs) None) (λ u q. case_there u q at (phrase_of x) (map labelled_of (cases_in cs)) None (expr_there u q x) (cases_there cs) tt)
stmt_cases (Stmt-F.Case at x cs (Some o)) = by_layer (Stmt-F.Case at x (cases_in cs) (Some (stmts_in o))) (λ u q. case_there u q at (phrase_of x) (map labelled_of (cases_in cs)) (Some (map judging (stmts_in o))) (expr_there u q x) (cases_there cs) (bodies_there o))
stmt_cases (Stmt-F.While at x body) = by_layer (Stmt-F.While at x (stmts_in body)) (λ u q. while_there u q at (phrase_of x) (map judging (stmts_in body)) (expr_there u q x) (bodies_there body))
stmt_cases (Stmt-F.Repeat at body x) = by_layer (Stmt-F.Repeat at (stmts_in body) x) (λ u q. repeat_there u q at (map judging (stmts_in body)) (phrase_of x) (bodies_there body) (expr_there u q x))
stmt_cases (Stmt-F.For at x b c step body) = by_layer (Stmt-F.For at x b c step (stmts_in body)) (λ u q. for_there u q at x (phrase_of b) (phrase_of c) (phrase_if step) (map judging (stmts_in body)) (expr_there u q b) (expr_there u q c) (bodies_there body))
stmt_cases (Stmt-F.Loop at body) = by_layer (Stmt-F.Loop at (stmts_in body)) (λ u q. loop_there u q at (map judging (stmts_in body)) (bodies_there body))
stmt_cases (Stmt-F.Exit at) = by_layer (Stmt-F.Exit at) (λ u q. exit_there u q at)
stmt_cases (Stmt-F.Return at o) = by_layer (Stmt-F.Return at o) (λ u q. return_there u q at (phrase_if o) (phrase_there u q o))
stmt_cases (Stmt-F.With at bs None) = by_layer (Stmt-F.With at (guarded_in bs) None) (λ u q. with_statement_there u q at (map guarded_of (guarded_in bs)) None (guarded_there bs) tt)
stmt_cases (Stmt-F.With at bs (Some o)) = by_layer (Stmt-F.With at (guarded_in bs) (Some (stmts_in o))) (λ u q. with_statement_there u q at (map guarded_of (guarded_in bs)) (Some (map judging (stmts_in o))) (guarded_there bs) (bodies_there o))

abbrev Conditions : Conditional → Type 0
Conditions b = (x : Expr) × ((b.test ≡ phrase_of x) × BodyThere b.body)

branch_cases : (y : Branch-F SS SB SC SG) → PB (roll-Branch (map-Branch SS SB SC SG Stmt Branch Case GuardedBranch (λ x. x.0) (λ x. x.0) (λ x. x.0) (λ x. x.0) y))
branch_cases y =
    let x = map-Branch SS SB SC SG Stmt Branch Case GuardedBranch (λ x. x.0) (λ x. x.0) (λ x. x.0) (λ x. x.0) y in
    subst Conditions (sym (fold-roll-Branch Judging Conditional Labelled GuardedBody stmt_rule branch_rule case_rule guarded_rule x)) (y.test, (refl, bodies_there y.body))

case_cases : (y : Case-F SS SB SC SG) → PC (roll-Case (map-Case SS SB SC SG Stmt Branch Case GuardedBranch (λ x. x.0) (λ x. x.0) (λ x. x.0) (λ x. x.0) y))
case_cases y =
    let x = map-Case SS SB SC SG Stmt Branch Case GuardedBranch (λ x. x.0) (λ x. x.0) (λ x. x.0) (λ x. x.0) y in
    subst (λ (c : Labelled). BodyThere c.body) (sym (fold-roll-Case Judging Conditional Labelled GuardedBody stmt_rule branch_rule case_rule guarded_rule x)) (bodies_there y.body)

guarded_cases : (y : GuardedBranch-F SS SB SC SG) → PG (roll-GuardedBranch (map-GuardedBranch SS SB SC SG Stmt Branch Case GuardedBranch (λ x. x.0) (λ x. x.0) (λ x. x.0) (λ x. x.0) y))
guarded_cases y =
    let x = map-GuardedBranch SS SB SC SG Stmt Branch Case GuardedBranch (λ x. x.0) (λ x. x.0) (λ x. x.0) (λ x. x.0) y in
    subst (λ (b : GuardedBody). BodyThere b.body) (sym (fold-roll-GuardedBranch Judging Conditional Labelled GuardedBody stmt_rule branch_rule case_rule guarded_rule x)) (bodies_there y.body)

-- EACH STATEMENT of the grammar
pub stmt_there : (x : Stmt) → PS x
stmt_there = ind-Stmt PS PB PC PG (λ x y is. subst (λ z. PS (roll-Stmt z)) is (stmt_cases y)) (λ x y is. subst (λ z. PB (roll-Branch z)) is (branch_cases y)) (λ x y is. subst (λ z. PC (roll-Case z)) is (case_cases y)) (λ x y is. subst (λ z. PG (roll-GuardedBranch z)) is (guarded_cases y))

pub stmts_there : (xs : List Stmt) → BodyThere (map judging xs)
stmts_there [] = tt
stmts_there (x ∷ xs) = (stmt_there x, stmts_there xs)

has_some : (o : Option (List TypedStmt)) → Has Anything o → is_some o ≡ true
has_some None h = absurd h
has_some (Some x) h = refl

pub statements_there : StatementsAreThere
statements_there u q g xs e = has_some (in_turn (map judging xs) u).node (in_turn_there (map judging xs) (stmts_there xs) u (no_guards u q g) e)
