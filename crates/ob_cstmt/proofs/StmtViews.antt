-- What each alternative of a statement says, by its parts.
use Rattle.std.proofs.Common.{◌≡◌, List, [], sym, ap, ◌∙◌, map, Option, Some, None}
use Rattle.std.specs.Option.{option_map}
use Rattle.ob_tree.specs.declared.pos.Pos.{Pos}
use Rattle.ob_tree.specs.declared.ident.Ident.{Ident}
use Rattle.ob_tree.specs.declared.expr.Expr.{Expr}
use Rattle.ob_tree.specs.declared.expr.Element.{Element}
use Rattle.ob_tree.specs.declared.expr.Designator.{Designator}
use Rattle.ob_tree.specs.declared.expr.Expr.TheFolds.{fold_out-Element, fold_out-Designator}
use Rattle.ob_tree.specs.declared.stmt.Stmt.{Stmt}
use Rattle.ob_tree.specs.declared.stmt.Stmt.TheVariants as s
use Rattle.ob_tree.specs.declared.stmt.Stmt.TheOpen.{Stmt-F}
use Rattle.ob_tree.specs.declared.stmt.Branch.{Branch}
use Rattle.ob_tree.specs.declared.stmt.Case.{Case}
use Rattle.ob_tree.specs.declared.stmt.GuardedBranch.{GuardedBranch}
use Rattle.ob_tree.specs.declared.stmt.Stmt.TheFolds.{fold-roll-Stmt, fold_out-Branch, fold_out-Case, fold_out-GuardedBranch}
use Rattle.ob_rules.specs.Judged.{sound}
use Rattle.ob_rules.specs.Names.{Around}
use Rattle.ob_rules.specs.Phrases.{Phrase, Behind}
use Rattle.ob_rules.specs.Expressions.{Named, Ranged, Tailed, expr_rule, selector_rule, designator_rule, element_rule, tail_rule, phrase_of, named_of, ranged_of}
use Rattle.ob_rules.specs.Statements.{Judging, Conditional, Labelled, GuardedBody, stmt_rule, branch_rule, case_rule, guarded_rule, judging, conditional_of, labelled_of, guarded_of, call_statement, assignment, if_statement, case, while_statement, repeat_statement, for, loop_statement, exit, return, with_statement, phrase_if}

pub named_start : (d : Designator) → (named_of d).ident ≡ d.ident
named_start d = ap (λ n. n.ident) (fold_out-Designator Phrase Behind Named Ranged Tailed expr_rule selector_rule designator_rule element_rule tail_rule d)

ranged_by : (low : Expr) (high : Option Expr) → ranged_of (record { low = low; high = high }) ≡ record { low = phrase_of low; high = phrase_if high }
ranged_by low None = fold_out-Element Phrase Behind Named Ranged Tailed expr_rule selector_rule designator_rule element_rule tail_rule (record { low = low; high = None })
ranged_by low (Some y) = fold_out-Element Phrase Behind Named Ranged Tailed expr_rule selector_rule designator_rule element_rule tail_rule (record { low = low; high = Some y })

pub ranged_is : (x : Element) → ranged_of x ≡ record { low = phrase_of x.low; high = phrase_if x.high }
ranged_is x = ranged_by x.low x.high

pub judging_empty : (u : Around) → judging s.Empty u ≡ sound []
judging_empty u = ap (λ f. f u) (ap judging (sym s.rolls-Empty) ∙ fold-roll-Stmt Judging Conditional Labelled GuardedBody stmt_rule branch_rule case_rule guarded_rule Stmt-F.Empty)

pub judging_call : (d : Designator) (u : Around) → judging (s.Call d) u ≡ call_statement (named_of d) u
judging_call d u = ap (λ f. f u) (ap judging (sym (s.rolls-Call d)) ∙ fold-roll-Stmt Judging Conditional Labelled GuardedBody stmt_rule branch_rule case_rule guarded_rule (Stmt-F.Call d))

pub judging_assign : (d : Designator) (at : Pos) (x : Expr) (u : Around) → judging (s.Assign d at x) u ≡ assignment u (named_of d) at (phrase_of x)
judging_assign d at x u = ap (λ f. f u) (ap judging (sym (s.rolls-Assign d at x)) ∙ fold-roll-Stmt Judging Conditional Labelled GuardedBody stmt_rule branch_rule case_rule guarded_rule (Stmt-F.Assign d at x))

pub judging_if : (at : Pos) (bs : List Branch) (o : Option (List Stmt)) (u : Around) → judging (s.If at bs o) u ≡ if_statement (map conditional_of bs) (option_map (λ b. map judging b) o) u
judging_if at bs None u = ap (λ f. f u) (ap judging (sym (s.rolls-If at bs None)) ∙ fold-roll-Stmt Judging Conditional Labelled GuardedBody stmt_rule branch_rule case_rule guarded_rule (Stmt-F.If at bs None))
judging_if at bs (Some b) u = ap (λ f. f u) (ap judging (sym (s.rolls-If at bs (Some b))) ∙ fold-roll-Stmt Judging Conditional Labelled GuardedBody stmt_rule branch_rule case_rule guarded_rule (Stmt-F.If at bs (Some b)))

pub judging_case : (at : Pos) (x : Expr) (cs : List Case) (o : Option (List Stmt)) (u : Around) → judging (s.Case at x cs o) u ≡ case u at (phrase_of x) (map labelled_of cs) (option_map (λ b. map judging b) o)
judging_case at x cs None u = ap (λ f. f u) (ap judging (sym (s.rolls-Case at x cs None)) ∙ fold-roll-Stmt Judging Conditional Labelled GuardedBody stmt_rule branch_rule case_rule guarded_rule (Stmt-F.Case at x cs None))
judging_case at x cs (Some b) u = ap (λ f. f u) (ap judging (sym (s.rolls-Case at x cs (Some b))) ∙ fold-roll-Stmt Judging Conditional Labelled GuardedBody stmt_rule branch_rule case_rule guarded_rule (Stmt-F.Case at x cs (Some b)))

pub judging_while : (at : Pos) (x : Expr) (body : List Stmt) (u : Around) → judging (s.While at x body) u ≡ while_statement at (phrase_of x) (map judging body) u
judging_while at x body u = ap (λ f. f u) (ap judging (sym (s.rolls-While at x body)) ∙ fold-roll-Stmt Judging Conditional Labelled GuardedBody stmt_rule branch_rule case_rule guarded_rule (Stmt-F.While at x body))

pub judging_repeat : (at : Pos) (body : List Stmt) (x : Expr) (u : Around) → judging (s.Repeat at body x) u ≡ repeat_statement at (map judging body) (phrase_of x) u
judging_repeat at body x u = ap (λ f. f u) (ap judging (sym (s.rolls-Repeat at body x)) ∙ fold-roll-Stmt Judging Conditional Labelled GuardedBody stmt_rule branch_rule case_rule guarded_rule (Stmt-F.Repeat at body x))

pub judging_for : (at : Pos) (x : Ident) (a b : Expr) (step : Option Expr) (body : List Stmt) (u : Around) → judging (s.For at x a b step body) u ≡ for u at x (phrase_of a) (phrase_of b) (phrase_if step) (map judging body)
judging_for at x a b step body u = ap (λ f. f u) (ap judging (sym (s.rolls-For at x a b step body)) ∙ fold-roll-Stmt Judging Conditional Labelled GuardedBody stmt_rule branch_rule case_rule guarded_rule (Stmt-F.For at x a b step body))

pub judging_loop : (at : Pos) (body : List Stmt) (u : Around) → judging (s.Loop at body) u ≡ loop_statement at (map judging body) u
judging_loop at body u = ap (λ f. f u) (ap judging (sym (s.rolls-Loop at body)) ∙ fold-roll-Stmt Judging Conditional Labelled GuardedBody stmt_rule branch_rule case_rule guarded_rule (Stmt-F.Loop at body))

pub judging_exit : (at : Pos) (u : Around) → judging (s.Exit at) u ≡ exit u at
judging_exit at u = ap (λ f. f u) (ap judging (sym (s.rolls-Exit at)) ∙ fold-roll-Stmt Judging Conditional Labelled GuardedBody stmt_rule branch_rule case_rule guarded_rule (Stmt-F.Exit at))

pub judging_return : (at : Pos) (x : Option Expr) (u : Around) → judging (s.Return at x) u ≡ return u at (phrase_if x)
judging_return at x u = ap (λ f. f u) (ap judging (sym (s.rolls-Return at x)) ∙ fold-roll-Stmt Judging Conditional Labelled GuardedBody stmt_rule branch_rule case_rule guarded_rule (Stmt-F.Return at x))

pub judging_with : (at : Pos) (bs : List GuardedBranch) (o : Option (List Stmt)) (u : Around) → judging (s.With at bs o) u ≡ with_statement at (map guarded_of bs) (option_map (λ b. map judging b) o) u
judging_with at bs None u = ap (λ f. f u) (ap judging (sym (s.rolls-With at bs None)) ∙ fold-roll-Stmt Judging Conditional Labelled GuardedBody stmt_rule branch_rule case_rule guarded_rule (Stmt-F.With at bs None))
judging_with at bs (Some b) u = ap (λ f. f u) (ap judging (sym (s.rolls-With at bs (Some b))) ∙ fold-roll-Stmt Judging Conditional Labelled GuardedBody stmt_rule branch_rule case_rule guarded_rule (Stmt-F.With at bs (Some b)))

pub conditional_is : (b : Branch) → conditional_of b ≡ record { test = phrase_of b.test; body = map judging b.body }
conditional_is b = fold_out-Branch Judging Conditional Labelled GuardedBody stmt_rule branch_rule case_rule guarded_rule b

pub labelled_is : (c : Case) → labelled_of c ≡ record { labels = map ranged_of c.labels; body = map judging c.body }
labelled_is c = fold_out-Case Judging Conditional Labelled GuardedBody stmt_rule branch_rule case_rule guarded_rule c

pub guarded_is : (b : GuardedBranch) → guarded_of b ≡ record { guard = b.guard; body = map judging b.body }
guarded_is b = fold_out-GuardedBranch Judging Conditional Labelled GuardedBody stmt_rule branch_rule case_rule guarded_rule b
