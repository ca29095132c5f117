-- Statements of the grammar fit, by induction over their trees.
use Rattle.std.proofs.Common.{List, [], ◌∷◌, map, Option, Some, None, sym, subst, ◌≡◌, Bool, true, ◌∙◌}
use Rattle.std.specs.List.{AllByRecursion}
use Rattle.ob_tree.specs.declared.expr.Expr.{Expr}
use Rattle.ob_tree.specs.declared.stmt.Stmt.{Stmt, roll-Stmt, map-Stmt}
use Rattle.ob_tree.specs.declared.stmt.Branch.{Branch, roll-Branch, map-Branch}
use Rattle.ob_tree.specs.declared.stmt.Case.{Case, roll-Case, map-Case}
use Rattle.ob_tree.specs.declared.stmt.GuardedBranch.{GuardedBranch, roll-GuardedBranch, map-GuardedBranch}
use Rattle.ob_tree.specs.declared.stmt.Stmt.TheOpen.{Stmt-F, Branch-F, Case-F, GuardedBranch-F}
use Rattle.ob_tree.specs.declared.stmt.Stmt.TheFolds.{ind-Stmt, fold-roll-Stmt, fold-roll-Branch, fold-roll-Case, fold-roll-GuardedBranch}
use Rattle.ob_rules.specs.Expressions.{phrase_of, named_of, ranged_of}
use Rattle.ob_rules.specs.Statements.{Judging, Conditional, Labelled, GuardedBody, stmt_rule, branch_rule, case_rule, guarded_rule, judging, conditional_of, labelled_of, guarded_of, phrase_if}
use Rattle.std.specs.Prelude.{◌&&◌}
use Rattle.ob_tree.specs.declared.ident.Ident.{Ident}
use Rattle.ob_tree.specs.declared.expr.Element.{Element}
use Rattle.ob_tree.specs.declared.stmt.Guard.{Guard}
use Rattle.law_typing.specs.Spelled.{all_true}
use Rattle.law_spelling.specs.Coded.{PosFits}
use Rattle.law_spelling_read.specs.ReadPlaces.{pos_fits, expr_fits, designator_fits, element_fits, fits_if, qualifier_fits, name_fits, stmt_layer, branch_layer, case_layer, guarded_layer, stmt_fits, branch_fits, case_fits, guarded_fits}
use Rattle.law_spelling_stmts.proofs.Setting.{Setting}
use Rattle.law_spelling_stmts.proofs.Calls.{PhraseOk}
use Rattle.law_spelling_stmts.proofs.Expressions.{pos_ok, RangedOk, expr_ok, designator_named, element_ok}
use Rattle.law_spelling_stmts.proofs.Statements.{JudgingOk, AreJudging, ConditionalOk, LabelledOk, GuardAt, GuardedOk, assignment_keeps, call_keeps, if_keeps, while_keeps, repeat_keeps, loop_keeps, case_keeps, for_keeps, exit_keeps, return_keeps, with_keeps}
use Rattle.law_lists.proofs.Lists.{IfThere, and_parts}

module _ (k : Setting) where
  abbrev PS : Stmt → Type 0
  PS x = stmt_fits x ≡ true → JudgingOk k (judging x)

  abbrev PB : Branch → Type 0
  PB x = branch_fits x ≡ true → ConditionalOk k (conditional_of x)

  abbrev PC : Case → Type 0
  PC x = case_fits x ≡ true → LabelledOk k (labelled_of x)

  abbrev PG : GuardedBranch → Type 0
  PG x = guarded_fits x ≡ true → GuardedOk k (guarded_of x)

  abbrev SS : Type 0
  SS = (x : Stmt) × PS x

  abbrev SB : Type 0
  SB = (x : Branch) × PB x

  abbrev SC : Type 0
  SC = (x : Case) × PC x

  abbrev SG : Type 0
  SG = (x : GuardedBranch) × PG x

  abbrev stmts_in : List SS → List Stmt
  stmts_in xs = map (λ (x : SS). x.0) xs

  abbrev branches_in : List SB → List Branch
  branches_in xs = map (λ (x : SB). x.0) xs

  abbrev cases_in : List SC → List Case
  cases_in xs = map (λ (x : SC). x.0) xs

  abbrev guarded_in : List SG → List GuardedBranch
  guarded_in xs = map (λ (x : SG). x.0) xs

  bodies_are : (xs : List SS) → all_true (map stmt_fits (stmts_in xs)) ≡ true → AreJudging k (map judging (stmts_in xs))
  bodies_are [] e = tt
  bodies_are (x ∷ xs) e = let p = and_parts (stmt_fits x.0) (all_true (map stmt_fits (stmts_in xs))) e in (x.1 p.0, bodies_are xs p.1)

  branches_are : (xs : List SB) → all_true (map branch_fits (branches_in xs)) ≡ true → AllByRecursion (ConditionalOk k) (map conditional_of (branches_in xs))
  branches_are [] e = tt
  branches_are (x ∷ xs) e = let p = and_parts (branch_fits x.0) (all_true (map branch_fits (branches_in xs))) e in (x.1 p.0, branches_are xs p.1)

  cases_are : (xs : List SC) → all_true (map case_fits (cases_in xs)) ≡ true → AllByRecursion (LabelledOk k) (map labelled_of (cases_in xs))
  cases_are [] e = tt
  cases_are (x ∷ xs) e = let p = and_parts (case_fits x.0) (all_true (map case_fits (cases_in xs))) e in (x.1 p.0, cases_are xs p.1)

  guarded_are : (xs : List SG) → all_true (map guarded_fits (guarded_in xs)) ≡ true → AllByRecursion (GuardedOk k) (map guarded_of (guarded_in xs))
  guarded_are [] e = tt
  guarded_are (x ∷ xs) e = let p = and_parts (guarded_fits x.0) (all_true (map guarded_fits (guarded_in xs))) e in (x.1 p.0, guarded_are xs p.1)

  phrase_there : (o : Option Expr) → fits_if o ≡ true → IfThere (PhraseOk k) (phrase_if o)
  phrase_there None e = tt
  phrase_there (Some x) e = expr_ok k x e

  ranges_there : (xs : List Element) → all_true (map element_fits xs) ≡ true → AllByRecursion (RangedOk k) (map ranged_of xs)
  ranges_there [] e = tt
  ranges_there (x ∷ xs) e = let p = and_parts (element_fits x) (all_true (map element_fits xs)) e in (element_ok k x p.0, ranges_there xs p.1)

  qualifier_at : (o : Option Ident) → qualifier_fits o ≡ true → IfThere (λ (m : Ident). PosFits m.pos) o
  qualifier_at None e = tt
  qualifier_at (Some m) e = pos_ok m.pos e

  guard_at : (g : Guard) → name_fits g.variable ≡ true → GuardAt g
  guard_at g e = let p = and_parts (qualifier_fits g.variable.qualifier) (pos_fits g.variable.ident.pos) e in record { qualifier = qualifier_at g.variable.qualifier p.0; ident = pos_ok g.variable.ident.pos p.1 }

  by_layers : (x : Stmt-F Stmt Branch Case GuardedBranch) → (stmt_layer (map-Stmt Stmt Branch Case GuardedBranch Bool Bool Bool Bool stmt_fits branch_fits case_fits guarded_fits x) ≡ true → JudgingOk k (stmt_rule (map-Stmt Stmt Branch Case GuardedBranch Judging Conditional Labelled GuardedBody judging conditional_of labelled_of guarded_of x))) → PS (roll-Stmt x)
  by_layers x h e =
      subst (JudgingOk k) (sym (fold-roll-Stmt Judging Conditional Labelled GuardedBody stmt_rule branch_rule case_rule guarded_rule x))
      (h (sym (fold-roll-Stmt Bool Bool Bool Bool stmt_layer branch_layer case_layer guarded_layer x) ∙ e))

  stmt_cases : (y : Stmt-F SS SB SC SG) → PS (roll-Stmt (map-Stmt SS SB SC SG Stmt Branch Case GuardedBranch (λ x. x.0) (λ x. x.0) (λ x. x.0) (λ x. x.0) y))
  stmt_cases Stmt-F.Empty = by_layers Stmt-F.Empty (λ e. λ u s. tt)
  stmt_cases (Stmt-F.Call d) = by_layers (Stmt-F.Call d) (λ e. λ u s. call_keeps k (named_of d) (designator_named k d e) u s)
  stmt_cases (Stmt-F.Assign d at x) = by_layers (Stmt-F.Assign d at x) (λ e. let p = and_parts (pos_fits at) (designator_fits d && expr_fits x) e in let q = and_parts (designator_fits d) (expr_fits x) p.1 in λ u s. assignment_keeps k (named_of d) at (pos_ok at p.0) (phrase_of x) (designator_named k d q.0) (expr_ok k x q.1) u s)
  stmt_cases (Stmt-F.If at bs None) = by_layers (Stmt-F.If at (branches_in bs) None) (λ e. let p = and_parts (pos_fits at) (all_true (map branch_fits (branches_in bs)) && true) e in let q = and_parts (all_true (map branch_fits (branches_in bs))) true p.1 in λ u s. if_keeps k (map conditional_of (branches_in bs)) None (branches_are bs q.0) tt u s)
  stmt_cases (Stmt-F.If at bs (Some o)) = by_layers (Stmt-F.If at (branches_in bs) (Some (stmts_in o))) (λ e. let p = and_parts (pos_fits at) (all_true (map branch_fits (branches_in bs)) && all_true (map stmt_fits (stmts_in o))) e in let q = and_parts (all_true (map branch_fits (branches_in bs))) (all_true (map stmt_fits (stmts_in o))) p.1 in λ u s. if_keeps k (map conditional_of (branches_in bs)) (Some (map judging (stmts_in o))) (branches_are bs q.0) (bodies_are o q.1) u s)
  stmt_cases (Stmt-F.Case at x cs None) = by_layers (Stmt-F.Case at x (cases_in cs) None) (λ e. let p = and_parts (pos_fits at) (expr_fits x && (all_true (map case_fits (cases_in cs)) && true)) e in let q = and_parts (expr_fits x) (all_true (map case_fits (cases_in cs)) && true) p.1 in let r = and_parts (all_true (map case_fits (cases_in cs))) true q.1 in λ u s. case_keeps k at (pos_ok at p.0) (phrase_of x) (map labelled_of (cases_in cs)) None (expr_ok k x q.0) (cases_are cs r.0) tt u s)
  stmt_cases (Stmt-F.Case at x cs (Some o)) = by_layers (Stmt-F.Case at x (cases_in cs) (Some (stmts_in o))) (λ e. let p = and_parts (pos_fits at) (expr_fits x && (all_true (map case_fits (cases_in cs)) && all_true (map stmt_fits (stmts_in o)))) e in let q = and_parts (expr_fits x) (all_true (map case_fits (cases_in cs)) && all_true (map stmt_fits (stmts_in o))) p.1 in let r = and_parts (all_true (map case_fits (cases_in cs))) (all_true (map stmt_fits (stmts_in o))) q.1 in λ u s. case_keeps k at (pos_ok at p.0) (phrase_of x) (map labelled_of (cases_in cs)) (Some (map judging (stmts_in o))) (expr_ok k x q.0) (cases_are cs r.0) (bodies_are o r.1) u s)
  stmt_cases (Stmt-F.While at x body) = by_layers (Stmt-F.While at x (stmts_in body)) (λ e. let p = and_parts (pos_fits at) (expr_fits x && all_true (map stmt_fits (stmts_in body))) e in let q = and_parts (expr_fits x) (all_true (map stmt_fits (stmts_in body))) p.1 in λ u s. while_keeps k at (pos_ok at p.0) (phrase_of x) (map judging (stmts_in body)) (expr_ok k x q.0) (bodies_are body q.1) u s)
  stmt_cases (Stmt-F.Repeat at body x) = by_layers (Stmt-F.Repeat at (stmts_in body) x) (λ e. let p = and_parts (pos_fits at) (expr_fits x && all_true (map stmt_fits (stmts_in body))) e in let q = and_parts (expr_fits x) (all_true (map stmt_fits (stmts_in body))) p.1 in λ u s. repeat_keeps k at (pos_ok at p.0) (map judging (stmts_in body)) (phrase_of x) (bodies_are body q.1) (expr_ok k x q.0) u s)
  stmt_cases (Stmt-F.For at x a b step body) = by_layers (Stmt-F.For at x a b step (stmts_in body)) (λ e.
      let B = all_true (map stmt_fits (stmts_in body)) in
      let p = and_parts (pos_fits at) (pos_fits x.pos && (expr_fits a && (expr_fits b && (fits_if step && B)))) e in
      let q = and_parts (pos_fits x.pos) (expr_fits a && (expr_fits b && (fits_if step && B))) p.1 in
      let r = and_parts (expr_fits a) (expr_fits b && (fits_if step && B)) q.1 in
      let t = and_parts (expr_fits b) (fits_if step && B) r.1 in
      let v = and_parts (fits_if step) B t.1 in
      λ u s. for_keeps k at (pos_ok at p.0) x (pos_ok x.pos q.0) (phrase_of a) (phrase_of b) (phrase_if step) (map judging (stmts_in body)) (expr_ok k a r.0) (expr_ok k b t.0) (phrase_there step v.0) (bodies_are body v.1) u s)
  stmt_cases (Stmt-F.Loop at body) = by_layers (Stmt-F.Loop at (stmts_in body)) (λ e. let p = and_parts (pos_fits at) (all_true (map stmt_fits (stmts_in body))) e in λ u s. loop_keeps k at (pos_ok at p.0) (map judging (stmts_in body)) (bodies_are body p.1) u s)
  stmt_cases (Stmt-F.Exit at) = by_layers (Stmt-F.Exit at) (λ e. λ u s. exit_keeps k u at)
  stmt_cases (Stmt-F.Return at o) = by_layers (Stmt-F.Return at o) (λ e. let p = and_parts (pos_fits at) (fits_if o) e in λ u s. return_keeps k at (phrase_if o) (phrase_there o p.1) u s)
  stmt_cases (Stmt-F.With at bs None) = by_layers (Stmt-F.With at (guarded_in bs) None) (λ e. let p = and_parts (pos_fits at) (all_true (map guarded_fits (guarded_in bs)) && true) e in let q = and_parts (all_true (map guarded_fits (guarded_in bs))) true p.1 in λ u s. with_keeps k at (pos_ok at p.0) (map guarded_of (guarded_in bs)) None (guarded_are bs q.0) tt u s)
  stmt_cases (Stmt-F.With at bs (Some o)) = by_layers (Stmt-F.With at (guarded_in bs) (Some (stmts_in o))) (λ e. let p = and_parts (pos_fits at) (all_true (map guarded_fits (guarded_in bs)) && all_true (map stmt_fits (stmts_in o))) e in let q = and_parts (all_true (map guarded_fits (guarded_in bs))) (all_true (map stmt_fits (stmts_in o))) p.1 in λ u s. with_keeps k at (pos_ok at p.0) (map guarded_of (guarded_in bs)) (Some (map judging (stmts_in o))) (guarded_are bs q.0) (bodies_are o q.1) u s)

  branch_cases : (y : Branch-F SS SB SC SG) → PB (roll-Branch (map-Branch SS SB SC SG Stmt Branch Case GuardedBranch (λ x. x.0) (λ x. x.0) (λ x. x.0) (λ x. x.0) y))
  branch_cases y e =
      let x = map-Branch SS SB SC SG Stmt Branch Case GuardedBranch (λ x. x.0) (λ x. x.0) (λ x. x.0) (λ x. x.0) y in
      let p = and_parts (expr_fits y.test) (all_true (map stmt_fits (stmts_in y.body))) (sym (fold-roll-Branch Bool Bool Bool Bool stmt_layer branch_layer case_layer guarded_layer x) ∙ e) in
      subst (ConditionalOk k) (sym (fold-roll-Branch Judging Conditional Labelled GuardedBody stmt_rule branch_rule case_rule guarded_rule x)) (expr_ok k y.test p.0, bodies_are y.body p.1)

  case_cases : (y : Case-F SS SB SC SG) → PC (roll-Case (map-Case SS SB SC SG Stmt Branch Case GuardedBranch (λ x. x.0) (λ x. x.0) (λ x. x.0) (λ x. x.0) y))
  case_cases y e =
      let x = map-Case SS SB SC SG Stmt Branch Case GuardedBranch (λ x. x.0) (λ x. x.0) (λ x. x.0) (λ x. x.0) y in
      let p = and_parts (all_true (map element_fits y.labels)) (all_true (map stmt_fits (stmts_in y.body))) (sym (fold-roll-Case Bool Bool Bool Bool stmt_layer branch_layer case_layer guarded_layer x) ∙ e) in
      subst (LabelledOk k) (sym (fold-roll-Case Judging Conditional Labelled GuardedBody stmt_rule branch_rule case_rule guarded_rule x)) (ranges_there y.labels p.0, bodies_are y.body p.1)

  guarded_cases : (y : GuardedBranch-F SS SB SC SG) → PG (roll-GuardedBranch (map-GuardedBranch SS SB SC SG Stmt Branch Case GuardedBranch (λ x. x.0) (λ x. x.0) (λ x. x.0) (λ x. x.0) y))
  guarded_cases y e =
      let x = map-GuardedBranch SS SB SC SG Stmt Branch Case GuardedBranch (λ x. x.0) (λ x. x.0) (λ x. x.0) (λ x. x.0) y in
      let p = and_parts (name_fits y.guard.variable) (all_true (map stmt_fits (stmts_in y.body))) (sym (fold-roll-GuardedBranch Bool Bool Bool Bool stmt_layer branch_layer case_layer guarded_layer x) ∙ e) in
      subst (GuardedOk k) (sym (fold-roll-GuardedBranch Judging Conditional Labelled GuardedBody stmt_rule branch_rule case_rule guarded_rule x)) (record { guard = guard_at y.guard p.0; body = bodies_are y.body p.1 })

  stmt_ok : (x : Stmt) → PS x
  stmt_ok = ind-Stmt PS PB PC PG (λ x y is. subst (λ z. PS (roll-Stmt z)) is (stmt_cases y)) (λ x y is. subst (λ z. PB (roll-Branch z)) is (branch_cases y)) (λ x y is. subst (λ z. PC (roll-Case z)) is (case_cases y)) (λ x y is. subst (λ z. PG (roll-GuardedBranch z)) is (guarded_cases y))

  pub stmts_ok : (xs : List Stmt) → all_true (map stmt_fits xs) ≡ true → AreJudging k (map judging xs)
  stmts_ok [] e = tt
  stmts_ok (x ∷ xs) e = let p = and_parts (stmt_fits x) (all_true (map stmt_fits xs)) e in (stmt_ok x p.0, stmts_ok xs p.1)
