-- The law of statements, by induction over the tree of the grammar.
use Rattle.std.proofs.Common.{◌≡◌, sym, ◌∙◌, subst, ℕ, List, [], ◌∷◌, ◌++◌, map, Option, Some, None, Bool, true}
use Rattle.std.specs.Prelude.{◌&&◌}
use Rattle.std.specs.List.{AllByRecursion}
use Rattle.ob_tree.specs.declared.pos.Pos.{Pos}
use Rattle.ob_tree.specs.declared.names.QName.{QName}
use Rattle.ob_tree.specs.declared.expr.Expr.{Expr}
use Rattle.ob_tree.specs.declared.stmt.Stmt.{Stmt, roll-Stmt, map-Stmt}
use Rattle.ob_tree.specs.declared.stmt.Branch.{Branch, roll-Branch, map-Branch}
use Rattle.ob_tree.specs.declared.stmt.Case.{Case, roll-Case, map-Case}
use Rattle.ob_tree.specs.declared.stmt.GuardedBranch.{GuardedBranch, roll-GuardedBranch, map-GuardedBranch}
use Rattle.ob_tree.specs.declared.stmt.Stmt.TheOpen.{Stmt-F, Branch-F, Case-F, GuardedBranch-F}
use Rattle.ob_tree.specs.declared.stmt.Stmt.TheFolds.{ind-Stmt, fold-roll-Stmt, fold-roll-Branch, fold-roll-Case, fold-roll-GuardedBranch}
use Rattle.ob_types.specs.declared.types.TypeRef.{TypeRef}
use Rattle.ob_meaning.specs.Values.{Program, Formals, Held}
use Rattle.ob_rules.specs.Expressions.{phrase_of, named_of}
use Rattle.ob_rules.specs.Statements.{Judging, Conditional, Labelled, GuardedBody, stmt_rule, branch_rule, case_rule, guarded_rule, judging, conditional_of, labelled_of, guarded_of, phrase_if}
use Rattle.law_typing.specs.Makes.{IfThere}
use Rattle.law_typing.specs.Meant.{PhraseIs}
use Rattle.law_typing.specs.Spelled.{all_true, is_spelled, designator_spelled}
use Rattle.law_typing.specs.Bodies.{spelled_if, stmt_layer, branch_layer, case_layer, guarded_layer, stmt_spelled, branch_spelled, case_spelled, guarded_spelled, in_all, place_layer, branch_places_layer, case_places_layer, guarded_places_layer, hidden_places, branch_places, case_places, guarded_places, AreHidden, JudgingIs, AreJudging, ConditionalIs}
use Rattle.law_typing.proofs.Operators.{and_is}
use Rattle.law_typing.proofs.Expressions.{expr_is, designator_of_is}
use Rattle.law_typing.proofs.Simple.{assignment_is, call_statement_is, exit_is, return_is}
use Rattle.law_typing.proofs.Branching.{if_is, case_is, with_is}
use Rattle.law_typing.proofs.Looping.{while_is, repeat_is, loop_is, for_is}
use Rattle.law_lists.proofs.Lists.{all_parts}

module _ (program : Program) (Has : Formals → QName → Type 0) (unit : List ℕ) (held : List Held) (result : Option TypeRef) where
  abbrev Hid : List Pos → Type 0
  Hid ps = AreHidden program Has unit held result ps

  abbrev J : Judging → Type 0
  J f = JudgingIs program Has unit held result f

  abbrev Bod : List Judging → Type 0
  Bod fs = AreJudging program Has unit held result fs

  abbrev PS : Stmt → Type 0
  PS x = stmt_spelled x ≡ true → Hid (hidden_places x) → J (judging x)

  abbrev PB : Branch → Type 0
  PB x = branch_spelled x ≡ true → Hid (branch_places x) → ConditionalIs program Has unit held result (conditional_of x)

  abbrev PC : Case → Type 0
  PC x = case_spelled x ≡ true → Hid (case_places x) → Bod (labelled_of x).body

  abbrev PG : GuardedBranch → Type 0
  PG x = guarded_spelled x ≡ true → Hid (guarded_places x) → Bod (guarded_of x).body

  abbrev SS : Type 0
  SS = (x : Stmt) × PS x

  abbrev SB : Type 0
  SB = (x : Branch) × PB x

  abbrev SC : Type 0
  SC = (x : Case) × PC x

  abbrev SG : Type 0
  SG = (x : GuardedBranch) × PG x

  -- PARTS IN A ROW

  abbrev stmts_in : List SS → List Stmt
  stmts_in xs = map (λ (x : SS). x.0) xs

  abbrev branches_in : List SB → List Branch
  branches_in xs = map (λ (x : SB). x.0) xs

  abbrev cases_in : List SC → List Case
  cases_in xs = map (λ (x : SC). x.0) xs

  abbrev guarded_in : List SG → List GuardedBranch
  guarded_in xs = map (λ (x : SG). x.0) xs

  hidden_two : (ps qs : List Pos) → Hid (ps ++ qs) → Hid ps × Hid qs
  hidden_two ps qs h = all_parts _ ps qs h

  bodies_are : (xs : List SS) → all_true (map stmt_spelled (stmts_in xs)) ≡ true → Hid (in_all (map hidden_places (stmts_in xs))) → Bod (map judging (stmts_in xs))
  bodies_are [] e h = tt
  bodies_are (x ∷ xs) e h =
      let p = and_is (stmt_spelled x.0) (all_true (map stmt_spelled (stmts_in xs))) e in
      let q = hidden_two (hidden_places x.0) (in_all (map hidden_places (stmts_in xs))) h in
      (x.1 p.0 q.0, bodies_are xs p.1 q.1)

  branches_are : (xs : List SB) → all_true (map branch_spelled (branches_in xs)) ≡ true → Hid (in_all (map branch_places (branches_in xs))) → AllByRecursion (ConditionalIs program Has unit held result) (map conditional_of (branches_in xs))
  branches_are [] e h = tt
  branches_are (x ∷ xs) e h =
      let p = and_is (branch_spelled x.0) (all_true (map branch_spelled (branches_in xs))) e in
      let q = hidden_two (branch_places x.0) (in_all (map branch_places (branches_in xs))) h in
      (x.1 p.0 q.0, branches_are xs p.1 q.1)

  cases_are : (xs : List SC) → all_true (map case_spelled (cases_in xs)) ≡ true → Hid (in_all (map case_places (cases_in xs))) → AllByRecursion (λ (c : Labelled). Bod c.body) (map labelled_of (cases_in xs))
  cases_are [] e h = tt
  cases_are (x ∷ xs) e h =
      let p = and_is (case_spelled x.0) (all_true (map case_spelled (cases_in xs))) e in
      let q = hidden_two (case_places x.0) (in_all (map case_places (cases_in xs))) h in
      (x.1 p.0 q.0, cases_are xs p.1 q.1)

  guarded_are : (xs : List SG) → all_true (map guarded_spelled (guarded_in xs)) ≡ true → Hid (in_all (map guarded_places (guarded_in xs))) → AllByRecursion (λ (b : GuardedBody). Bod b.body) (map guarded_of (guarded_in xs))
  guarded_are [] e h = tt
  guarded_are (x ∷ xs) e h =
      let p = and_is (guarded_spelled x.0) (all_true (map guarded_spelled (guarded_in xs))) e in
      let q = hidden_two (guarded_places x.0) (in_all (map guarded_places (guarded_in xs))) h in
      (x.1 p.0 q.0, guarded_are xs p.1 q.1)

  step_is : (o : Option Expr) → spelled_if o ≡ true → IfThere (PhraseIs program Has unit held result) (phrase_if o)
  step_is None e = tt
  step_is (Some x) e = expr_is program Has unit held result x e

  -- EACH ALTERNATIVE

  by_layers : (x : Stmt-F Stmt Branch Case GuardedBranch) → (stmt_layer (map-Stmt Stmt Branch Case GuardedBranch Bool Bool Bool Bool stmt_spelled branch_spelled case_spelled guarded_spelled x) ≡ true → Hid (place_layer (map-Stmt Stmt Branch Case GuardedBranch (List Pos) (List Pos) (List Pos) (List Pos) hidden_places branch_places case_places guarded_places x)) → J (stmt_rule (map-Stmt Stmt Branch Case GuardedBranch Judging Conditional Labelled GuardedBody judging conditional_of labelled_of guarded_of x))) → PS (roll-Stmt x)
  by_layers x h e k =
      subst J (sym (fold-roll-Stmt Judging Conditional Labelled GuardedBody stmt_rule branch_rule case_rule guarded_rule x))
      (h (sym (fold-roll-Stmt Bool Bool Bool Bool stmt_layer branch_layer case_layer guarded_layer x) ∙ e)
      (subst Hid (fold-roll-Stmt (List Pos) (List Pos) (List Pos) (List Pos) place_layer branch_places_layer case_places_layer guarded_places_layer x) k))

  abbrev expr_there : (x : Expr) → is_spelled x ≡ true → PhraseIs program Has unit held result (phrase_of x)
  expr_there x e = expr_is program Has unit held result x e

  stmt_cases : (y : Stmt-F SS SB SC SG) → PS (roll-Stmt (map-Stmt SS SB SC SG Stmt Branch Case GuardedBranch (λ x. x.0) (λ x. x.0) (λ x. x.0) (λ x. x.0) y))
  stmt_cases Stmt-F.Empty = by_layers Stmt-F.Empty (λ e h u s. record { node = tt })
  stmt_cases (Stmt-F.Call d) = by_layers (Stmt-F.Call d) (λ e h u s. call_statement_is program Has unit held result u s (named_of d) (designator_of_is program Has unit held result d e))
  stmt_cases (Stmt-F.Assign d at x) = by_layers (Stmt-F.Assign d at x) (λ e h u s. let p = and_is (designator_spelled d) (is_spelled x) e in assignment_is program Has unit held result u s (named_of d) at (phrase_of x) (designator_of_is program Has unit held result d p.0) (expr_there x p.1))
  stmt_cases (Stmt-F.If at bs None) = by_layers (Stmt-F.If at (branches_in bs) None) (λ e h u s. let p = and_is (all_true (map branch_spelled (branches_in bs))) true e in let q = hidden_two (in_all (map branch_places (branches_in bs))) [] h in if_is program Has unit held result u s (map conditional_of (branches_in bs)) None (branches_are bs p.0 q.0) tt)
  stmt_cases (Stmt-F.If at bs (Some o)) = by_layers (Stmt-F.If at (branches_in bs) (Some (stmts_in o))) (λ e h u s. let p = and_is (all_true (map branch_spelled (branches_in bs))) (all_true (map stmt_spelled (stmts_in o))) e in let q = hidden_two (in_all (map branch_places (branches_in bs))) (in_all (map hidden_places (stmts_in o))) h in if_is program Has unit held result u s (map conditional_of (branches_in bs)) (Some (map judging (stmts_in o))) (branches_are bs p.0 q.0) (bodies_are o p.1 q.1))
  stmt_cases (Stmt-F.Case at x cs None) = by_layers (Stmt-F.Case at x (cases_in cs) None) (λ e h u s. let p = and_is (is_spelled x) (all_true (map case_spelled (cases_in cs)) && true) e in let r = and_is (all_true (map case_spelled (cases_in cs))) true p.1 in let q = hidden_two (in_all (map case_places (cases_in cs))) [] h.1 in case_is program Has unit held result u s at (phrase_of x) (map labelled_of (cases_in cs)) None (expr_there x p.0) (cases_are cs r.0 q.0) tt h.0)
  stmt_cases (Stmt-F.Case at x cs (Some o)) = by_layers (Stmt-F.Case at x (cases_in cs) (Some (stmts_in o))) (λ e h u s. let p = and_is (is_spelled x) (all_true (map case_spelled (cases_in cs)) && all_true (map stmt_spelled (stmts_in o))) e in let r = and_is (all_true (map case_spelled (cases_in cs))) (all_true (map stmt_spelled (stmts_in o))) p.1 in let q = hidden_two (in_all (map case_places (cases_in cs))) (in_all (map hidden_places (stmts_in o))) h.1 in case_is program Has unit held result u s at (phrase_of x) (map labelled_of (cases_in cs)) (Some (map judging (stmts_in o))) (expr_there x p.0) (cases_are cs r.0 q.0) (bodies_are o r.1 q.1) h.0)
  stmt_cases (Stmt-F.While at x body) = by_layers (Stmt-F.While at x (stmts_in body)) (λ e h u s. let p = and_is (is_spelled x) (all_true (map stmt_spelled (stmts_in body))) e in while_is program Has unit held result u s at (phrase_of x) (map judging (stmts_in body)) (expr_there x p.0) (bodies_are body p.1 h))
  stmt_cases (Stmt-F.Repeat at body x) = by_layers (Stmt-F.Repeat at (stmts_in body) x) (λ e h u s. let p = and_is (is_spelled x) (all_true (map stmt_spelled (stmts_in body))) e in repeat_is program Has unit held result u s at (map judging (stmts_in body)) (phrase_of x) (expr_there x p.0) (bodies_are body p.1 h))
  stmt_cases (Stmt-F.For at x a b step body) = by_layers (Stmt-F.For at x a b step (stmts_in body)) (λ e h u s. let p = and_is (is_spelled a) (is_spelled b && (spelled_if step && all_true (map stmt_spelled (stmts_in body)))) e in let q = and_is (is_spelled b) (spelled_if step && all_true (map stmt_spelled (stmts_in body))) p.1 in let r = and_is (spelled_if step) (all_true (map stmt_spelled (stmts_in body))) q.1 in for_is program Has unit held result u s at x (phrase_of a) (phrase_of b) (phrase_if step) (map judging (stmts_in body)) (expr_there a p.0) (expr_there b q.0) (step_is step r.0) (bodies_are body r.1 h.1) h.0)
  stmt_cases (Stmt-F.Loop at body) = by_layers (Stmt-F.Loop at (stmts_in body)) (λ e h u s. loop_is program Has unit held result u s at (map judging (stmts_in body)) (bodies_are body e h))
  stmt_cases (Stmt-F.Exit at) = by_layers (Stmt-F.Exit at) (λ e h u s. exit_is program Has unit held result u s at)
  stmt_cases (Stmt-F.Return at o) = by_layers (Stmt-F.Return at o) (λ e h u s. return_is program Has unit held result u s at (phrase_if o) (step_is o e))
  stmt_cases (Stmt-F.With at bs None) = by_layers (Stmt-F.With at (guarded_in bs) None) (λ e h u s. let p = and_is (all_true (map guarded_spelled (guarded_in bs))) true e in let q = hidden_two (in_all (map guarded_places (guarded_in bs))) [] h in with_is program Has unit held result u s at (map guarded_of (guarded_in bs)) None (guarded_are bs p.0 q.0) tt)
  stmt_cases (Stmt-F.With at bs (Some o)) = by_layers (Stmt-F.With at (guarded_in bs) (Some (stmts_in o))) (λ e h u s. let p = and_is (all_true (map guarded_spelled (guarded_in bs))) (all_true (map stmt_spelled (stmts_in o))) e in let q = hidden_two (in_all (map guarded_places (guarded_in bs))) (in_all (map hidden_places (stmts_in o))) h in with_is program Has unit held result u s at (map guarded_of (guarded_in bs)) (Some (map judging (stmts_in o))) (guarded_are bs p.0 q.0) (bodies_are o p.1 q.1))

  branch_cases : (y : Branch-F SS SB SC SG) → PB (roll-Branch (map-Branch SS SB SC SG Stmt Branch Case GuardedBranch (λ x. x.0) (λ x. x.0) (λ x. x.0) (λ x. x.0) y))
  branch_cases y e h =
      let x = map-Branch SS SB SC SG Stmt Branch Case GuardedBranch (λ x. x.0) (λ x. x.0) (λ x. x.0) (λ x. x.0) y in
      let p = and_is (is_spelled y.test) (all_true (map stmt_spelled (stmts_in y.body))) (sym (fold-roll-Branch Bool Bool Bool Bool stmt_layer branch_layer case_layer guarded_layer x) ∙ e) in
      let q = subst Hid (fold-roll-Branch (List Pos) (List Pos) (List Pos) (List Pos) place_layer branch_places_layer case_places_layer guarded_places_layer x) h in
      subst (ConditionalIs program Has unit held result) (sym (fold-roll-Branch Judging Conditional Labelled GuardedBody stmt_rule branch_rule case_rule guarded_rule x)) (record { test = expr_there y.test p.0; body = bodies_are y.body p.1 q })

  case_cases : (y : Case-F SS SB SC SG) → PC (roll-Case (map-Case SS SB SC SG Stmt Branch Case GuardedBranch (λ x. x.0) (λ x. x.0) (λ x. x.0) (λ x. x.0) y))
  case_cases y e h =
      let x = map-Case SS SB SC SG Stmt Branch Case GuardedBranch (λ x. x.0) (λ x. x.0) (λ x. x.0) (λ x. x.0) y in
      let q = subst Hid (fold-roll-Case (List Pos) (List Pos) (List Pos) (List Pos) place_layer branch_places_layer case_places_layer guarded_places_layer x) h in
      subst (λ (c : Labelled). Bod c.body) (sym (fold-roll-Case Judging Conditional Labelled GuardedBody stmt_rule branch_rule case_rule guarded_rule x)) (bodies_are y.body (sym (fold-roll-Case Bool Bool Bool Bool stmt_layer branch_layer case_layer guarded_layer x) ∙ e) q)

  guarded_cases : (y : GuardedBranch-F SS SB SC SG) → PG (roll-GuardedBranch (map-GuardedBranch SS SB SC SG Stmt Branch Case GuardedBranch (λ x. x.0) (λ x. x.0) (λ x. x.0) (λ x. x.0) y))
  guarded_cases y e h =
      let x = map-GuardedBranch SS SB SC SG Stmt Branch Case GuardedBranch (λ x. x.0) (λ x. x.0) (λ x. x.0) (λ x. x.0) y in
      let q = subst Hid (fold-roll-GuardedBranch (List Pos) (List Pos) (List Pos) (List Pos) place_layer branch_places_layer case_places_layer guarded_places_layer x) h in
      subst (λ (b : GuardedBody). Bod b.body) (sym (fold-roll-GuardedBranch Judging Conditional Labelled GuardedBody stmt_rule branch_rule case_rule guarded_rule x)) (bodies_are y.body (sym (fold-roll-GuardedBranch Bool Bool Bool Bool stmt_layer branch_layer case_layer guarded_layer x) ∙ e) q)

  -- the whole: each statement of the grammar
  pub stmt_is : (x : Stmt) → PS x
  stmt_is = ind-Stmt PS PB PC PG (λ x y is. subst (λ z. PS (roll-Stmt z)) is (stmt_cases y)) (λ x y is. subst (λ z. PB (roll-Branch z)) is (branch_cases y)) (λ x y is. subst (λ z. PC (roll-Case z)) is (case_cases y)) (λ x y is. subst (λ z. PG (roll-GuardedBranch z)) is (guarded_cases y))

  pub stmts_are : (xs : List Stmt) → all_true (map stmt_spelled xs) ≡ true → Hid (in_all (map hidden_places xs)) → Bod (map judging xs)
  stmts_are [] e h = tt
  stmts_are (x ∷ xs) e h =
      let p = and_is (stmt_spelled x) (all_true (map stmt_spelled xs)) e in
      let q = hidden_two (hidden_places x) (in_all (map hidden_places xs)) h in
      (stmt_is x p.0 q.0, stmts_are xs p.1 q.1)
