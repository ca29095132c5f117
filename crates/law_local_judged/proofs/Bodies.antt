-- What statements mention, and statements one after the other.
use Rattle.std.proofs.Common.{◌≡◌, subst, List, [], ◌∷◌, ◌++◌, Option, Some, None}
use Rattle.std.specs.Prelude.{ℤ}
use Rattle.std.specs.List.{AllByRecursion}
use Rattle.ob_tree.specs.declared.pos.Pos.{Pos}
use Rattle.ob_tree.specs.declared.names.QName.{QName}
use Rattle.ob_types.specs.declared.desc.Desc.{Desc}
use Rattle.ob_types.specs.declared.typed.Width.{Width}
use Rattle.ob_types.specs.declared.typed.Variable.{Variable}
use Rattle.ob_types.specs.declared.typed.Assigned.{Assigned}
use Rattle.ob_types.specs.declared.typed.Label.{Label}
use Rattle.ob_types.specs.declared.typed.Designator.{Designator}
use Rattle.ob_types.specs.declared.typed.TypedExpr.{TypedExpr}
use Rattle.ob_types.specs.declared.typed.TypedStmt.{TypedStmt}
use Rattle.ob_types.specs.declared.typed.TypedStmt.TheVariants as stmt
use Rattle.ob_types.specs.declared.typed.TypedStmt.TheFolds.{fold-roll-TypedBranch, fold-roll-TypedCase}
use Rattle.ob_types.specs.declared.typed.TypedBranch.{TypedBranch, roll-TypedBranch}
use Rattle.ob_types.specs.declared.typed.TypedCase.{TypedCase, roll-TypedCase}
use Rattle.ob_types.specs.TypedKinds.{variable_type}
use Rattle.ob_types.specs.TypedSyntax.{Stmt}
use Rattle.ob_types.specs.TypedView.{designator_view, expr_view, OneBranch, LabelledBody, stmt_layer, branch_layer, case_layer, stmt_view, branch_view, case_view, stmts_view, branches_view, cases_view}
use Rattle.ob_types.proofs.TypedViews.{view_assign, view_call_proper, view_if, view_case_none, view_case_some, view_while, view_repeat, view_for, view_loop, view_return, view_with_none, view_with_some}
use Rattle.ob_uses_roots.specs.Counts.{counts_of_designator, counts_of_expr, target_counts, counts_of, counts_of_all, counts_of_branches, counts_of_cases}
use Rattle.ob_rules.specs.Judged.{Judged, both, made}
use Rattle.ob_rules.specs.Names.{Around}
use Rattle.ob_rules.specs.Statements.{Judging, in_turn, in_turn_if, branch_of}
use Rattle.law_local_judged.specs.Said.{CountsIn, DesignatorIn, ExprIn, StmtIn}
use Rattle.law_local_judged.specs.Followed.{beside, Agrees, Follows}
use Rattle.law_local_judged.proofs.Following.{follows_sound, follows_weaker, follows_made, follows_both}
use Rattle.law_local_judged.proofs.Mentioned.{counts_left, counts_right}
use Rattle.law_lists.proofs.Lists.{all_back, all_front}

module _ (P : QName → Type 0) where
  abbrev pub StmtsIn : List TypedStmt → Type 0
  StmtsIn ys = AllByRecursion (StmtIn P) ys

  abbrev OneIn : OneBranch → Type 0
  OneIn b = CountsIn P (counts_of_expr b.test) × CountsIn P (counts_of_all b.body)

  abbrev pub BranchIn : TypedBranch → Type 0
  BranchIn b = OneIn (branch_view b)

  abbrev LabelledIn : LabelledBody → Type 0
  LabelledIn c = CountsIn P (counts_of_all c.body)

  abbrev pub CaseIn : TypedCase → Type 0
  CaseIn c = LabelledIn (case_view c)

  abbrev pub IfIn : Option (List TypedStmt) → Type 0
  IfIn None = Unit {0}
  IfIn (Some ys) = AllByRecursion (StmtIn P) ys

  abbrev SI : Stmt → Type 0
  SI x = CountsIn P (counts_of x)

  -- ---- lists

  pub stmts_in : (ys : List TypedStmt) → CountsIn P (counts_of_all (stmts_view ys)) → StmtsIn ys
  stmts_in [] h = tt
  stmts_in (y ∷ ys) h = (counts_left P (counts_of (stmt_view y)) (counts_of_all (stmts_view ys)) h, stmts_in ys (counts_right P (counts_of (stmt_view y)) (counts_of_all (stmts_view ys)) h))

  branches_in : (bs : List TypedBranch) → CountsIn P (counts_of_branches (branches_view bs)) → AllByRecursion BranchIn bs
  branches_in [] h = tt
  branches_in (b ∷ bs) h =
      let cs = counts_of_expr (branch_view b).test in
      let ds = counts_of_all (branch_view b).body in
      let l = counts_left P (cs ++ ds) (counts_of_branches (branches_view bs)) h in
      ((counts_left P cs ds l, counts_right P cs ds l), branches_in bs (counts_right P (cs ++ ds) (counts_of_branches (branches_view bs)) h))

  cases_in : (cs : List TypedCase) → CountsIn P (counts_of_cases (cases_view cs)) → AllByRecursion CaseIn cs
  cases_in [] h = tt
  cases_in (c ∷ cs) h = (counts_left P (counts_of_all (case_view c).body) (counts_of_cases (cases_view cs)) h, cases_in cs (counts_right P (counts_of_all (case_view c).body) (counts_of_cases (cases_view cs)) h))

  -- ---- branches and cases

  branch_seen : (t : TypedExpr) (ys : List TypedStmt) → branch_view (roll-TypedBranch (record { test = t; body = ys })) ≡ record { test = expr_view t; body = stmts_view ys }
  branch_seen t ys = fold-roll-TypedBranch Stmt OneBranch LabelledBody stmt_layer branch_layer case_layer (record { test = t; body = ys })

  pub branch_mentions : (t : TypedExpr) (ys : List TypedStmt) → BranchIn (roll-TypedBranch (record { test = t; body = ys })) → ExprIn P t × StmtsIn ys
  branch_mentions t ys h = let k = subst OneIn (branch_seen t ys) h in (k.0, stmts_in ys k.1)

  case_seen : (ls : List Label) (ys : List TypedStmt) → case_view (roll-TypedCase (record { labels = ls; body = ys })) ≡ record { labels = ls; body = stmts_view ys }
  case_seen ls ys = fold-roll-TypedCase Stmt OneBranch LabelledBody stmt_layer branch_layer case_layer (record { labels = ls; body = ys })

  pub case_mentions : (ls : List Label) (ys : List TypedStmt) → CaseIn (roll-TypedCase (record { labels = ls; body = ys })) → StmtsIn ys
  case_mentions ls ys h = stmts_in ys (subst LabelledIn (case_seen ls ys) h)

  -- ---- statements

  pub assign_mentions : (x : Designator) (how : Assigned) (y : TypedExpr) (at : Pos) → StmtIn P (stmt.Assign x how y at) → DesignatorIn P x × ExprIn P y
  assign_mentions x how y at h =
      let k = subst SI (view_assign x how y at) h in
      let cs = counts_of_designator (designator_view x) in
      let ds = counts_of_expr (expr_view y) in
      let l = counts_left P (cs ++ ds) (target_counts how (variable_type (designator_view x))) k in
      (counts_left P cs ds l, counts_right P cs ds l)

  pub call_proper_mentions : (x : TypedExpr) → StmtIn P (stmt.Call x) → ExprIn P x
  call_proper_mentions x h = subst SI (view_call_proper x) h

  pub if_mentions : (bs : List TypedBranch) (ys : List TypedStmt) → StmtIn P (stmt.If bs ys) → AllByRecursion BranchIn bs × StmtsIn ys
  if_mentions bs ys h =
      let k = subst SI (view_if bs ys) h in
      (branches_in bs (counts_left P (counts_of_branches (branches_view bs)) (counts_of_all (stmts_view ys)) k), stmts_in ys (counts_right P (counts_of_branches (branches_view bs)) (counts_of_all (stmts_view ys)) k))

  pub case_stmt_mentions : (x : TypedExpr) (cs : List TypedCase) (o : Option (List TypedStmt)) (at : Pos) → StmtIn P (stmt.Case x cs o at) → ExprIn P x × (AllByRecursion CaseIn cs × IfIn o)
  case_stmt_mentions x cs None at h =
      let k = subst SI (view_case_none x cs at) h in
      let es = counts_of_expr (expr_view x) in
      let ds = counts_of_cases (cases_view cs) in
      let l = counts_left P (es ++ ds) [] k in
      (counts_left P es ds l, (cases_in cs (counts_right P es ds l), tt))
  case_stmt_mentions x cs (Some ys) at h =
      let k = subst SI (view_case_some x cs ys at) h in
      let es = counts_of_expr (expr_view x) in
      let ds = counts_of_cases (cases_view cs) in
      let l = counts_left P (es ++ ds) (counts_of_all (stmts_view ys)) k in
      (counts_left P es ds l, (cases_in cs (counts_right P es ds l), stmts_in ys (counts_right P (es ++ ds) (counts_of_all (stmts_view ys)) k)))

  pub while_mentions : (x : TypedExpr) (ys : List TypedStmt) (at : Pos) → StmtIn P (stmt.While x ys at) → ExprIn P x × StmtsIn ys
  while_mentions x ys at h =
      let k = subst SI (view_while x ys at) h in
      (counts_left P (counts_of_expr (expr_view x)) (counts_of_all (stmts_view ys)) k, stmts_in ys (counts_right P (counts_of_expr (expr_view x)) (counts_of_all (stmts_view ys)) k))

  pub repeat_mentions : (ys : List TypedStmt) (x : TypedExpr) (at : Pos) → StmtIn P (stmt.Repeat ys x at) → StmtsIn ys × ExprIn P x
  repeat_mentions ys x at h =
      let k = subst SI (view_repeat ys x at) h in
      (stmts_in ys (counts_left P (counts_of_all (stmts_view ys)) (counts_of_expr (expr_view x)) k), counts_right P (counts_of_all (stmts_view ys)) (counts_of_expr (expr_view x)) k)

  pub for_mentions : (v : Variable) (w : Width) (x y : TypedExpr) (step : ℤ) (ys : List TypedStmt) (at : Pos) → StmtIn P (stmt.For v w x y step ys at) → (ExprIn P x × ExprIn P y) × StmtsIn ys
  for_mentions v w x y step ys at h =
      let k = subst SI (view_for v w x y step ys at) h in
      let cs = counts_of_expr (expr_view x) in
      let ds = counts_of_expr (expr_view y) in
      let l = counts_left P (cs ++ ds) (counts_of_all (stmts_view ys)) k in
      ((counts_left P cs ds l, counts_right P cs ds l), stmts_in ys (counts_right P (cs ++ ds) (counts_of_all (stmts_view ys)) k))

  pub loop_mentions : (ys : List TypedStmt) (at : Pos) → StmtIn P (stmt.Loop ys at) → StmtsIn ys
  loop_mentions ys at h = stmts_in ys (subst SI (view_loop ys at) h)

  pub return_mentions : (x : TypedExpr) → StmtIn P (stmt.Return (Some x)) → ExprIn P x
  return_mentions x h = subst SI (view_return (Some x)) h

  pub with_mentions : (bs : List TypedBranch) (o : Option (List TypedStmt)) (at : Pos) → StmtIn P (stmt.With bs o at) → AllByRecursion BranchIn bs × IfIn o
  with_mentions bs None at h = let k = subst SI (view_with_none bs at) h in (branches_in bs (counts_left P (counts_of_branches (branches_view bs)) [] k), tt)
  with_mentions bs (Some ys) at h =
      let k = subst SI (view_with_some bs ys at) h in
      (branches_in bs (counts_left P (counts_of_branches (branches_view bs)) (counts_of_all (stmts_view ys)) k), stmts_in ys (counts_right P (counts_of_branches (branches_view bs)) (counts_of_all (stmts_view ys)) k))

  -- ---- statements one after the other

  abbrev pub SF : Type 0 → Judged (List TypedStmt) → Judged (List TypedStmt) → Type 0
  SF R i j = Follows P (λ ys. Unit {0}) (AllByRecursion (StmtIn P)) R i j

  -- two parts and what is made of them
  pub two_made : {A B C : Type 0} (T M : A → Type 0) (U N : B → Type 0) (V O : C → Type 0) (F : A × B → C) (i j : Judged A) (k l : Judged B) → Follows P T M (Unit {0}) i j → Follows P U N (Unit {0}) k l
      → ((p : A × B) → T p.0 × U p.1 → V (F p)) → ((p : A × B) → O (F p) → M p.0 × N p.1) → Follows P V O (Unit {0}) (made F (both i k)) (made F (both j l))
  two_made T M U N V O F i j k l h g t m =
      follows_weaker P V O (Unit {0} × Unit {0}) (Unit {0}) (made F (both i k)) (made F (both j l)) (λ r. tt)
      (follows_made P (λ p. T p.0 × U p.1) (λ p. M p.0 × N p.1) V O (Unit {0} × Unit {0}) F (both i k) (both j l) (follows_both P T M U N (Unit {0}) (Unit {0}) i j k l h g) t (λ p x n. m p n))

  -- WHAT IS JUDGED AS STATEMENTS follows wherever it stands
  abbrev pub JudgingFollows : Judging → Type 0
  JudgingFollows f = (u : Around) (s : QName → Option Desc) → Agrees P u s → SF (Unit {0}) (f u) (f (beside u s))

  abbrev pub BodyFollows : List Judging → Type 0
  BodyFollows fs = AllByRecursion JudgingFollows fs

  pub in_turn_follows : (fs : List Judging) → BodyFollows fs → (u : Around) (s : QName → Option Desc) → Agrees P u s → SF (Unit {0}) (in_turn fs u) (in_turn fs (beside u s))
  in_turn_follows [] h u s a = follows_sound P (λ ys. Unit {0}) (AllByRecursion (StmtIn P)) (Unit {0}) [] tt (λ m. tt)
  in_turn_follows (f ∷ fs) h u s a =
      two_made (λ ys. Unit {0}) (AllByRecursion (StmtIn P)) (λ ys. Unit {0}) (AllByRecursion (StmtIn P)) (λ ys. Unit {0}) (AllByRecursion (StmtIn P)) (λ p. p.0 ++ p.1) (f u) (f (beside u s)) (in_turn fs u) (in_turn fs (beside u s)) (h.0 u s a) (in_turn_follows fs h.1 u s a)
      (λ p t. tt) (λ p m. (all_front (StmtIn P) p.0 p.1 m, all_back (StmtIn P) p.0 p.1 m))

  abbrev pub IfFollows : Option (List Judging) → Type 0
  IfFollows None = Unit {0}
  IfFollows (Some fs) = AllByRecursion JudgingFollows fs

  abbrev pub OF : Judged (Option (List TypedStmt)) → Judged (Option (List TypedStmt)) → Type 0
  OF i j = Follows P (λ o. Unit {0}) IfIn (Unit {0}) i j

  pub in_turn_if_follows : (o : Option (List Judging)) → IfFollows o → (u : Around) (s : QName → Option Desc) → Agrees P u s → OF (in_turn_if o u) (in_turn_if o (beside u s))
  in_turn_if_follows None h u s a = follows_sound P (λ o. Unit {0}) IfIn (Unit {0}) None tt (λ m. tt)
  in_turn_if_follows (Some fs) h u s a = follows_made P (λ ys. Unit {0}) (AllByRecursion (StmtIn P)) (λ o. Unit {0}) IfIn (Unit {0}) (λ x. Some x) (in_turn fs u) (in_turn fs (beside u s)) (in_turn_follows fs h u s a) (λ x t. tt) (λ x t m. m)

  -- ---- branches and cases of parts that follow

  abbrev pub BF : Judged TypedBranch → Judged TypedBranch → Type 0
  BF i j = Follows P (λ b. Unit {0}) BranchIn (Unit {0}) i j

  pub branch_follows : (i j : Judged TypedExpr) (k l : Judged (List TypedStmt)) → Follows P (λ x. Unit {0}) (ExprIn P) (Unit {0}) i j → SF (Unit {0}) k l → BF (branch_of i k) (branch_of j l)
  branch_follows i j k l h g = two_made (λ x. Unit {0}) (ExprIn P) (λ ys. Unit {0}) (AllByRecursion (StmtIn P)) (λ b. Unit {0}) BranchIn (λ p. roll-TypedBranch (record { test = p.0; body = p.1 })) i j k l h g (λ p t. tt) (λ p m. branch_mentions p.0 p.1 m)
