-- Statements but FOR and WITH name variables that are there.
use Rattle.std.proofs.Common.{Bool, true, false, List, [], ◌∷◌, ◌++◌, Option, Some, None, sym, subst}
use Rattle.std.specs.List.{AllByRecursion}
use Rattle.ob_tree.specs.declared.pos.Pos.{Pos}
use Rattle.ob_types.specs.declared.types.TypeRef.{TypeRef}
use Rattle.ob_types.specs.declared.types.Signature.{Signature}
use Rattle.ob_types.specs.declared.typed.Label.{Label}
use Rattle.ob_types.specs.declared.typed.TypedExpr.{TypedExpr}
use Rattle.ob_types.specs.declared.typed.TypedStmt.{TypedStmt}
use Rattle.ob_types.specs.declared.typed.TypedStmt.TheVariants as stmt
use Rattle.ob_types.specs.declared.typed.TypedStmt.TheFolds.{fold-roll-TypedBranch, fold-roll-TypedCase}
use Rattle.ob_types.specs.declared.typed.TypedBranch.{TypedBranch}
use Rattle.ob_types.specs.declared.typed.TypedCase.{TypedCase}
use Rattle.ob_types.specs.TypedSyntax.{Stmt, Assign, CallProper, If, Case, While, Repeat, Loop, Exit, Return, NoElse, Else}
use Rattle.ob_types.specs.TypedView.{OneBranch, LabelledBody, stmt_layer, branch_layer, case_layer, designator_view, expr_view, branch_view, case_view, stmts_view, branches_view, cases_view}
use Rattle.ob_types.proofs.TypedViews.{view_assign, view_call_proper, view_if, view_case_none, view_case_some, view_while, view_repeat, view_loop, view_exit, view_return}
use Rattle.ob_scheme.specs.Context.{Context}
use Rattle.ob_rules.specs.declared.values.Place.{Place}
use Rattle.ob_rules.specs.declared.values.Valued.{Valued}
use Rattle.ob_rules.specs.declared.meant.Meant.{Meant}
use Rattle.ob_rules.specs.declared.meant.Meant.TheVariants as means
use Rattle.ob_rules.specs.declared.meant.Selects.{Selects}
use Rattle.ob_rules.specs.declared.meant.Where.TheVariants.{AsStatement, Elsewhere}
use Rattle.ob_rules.specs.declared.broken.Rule.TheVariants as rule
use Rattle.ob_rules.specs.Judged.{Judged, sound, both, ◌▷◌}
use Rattle.ob_rules.specs.Shapes.{Map, signature_at, is_array}
use Rattle.ob_rules.specs.Names.{Around, map_of}
use Rattle.ob_rules.specs.Values.{tree, fits}
use Rattle.ob_rules.specs.Phrases.{Phrase}
use Rattle.ob_rules.specs.Calls.{call_variable}
use Rattle.ob_rules.specs.Designators.{call_meant}
use Rattle.ob_rules.specs.Expressions.{Named, meant_by}
use Rattle.ob_rules.specs.Statements as rules
use Rattle.ob_rules.specs.Statements.{Judging, in_turn, in_turn_if, target, assignment_of, assigned_tree, assigns, assignment, call_value, done, place_called, called, condition, branch_of, empty_if_none, Labelled, labels, case_of, cases, selects_if, case_value, case_judged, returned, return_none, Conditional, in_loop, conditional, conditionals, if_statement, while_statement, repeat_statement, loop_statement, call_statement}
use Rattle.law_image_code.specs.There.{StmtsThere, BranchesThere, CasesThere, ExprThere}
use Rattle.law_program_scope.proofs.Setting.{E, S, Stands, PlaceOk, ValuedOk, MeantOk, Keeps, any_keeps, then_keeps, both_keep, made_keeps, unless_keeps, wants_keeps, tree_ok}
use Rattle.law_program_scope.proofs.Values.{text_tree_ok}
use Rattle.law_program_scope.proofs.Calls.{PhraseOk, call_variable_keeps}
use Rattle.law_program_scope.proofs.Functions.{named_s}
use Rattle.law_program_scope.proofs.Designators.{call_meant_keeps}
use Rattle.law_program_scope.proofs.Expressions.{NamedOk, meant_keeps}
use Rattle.law_lists.proofs.Lists.{Anything, IfThere, all_both}

abbrev pub AreOk : Context → List TypedStmt → Type 0
AreOk k ss = AllByRecursion (S k) ss

abbrev pub JudgingOk : Context → Judging → Type 0
JudgingOk k f = (u : Around) → Stands k u → Keeps (AreOk k) (f u)

abbrev pub AreJudging : Context → List Judging → Type 0
AreJudging k fs = AllByRecursion (JudgingOk k) fs

pub stmts_named : (k : Context) (ss : List TypedStmt) → AreOk k ss → StmtsThere k (stmts_view ss)
stmts_named k [] h = tt
stmts_named k (s ∷ ss) h = (h.0, stmts_named k ss h.1)

pub turn_keeps : (k : Context) (u : Around) → Stands k u → (fs : List Judging) → AreJudging k fs → Keeps (AreOk k) (in_turn fs u)
turn_keeps k u s [] g = tt
turn_keeps k u s (f ∷ fs) g =
    then_keeps (λ (p : List TypedStmt × List TypedStmt). AreOk k p.0 × AreOk k p.1) (AreOk k) (both (f u) (in_turn fs u)) (λ p. sound (p.0 ++ p.1)) (both_keep (AreOk k) (AreOk k) (f u) (in_turn fs u) (g.0 u s) (turn_keeps k u s fs g.1)) (λ p h. all_both (S k) p.0 p.1 h.0 h.1)

pub turn_if_keeps : (k : Context) (u : Around) → Stands k u → (o : Option (List Judging)) → IfThere (AreJudging k) o → Keeps (IfThere (AreOk k)) (in_turn_if o u)
turn_if_keeps k u s None g = tt
turn_if_keeps k u s (Some fs) g = made_keeps (AreOk k) (IfThere (AreOk k)) (λ x. Some x) (in_turn fs u) (turn_keeps k u s fs g) (λ x h. h)

-- ---- assignments and calls

target_keeps : (k : Context) (at : Pos) (m : Meant) → MeantOk k m → Keeps (PlaceOk k) (target at m)
target_keeps k at (means.Place p) h = unless_keeps (PlaceOk k) p.read_only rule.NotChangeable at p h
target_keeps k at m h = tt

assigned_tree_ok : (k : Context) (b : Bool) (x : Valued) → ValuedOk k x → E k (assigned_tree b x)
assigned_tree_ok k true x h = text_tree_ok k x h
assigned_tree_ok k false x h = tree_ok k x h

assigns_keep : (k : Context) (map : Map) (at : Pos) (p : Place) (x : Valued) → PlaceOk k p → ValuedOk k x → Keeps (AreOk k) (assigns map at p x)
assigns_keep k map at p x h g =
    let how = assignment_of map p x in
    let t = assigned_tree (is_array map p.of) x in
    wants_keeps (AreOk k) (fits map p.of x) rule.NotAssignable at (stmt.Assign p.designator.inner how t at ∷ [])
    (named_s k _ (Assign (designator_view p.designator.inner) how (expr_view t) at) (view_assign p.designator.inner how t at) (h.0, assigned_tree_ok k (is_array map p.of) x g), tt)

pub assignment_keeps : (k : Context) (u : Around) → Stands k u → (n : Named) (at : Pos) (x : Phrase) → NamedOk k n → PhraseOk k x → Keeps (AreOk k) (assignment u n at x)
assignment_keeps k u s n at x g h =
    let j = meant_by Elsewhere n u ▷ target n.ident.pos in
    then_keeps (λ (p : Place × Valued). PlaceOk k p.0 × ValuedOk k p.1) (AreOk k) (both j (x.value u)) (λ p. assigns (map_of u) at p.0 p.1)
    (both_keep (PlaceOk k) (ValuedOk k) j (x.value u) (then_keeps (MeantOk k) (PlaceOk k) (meant_by Elsewhere n u) (target n.ident.pos) (meant_keeps k Elsewhere n g u s) (λ m q. target_keeps k n.ident.pos m q)) (h.0 u s))
    (λ p q. assigns_keep k (map_of u) at p.0 p.1 q.0 q.1)

call_ok : (k : Context) (x : Valued) → ValuedOk k x → Keeps (AreOk k) (call_value x)
call_ok k x h = (named_s k _ (CallProper (expr_view (tree x))) (view_call_proper (tree x)) (tree_ok k x h), tt)

done_keeps : (k : Context) (m : Meant) → MeantOk k m → Keeps (AreOk k) (done m)
done_keeps k (means.Call x) h = call_ok k x h
done_keeps k (means.Statement s) h = (h, tt)
done_keeps k m h = tt

place_called_keeps : (k : Context) (u : Around) → Stands k u → (start : Pos) (p : Place) (o : Option Signature) → PlaceOk k p → Keeps (AreOk k) (place_called u start p o)
place_called_keeps k u s start p None h = tt
place_called_keeps k u s start p (Some g) h = then_keeps (ValuedOk k) (AreOk k) (call_variable u AsStatement start p g []) call_value (call_variable_keeps k u s AsStatement start p g [] tt h) (λ x q. call_ok k x q)

called_keeps : (k : Context) (u : Around) → Stands k u → (n : Named) (m : Meant) → MeantOk k m → Keeps (AreOk k) (called u n m)
called_keeps k u s n (means.Place p) h = place_called_keeps k u s n.ident.pos p (signature_at (map_of u) p.of) h
called_keeps k u s n (means.Constant v) h = tt
called_keeps k u s n (means.Call x) h = call_ok k x h
called_keeps k u s n (means.Statement t) h = (h, tt)
called_keeps k u s n m h = then_keeps (MeantOk k) (AreOk k) (call_meant u AsStatement n.ident.pos m []) done (call_meant_keeps k u s AsStatement n.ident.pos m [] tt h) (λ x q. done_keeps k x q)

pub call_keeps : (k : Context) (n : Named) → NamedOk k n → JudgingOk k (call_statement n)
call_keeps k n g u s = then_keeps (MeantOk k) (AreOk k) (meant_by AsStatement n u) (called u n) (meant_keeps k AsStatement n g u s) (λ m h. called_keeps k u s n m h)

-- ---- conditions and branches

condition_keeps : (k : Context) (u : Around) → Stands k u → (x : Phrase) → PhraseOk k x → Keeps (E k) (condition u x)
condition_keeps k u s x g = then_keeps (ValuedOk k) (E k) (x.value u) _ (g.0 u s) (λ v h. wants_keeps (E k) _ rule.NotBoolean x.start (tree v) (tree_ok k v h))

abbrev pub BranchOk : Context → TypedBranch → Type 0
BranchOk k b = ExprThere k (branch_view b).test × StmtsThere k (branch_view b).body

pub branch_keeps : (k : Context) (c : Judged TypedExpr) (b : Judged (List TypedStmt)) → Keeps (E k) c → Keeps (AreOk k) b → Keeps (BranchOk k) (branch_of c b)
branch_keeps k c b h g =
    made_keeps (λ (p : TypedExpr × List TypedStmt). E k p.0 × AreOk k p.1) (BranchOk k) _ (both c b) (both_keep (E k) (AreOk k) c b h g)
    (λ p q. subst (λ (x : OneBranch). ExprThere k x.test × StmtsThere k x.body) (sym (fold-roll-TypedBranch Stmt OneBranch LabelledBody stmt_layer branch_layer case_layer (record { test = p.0; body = p.1 }))) (q.0, stmts_named k p.1 q.1))

pub branches_named : (k : Context) (bs : List TypedBranch) → AllByRecursion (BranchOk k) bs → BranchesThere k (branches_view bs)
branches_named k [] h = tt
branches_named k (b ∷ bs) h = (h.0.0, (h.0.1, branches_named k bs h.1))

abbrev pub ConditionalOk : Context → Conditional → Type 0
ConditionalOk k c = PhraseOk k c.test × AreJudging k c.body

conditionals_keep : (k : Context) (u : Around) → Stands k u → (cs : List Conditional) → AllByRecursion (ConditionalOk k) cs → Keeps (AllByRecursion (BranchOk k)) (conditionals u cs)
conditionals_keep k u s [] g = tt
conditionals_keep k u s (c ∷ cs) g =
    then_keeps (λ (p : TypedBranch × List TypedBranch). BranchOk k p.0 × AllByRecursion (BranchOk k) p.1) (AllByRecursion (BranchOk k)) (both (conditional u c) (conditionals u cs)) (λ p. sound (p.0 ∷ p.1))
    (both_keep (BranchOk k) (AllByRecursion (BranchOk k)) (conditional u c) (conditionals u cs) (branch_keeps k (condition u c.test) (in_turn c.body u) (condition_keeps k u s c.test g.0.0) (turn_keeps k u s c.body g.0.1)) (conditionals_keep k u s cs g.1)) (λ p h. h)

empty_ok : (k : Context) (o : Option (List TypedStmt)) → IfThere (AreOk k) o → AreOk k (empty_if_none o)
empty_ok k None h = tt
empty_ok k (Some xs) h = h

pub if_keeps : (k : Context) (bs : List Conditional) (o : Option (List Judging)) → AllByRecursion (ConditionalOk k) bs → IfThere (AreJudging k) o → JudgingOk k (if_statement bs o)
if_keeps k bs o g h u s =
    then_keeps (λ (p : List TypedBranch × Option (List TypedStmt)). AllByRecursion (BranchOk k) p.0 × IfThere (AreOk k) p.1) (AreOk k) (both (conditionals u bs) (in_turn_if o u)) _
    (both_keep (AllByRecursion (BranchOk k)) (IfThere (AreOk k)) (conditionals u bs) (in_turn_if o u) (conditionals_keep k u s bs g) (turn_if_keeps k u s o h))
    (λ p q. (named_s k _ (If (branches_view p.0) (stmts_view (empty_if_none p.1))) (view_if p.0 (empty_if_none p.1)) (branches_named k p.0 q.0, stmts_named k (empty_if_none p.1) (empty_ok k p.1 q.1)), tt))

pub while_keeps : (k : Context) (at : Pos) (x : Phrase) (body : List Judging) → PhraseOk k x → AreJudging k body → JudgingOk k (while_statement at x body)
while_keeps k at x body g h u s =
    then_keeps (λ (p : TypedExpr × List TypedStmt). E k p.0 × AreOk k p.1) (AreOk k) (both (condition u x) (in_turn body u)) _ (both_keep (E k) (AreOk k) (condition u x) (in_turn body u) (condition_keeps k u s x g) (turn_keeps k u s body h))
    (λ p q. (named_s k _ (While (expr_view p.0) (stmts_view p.1) at) (view_while p.0 p.1 at) (q.0, stmts_named k p.1 q.1), tt))

pub repeat_keeps : (k : Context) (at : Pos) (body : List Judging) (x : Phrase) → AreJudging k body → PhraseOk k x → JudgingOk k (repeat_statement at body x)
repeat_keeps k at body x h g u s =
    then_keeps (λ (p : List TypedStmt × TypedExpr). AreOk k p.0 × E k p.1) (AreOk k) (both (in_turn body u) (condition u x)) _ (both_keep (AreOk k) (E k) (in_turn body u) (condition u x) (turn_keeps k u s body h) (condition_keeps k u s x g))
    (λ p q. (named_s k _ (Repeat (stmts_view p.0) (expr_view p.1) at) (view_repeat p.0 p.1 at) (stmts_named k p.0 q.0, q.1), tt))

pub loop_keeps : (k : Context) (at : Pos) (body : List Judging) → AreJudging k body → JudgingOk k (loop_statement at body)
loop_keeps k at body h u s =
    then_keeps (AreOk k) (AreOk k) (in_turn body (in_loop u)) _ (turn_keeps k (in_loop u) (record { known = s.known }) body h)
    (λ b q. (named_s k _ (Loop (stmts_view b) at) (view_loop b at) (stmts_named k b q), tt))

-- ---- CASE

abbrev CaseOk : Context → TypedCase → Type 0
CaseOk k c = StmtsThere k (case_view c).body

case_of_keeps : (k : Context) (ls : Judged (List Label)) (b : Judged (List TypedStmt)) → Keeps (AreOk k) b → Keeps (CaseOk k) (case_of ls b)
case_of_keeps k ls b g =
    made_keeps (λ (p : List Label × List TypedStmt). Unit {0} × AreOk k p.1) (CaseOk k) _ (both ls b) (both_keep Anything (AreOk k) ls b (any_keeps ls) g)
    (λ p q. subst (λ (x : LabelledBody). StmtsThere k x.body) (sym (fold-roll-TypedCase Stmt OneBranch LabelledBody stmt_layer branch_layer case_layer (record { labels = p.0; body = p.1 }))) (stmts_named k p.1 q.1))

cases_named : (k : Context) (cs : List TypedCase) → AllByRecursion (CaseOk k) cs → CasesThere k (cases_view cs)
cases_named k [] h = tt
cases_named k (c ∷ cs) h = (h.0, cases_named k cs h.1)

cases_keep : (k : Context) (u : Around) → Stands k u → (s : Option Selects) (before : List Label) (cs : List Labelled) → AllByRecursion (λ (c : Labelled). AreJudging k c.body) cs → Keeps (AllByRecursion (CaseOk k)) (cases u s before cs)
cases_keep k u st s before [] g = tt
cases_keep k u st s before (c ∷ cs) g =
    let ls = labels u s before c.labels in
    then_keeps (λ (p : TypedCase × List TypedCase). CaseOk k p.0 × AllByRecursion (CaseOk k) p.1) (AllByRecursion (CaseOk k)) (both (case_of ls.found (in_turn c.body u)) (cases u s ls.before cs)) (λ p. sound (p.0 ∷ p.1))
    (both_keep (CaseOk k) (AllByRecursion (CaseOk k)) (case_of ls.found (in_turn c.body u)) (cases u s ls.before cs) (case_of_keeps k ls.found (in_turn c.body u) (turn_keeps k u st c.body g.0)) (cases_keep k u st s ls.before cs g.1)) (λ p h. h)

case_s : (k : Context) (x : TypedExpr) (cs : List TypedCase) (o : Option (List TypedStmt)) (at : Pos) → E k x → AllByRecursion (CaseOk k) cs → IfThere (AreOk k) o → S k (stmt.Case x cs o at)
case_s k x cs None at h g i = named_s k _ (Case (expr_view x) (cases_view cs) NoElse at) (view_case_none x cs at) (h, (cases_named k cs g, tt))
case_s k x cs (Some body) at h g i = named_s k _ (Case (expr_view x) (cases_view cs) (Else (stmts_view body)) at) (view_case_some x cs body at) (h, (cases_named k cs g, stmts_named k body i))

pub case_keeps : (k : Context) (u : Around) → Stands k u → (at : Pos) (x : Phrase) (cs : List Labelled) (o : Option (List Judging)) → PhraseOk k x → AllByRecursion (λ (c : Labelled). AreJudging k c.body) cs → IfThere (AreJudging k) o → Keeps (AreOk k) (rules.case u at x cs o)
case_keeps k u s at x cs o g h i =
    let j = case_judged u x in
    let c = cases u (selects_if (map_of u) j.node) [] cs in
    then_keeps (λ (p : Valued × (List TypedCase × Option (List TypedStmt))). ValuedOk k p.0 × (AllByRecursion (CaseOk k) p.1.0 × IfThere (AreOk k) p.1.1)) (AreOk k) (both j (both c (in_turn_if o u))) _
    (both_keep (ValuedOk k) (λ (p : List TypedCase × Option (List TypedStmt)). AllByRecursion (CaseOk k) p.0 × IfThere (AreOk k) p.1) j (both c (in_turn_if o u))
    (then_keeps (ValuedOk k) (ValuedOk k) (x.value u) (case_value (map_of u) x.start) (g.0 u s) (λ v q. wants_keeps (ValuedOk k) _ rule.UnfitCase x.start v q))
    (both_keep (AllByRecursion (CaseOk k)) (IfThere (AreOk k)) c (in_turn_if o u) (cases_keep k u s (selects_if (map_of u) j.node) [] cs h) (turn_if_keeps k u s o i)))
    (λ p q. (case_s k (tree p.0) p.1.0 p.1.1 at (tree_ok k p.0 q.0) q.1.0 q.1.1, tt))

-- ---- EXIT and RETURN

pub exit_keeps : (k : Context) (u : Around) (at : Pos) → Keeps (AreOk k) (rules.exit u at)
exit_keeps k u at = wants_keeps (AreOk k) u.in_loop rule.MisplacedExit at (stmt.Exit ∷ []) (named_s k stmt.Exit Exit view_exit tt, tt)

returned_keeps : (k : Context) (map : Map) (at : Pos) (o : Option TypeRef) (x : Valued) → ValuedOk k x → Keeps (AreOk k) (returned map at o x)
returned_keeps k map at None x h = tt
returned_keeps k map at (Some t) x h = wants_keeps (AreOk k) (fits map t x) rule.UnfitReturn at (stmt.Return (Some (tree x)) ∷ []) (named_s k _ (Return (Some (expr_view (tree x)))) (view_return (Some (tree x))) (tree_ok k x h), tt)

none_keeps : (k : Context) (at : Pos) (o : Option TypeRef) → Keeps (AreOk k) (return_none at o)
none_keeps k at None = (named_s k _ (Return None) (view_return None) tt, tt)
none_keeps k at (Some t) = tt

pub return_keeps : (k : Context) (u : Around) → Stands k u → (at : Pos) (o : Option Phrase) → IfThere (PhraseOk k) o → Keeps (AreOk k) (rules.return u at o)
return_keeps k u s at None g = none_keeps k at u.result
return_keeps k u s at (Some x) g = then_keeps (ValuedOk k) (AreOk k) (x.value u) (returned (map_of u) at u.result) (g.0 u s) (λ v h. returned_keeps k (map_of u) at u.result v h)
