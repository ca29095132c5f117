-- Statements fit where their parts do.
use Rattle.std.proofs.Common.{◌≡◌, Bool, true, false, List, [], ◌∷◌, ◌++◌, map, Option, Some, None, refl, sym, subst, arith}
use Rattle.std.specs.Prelude.{ℤ, FitsSigned}
use Rattle.std.specs.List.{AllByRecursion}
use Rattle.ob_tree.specs.declared.pos.Pos.{Pos}
use Rattle.ob_tree.specs.declared.names.QName.{QName}
use Rattle.ob_tree.specs.declared.ident.Ident.{Ident}
use Rattle.ob_tree.specs.declared.stmt.Guard.{Guard}
use Rattle.ob_types.specs.declared.types.TypeRef.{TypeRef}
use Rattle.ob_types.specs.declared.types.Signature.{Signature}
use Rattle.ob_types.specs.declared.typed.Label.{Label}
use Rattle.ob_types.specs.declared.typed.Variable.{Variable}
use Rattle.ob_types.specs.declared.typed.Guarded.{Guarded}
use Rattle.ob_types.specs.declared.typed.Guarded.TheVariants as guarded
use Rattle.ob_types.specs.declared.typed.TypedExpr.{TypedExpr}
use Rattle.ob_types.specs.declared.typed.TypedExpr.TheVariants as e
use Rattle.ob_types.specs.declared.typed.TypedStmt.{TypedStmt}
use Rattle.ob_types.specs.declared.typed.TypedStmt.TheVariants as stmt
use Rattle.ob_types.specs.declared.typed.TypedStmt.TheFolds.{fold-roll-TypedBranch, fold-roll-TypedCase}
use Rattle.ob_types.specs.declared.typed.TypedBranch.{TypedBranch}
use Rattle.ob_types.specs.declared.typed.TypedCase.{TypedCase}
use Rattle.ob_types.specs.TypedSyntax.{Stmt, Assign, CallProper, If, Case, While, Repeat, Loop, Exit, Return, With, NoElse, Else, ValueOf, IsPointer, IsRecord}
use Rattle.ob_types.specs.TypedView.{OneBranch, LabelledBody, stmt_layer, branch_layer, case_layer, designator_view, expr_view, branch_view, case_view, stmts_view, branches_view, cases_view}
use Rattle.ob_types.proofs.TypedViews.{view_value_of, view_is_pointer, view_is_record, view_assign, view_call_proper, view_if, view_case_none, view_case_some, view_while, view_repeat, view_for, view_loop, view_exit, view_return, view_with_none, view_with_some}
use Rattle.ob_rules.specs.declared.entity.Entity.{Entity}
use Rattle.ob_rules.specs.declared.entity.Known.{Known}
use Rattle.ob_rules.specs.declared.entity.Entity.TheVariants as entity
use Rattle.ob_rules.specs.declared.values.Place.{Place}
use Rattle.ob_rules.specs.declared.values.Valued.{Valued}
use Rattle.ob_rules.specs.declared.meant.Meant.{Meant}
use Rattle.ob_rules.specs.declared.meant.Meant.TheVariants as means
use Rattle.ob_rules.specs.declared.meant.Selects.{Selects}
use Rattle.ob_rules.specs.declared.meant.Where.TheVariants.{InExpression, AsStatement, Elsewhere}
use Rattle.ob_rules.specs.Judged.{Judged, sound, both, made, ◌▷◌}
use Rattle.ob_rules.specs.Shapes.{Map, signature_at, is_array}
use Rattle.ob_rules.specs.Names.{Around, map_of, named, find_name, type_named}
use Rattle.ob_rules.specs.Values.{tree, fits}
use Rattle.ob_rules.specs.Phrases.{Phrase, Dot}
use Rattle.ob_rules.specs.Calls.{call_variable}
use Rattle.ob_rules.specs.Designators.{variable_named, call_meant, guard_of}
use Rattle.ob_rules.specs.Expressions.{Named, meant_by, Ranged, constant_value}
use Rattle.ob_rules.specs.Types.{first_of}
use Rattle.ob_rules.specs.Statements as rules
use Rattle.ob_rules.specs.Statements.{Judging, in_turn, in_turn_if, target, assignment_of, assigned_tree, assigns, assignment, call_value, done, place_called, called, condition, branch_of, empty_if_none, Labelled, labels, case_of, cases, selects_if, case_value, case_judged, for_variable, integer_place, for_bound, bound_if, for_with, for_step, returned, return_none, with_module, with_named, with_qualified_by, with_qualified, with_meant, with_place, with_guard, guard_test, variable_meant, guarded_around, type_if, guarded_body, GuardedBody, tested, with_variable, with_test, with_branch, Conditional, in_loop, conditional, conditionals, with_branches, if_statement, while_statement, repeat_statement, loop_statement, with_statement, call_statement, label_value, label_if, label_of, label_as, range_if, both_ends, high_if, label, step_value}
use Rattle.std.specs.Int.{w32}
use Rattle.ob_types.specs.declared.value.Value.{Value}
use Rattle.ob_types.specs.declared.value.Value.TheVariants as literal
use Rattle.ob_rules.specs.declared.meant.Selects.TheVariants as selecting
use Rattle.ob_rules.specs.declared.broken.Rule.TheVariants as rule
use Rattle.law_spelling.specs.Coded.{PosFits, LabelIsCoded}
use Rattle.law_spelling_stmts.specs.Fits.{ExprFits, StmtsFit, BranchesFit, CasesFit}
use Rattle.law_spelling_stmts.proofs.Setting.{Con, int_fits, small_fits, Setting, E, S, PlaceOk, ValuedOk, MeantOk, Keeps, any_keeps, then_keeps, both_keep, made_keeps, unless_keeps, wants_keeps, wants_so, named_e, tree_ok}
use Rattle.law_spelling_stmts.proofs.Values.{text_tree_ok}
use Rattle.law_spelling_stmts.proofs.Calls.{PhraseOk, call_variable_keeps}
use Rattle.law_spelling_stmts.proofs.Functions.{named_s}
use Rattle.law_spelling_stmts.proofs.Designators.{variable_keeps, call_meant_keeps, designates_keeps}
use Rattle.law_spelling_stmts.proofs.Expressions.{NamedOk, meant_keeps, RangedOk, constant_keeps}
use Rattle.law_lists.proofs.Lists.{Anything, IfThere, all_both}

abbrev pub AreOk : Setting → Bool → List TypedStmt → Type 0
AreOk k l ss = AllByRecursion (S k l) ss

abbrev pub JudgingOk : Setting → Judging → Type 0
JudgingOk k f = (u : Around) → k.Stands u → Keeps (AreOk k u.in_loop) (f u)

abbrev pub AreJudging : Setting → List Judging → Type 0
AreJudging k fs = AllByRecursion (JudgingOk k) fs

pub stmts_fit : (k : Setting) (l : Bool) (ss : List TypedStmt) → AreOk k l ss → StmtsFit k.words l (stmts_view ss)
stmts_fit k l [] h = tt
stmts_fit k l (s ∷ ss) h = (h.0, stmts_fit k l ss h.1)

pub turn_keeps : (k : Setting) (u : Around) → k.Stands u → (fs : List Judging) → AreJudging k fs → Keeps (AreOk k u.in_loop) (in_turn fs u)
turn_keeps k u s [] g = tt
turn_keeps k u s (f ∷ fs) g =
    let l = u.in_loop in
    then_keeps (λ (p : List TypedStmt × List TypedStmt). AreOk k l p.0 × AreOk k l p.1) (AreOk k l) (both (f u) (in_turn fs u)) (λ p. sound (p.0 ++ p.1)) (both_keep (AreOk k l) (AreOk k l) (f u) (in_turn fs u) (g.0 u s) (turn_keeps k u s fs g.1)) (λ p h. all_both (S k l) p.0 p.1 h.0 h.1)

turn_if_keeps : (k : Setting) (u : Around) → k.Stands u → (o : Option (List Judging)) → IfThere (AreJudging k) o → Keeps (IfThere (AreOk k u.in_loop)) (in_turn_if o u)
turn_if_keeps k u s None g = tt
turn_if_keeps k u s (Some fs) g = made_keeps (AreOk k u.in_loop) (IfThere (AreOk k u.in_loop)) (λ x. Some x) (in_turn fs u) (turn_keeps k u s fs g) (λ x h. h)

-- ---- assignments and calls

target_keeps : (k : Setting) (at : Pos) (m : Meant) → MeantOk k m → Keeps (PlaceOk k) (target at m)
target_keeps k at (means.Place p) h = unless_keeps (PlaceOk k) p.read_only rule.NotChangeable at p h
target_keeps k at m h = tt

assigned_tree_ok : (k : Setting) (b : Bool) (x : Valued) → ValuedOk k x → E k (assigned_tree b x)
assigned_tree_ok k true x h = text_tree_ok k x h
assigned_tree_ok k false x h = tree_ok k x h

assigns_keep : (k : Setting) (l : Bool) (map : Map) (at : Pos) → PosFits at → (p : Place) (x : Valued) → PlaceOk k p → ValuedOk k x → Keeps (AreOk k l) (assigns map at p x)
assigns_keep k l map at f p x h g =
    let how = assignment_of map p x in
    let t = assigned_tree (is_array map p.of) x in
    wants_keeps (AreOk k l) (fits map p.of x) rule.NotAssignable at (stmt.Assign p.designator.inner how t at ∷ [])
    (named_s k l _ (Assign (designator_view p.designator.inner) how (expr_view t) at) (view_assign p.designator.inner how t at) (h, (assigned_tree_ok k (is_array map p.of) x g, f)), tt)

pub assignment_keeps : (k : Setting) (n : Named) (at : Pos) → PosFits at → (x : Phrase) → NamedOk k n → PhraseOk k x → (u : Around) → k.Stands u → Keeps (AreOk k u.in_loop) (assignment u n at x)
assignment_keeps k n at f x g h u s =
    let j = meant_by Elsewhere n u ▷ target n.ident.pos in
    then_keeps (λ (p : Place × Valued). PlaceOk k p.0 × ValuedOk k p.1) (AreOk k u.in_loop) (both j (x.value u)) (λ p. assigns (map_of u) at p.0 p.1)
    (both_keep (PlaceOk k) (ValuedOk k) j (x.value u) (then_keeps (MeantOk k) (PlaceOk k) (meant_by Elsewhere n u) (target n.ident.pos) (meant_keeps k Elsewhere n g u s) (λ m q. target_keeps k n.ident.pos m q)) (h.value u s))
    (λ p q. assigns_keep k u.in_loop (map_of u) at f p.0 p.1 q.0 q.1)

call_ok : (k : Setting) (l : Bool) (x : Valued) → ValuedOk k x → Keeps (AreOk k l) (call_value x)
call_ok k l x h = (named_s k l _ (CallProper (expr_view (tree x))) (view_call_proper (tree x)) (tree_ok k x h), tt)

done_keeps : (k : Setting) (l : Bool) (m : Meant) → MeantOk k m → Keeps (AreOk k l) (done m)
done_keeps k l (means.Call x) h = call_ok k l x h
done_keeps k l (means.Statement s) h = (h l, tt)
done_keeps k l m h = tt

place_called_keeps : (k : Setting) (u : Around) → k.Stands u → (l : Bool) (start : Pos) → PosFits start → (p : Place) (o : Option Signature) → PlaceOk k p → Keeps (AreOk k l) (place_called u start p o)
place_called_keeps k u s l start f p None h = tt
place_called_keeps k u s l start f p (Some g) h = then_keeps (ValuedOk k) (AreOk k l) (call_variable u AsStatement start p g []) call_value (call_variable_keeps k u s AsStatement start f p g [] tt h) (λ x q. call_ok k l x q)

called_keeps : (k : Setting) (u : Around) → k.Stands u → (l : Bool) (n : Named) → NamedOk k n → (m : Meant) → MeantOk k m → Keeps (AreOk k l) (called u n m)
called_keeps k u s l n g (means.Place p) h = place_called_keeps k u s l n.ident.pos g.at p (signature_at (map_of u) p.of) h
called_keeps k u s l n g (means.Constant v) h = tt
called_keeps k u s l n g (means.Call x) h = call_ok k l x h
called_keeps k u s l n g (means.Statement t) h = (h l, tt)
called_keeps k u s l n g m h = then_keeps (MeantOk k) (AreOk k l) (call_meant u AsStatement n.ident.pos m []) done (call_meant_keeps k u s AsStatement n.ident.pos g.at m [] tt h) (λ x q. done_keeps k l x q)

pub call_keeps : (k : Setting) (n : Named) → NamedOk k n → JudgingOk k (call_statement n)
call_keeps k n g u s = then_keeps (MeantOk k) (AreOk k u.in_loop) (meant_by AsStatement n u) (called u n) (meant_keeps k AsStatement n g u s) (λ m h. called_keeps k u s u.in_loop n g m h)

-- ---- conditions and branches

condition_keeps : (k : Setting) (u : Around) → k.Stands u → (x : Phrase) → PhraseOk k x → Keeps (E k) (condition u x)
condition_keeps k u s x g = then_keeps (ValuedOk k) (E k) (x.value u) _ (g.value u s) (λ v h. wants_keeps (E k) _ rule.NotBoolean x.start (tree v) (tree_ok k v h))

abbrev OneFits : Setting → Bool → OneBranch → Type 0
OneFits k l b = ExprFits k.words b.test × StmtsFit k.words l b.body

abbrev BranchOk : Setting → Bool → TypedBranch → Type 0
BranchOk k l b = OneFits k l (branch_view b)

branch_keeps : (k : Setting) (l : Bool) (c : Judged TypedExpr) (b : Judged (List TypedStmt)) → Keeps (E k) c → Keeps (AreOk k l) b → Keeps (BranchOk k l) (branch_of c b)
branch_keeps k l c b h g =
    made_keeps (λ (p : TypedExpr × List TypedStmt). E k p.0 × AreOk k l p.1) (BranchOk k l) _ (both c b) (both_keep (E k) (AreOk k l) c b h g)
    (λ p q. subst (OneFits k l) (sym (fold-roll-TypedBranch Stmt OneBranch LabelledBody stmt_layer branch_layer case_layer (record { test = p.0; body = p.1 }))) (q.0, stmts_fit k l p.1 q.1))

branches_fit : (k : Setting) (l : Bool) (bs : List TypedBranch) → AllByRecursion (BranchOk k l) bs → BranchesFit k.words l (branches_view bs)
branches_fit k l [] h = tt
branches_fit k l (b ∷ bs) h = (h.0.0, (h.0.1, branches_fit k l bs h.1))

abbrev pub ConditionalOk : Setting → Conditional → Type 0
ConditionalOk k c = PhraseOk k c.test × AreJudging k c.body

conditionals_keep : (k : Setting) (u : Around) → k.Stands u → (cs : List Conditional) → AllByRecursion (ConditionalOk k) cs → Keeps (AllByRecursion (BranchOk k u.in_loop)) (conditionals u cs)
conditionals_keep k u s [] g = tt
conditionals_keep k u s (c ∷ cs) g =
    let B = BranchOk k u.in_loop in
    then_keeps (λ (p : TypedBranch × List TypedBranch). B p.0 × AllByRecursion B p.1) (AllByRecursion B) (both (conditional u c) (conditionals u cs)) (λ p. sound (p.0 ∷ p.1))
    (both_keep B (AllByRecursion B) (conditional u c) (conditionals u cs) (branch_keeps k u.in_loop (condition u c.test) (in_turn c.body u) (condition_keeps k u s c.test g.0.0) (turn_keeps k u s c.body g.0.1)) (conditionals_keep k u s cs g.1)) (λ p h. h)

empty_ok : (k : Setting) (l : Bool) (o : Option (List TypedStmt)) → IfThere (AreOk k l) o → AreOk k l (empty_if_none o)
empty_ok k l None h = tt
empty_ok k l (Some xs) h = h

pub if_keeps : (k : Setting) (bs : List Conditional) (o : Option (List Judging)) → AllByRecursion (ConditionalOk k) bs → IfThere (AreJudging k) o → JudgingOk k (if_statement bs o)
if_keeps k bs o g h u s =
    let l = u.in_loop in
    then_keeps (λ (p : List TypedBranch × Option (List TypedStmt)). AllByRecursion (BranchOk k l) p.0 × IfThere (AreOk k l) p.1) (AreOk k l) (both (conditionals u bs) (in_turn_if o u)) _
    (both_keep (AllByRecursion (BranchOk k l)) (IfThere (AreOk k l)) (conditionals u bs) (in_turn_if o u) (conditionals_keep k u s bs g) (turn_if_keeps k u s o h))
    (λ p q. (named_s k l _ (If (branches_view p.0) (stmts_view (empty_if_none p.1))) (view_if p.0 (empty_if_none p.1)) (branches_fit k l p.0 q.0, stmts_fit k l (empty_if_none p.1) (empty_ok k l p.1 q.1)), tt))

pub while_keeps : (k : Setting) (at : Pos) → PosFits at → (x : Phrase) (body : List Judging) → PhraseOk k x → AreJudging k body → JudgingOk k (while_statement at x body)
while_keeps k at f x body g h u s =
    let l = u.in_loop in
    then_keeps (λ (p : TypedExpr × List TypedStmt). E k p.0 × AreOk k l p.1) (AreOk k l) (both (condition u x) (in_turn body u)) _ (both_keep (E k) (AreOk k l) (condition u x) (in_turn body u) (condition_keeps k u s x g) (turn_keeps k u s body h))
    (λ p q. (named_s k l _ (While (expr_view p.0) (stmts_view p.1) at) (view_while p.0 p.1 at) (q.0, (stmts_fit k l p.1 q.1, f)), tt))

pub repeat_keeps : (k : Setting) (at : Pos) → PosFits at → (body : List Judging) (x : Phrase) → AreJudging k body → PhraseOk k x → JudgingOk k (repeat_statement at body x)
repeat_keeps k at f body x h g u s =
    let l = u.in_loop in
    then_keeps (λ (p : List TypedStmt × TypedExpr). AreOk k l p.0 × E k p.1) (AreOk k l) (both (in_turn body u) (condition u x)) _ (both_keep (AreOk k l) (E k) (in_turn body u) (condition u x) (turn_keeps k u s body h) (condition_keeps k u s x g))
    (λ p q. (named_s k l _ (Repeat (stmts_view p.0) (expr_view p.1) at) (view_repeat p.0 p.1 at) (stmts_fit k l p.0 q.0, (q.1, f)), tt))

pub loop_keeps : (k : Setting) (at : Pos) → PosFits at → (body : List Judging) → AreJudging k body → JudgingOk k (loop_statement at body)
loop_keeps k at f body h u s =
    then_keeps (AreOk k true) (AreOk k u.in_loop) (in_turn body (in_loop u)) _ (turn_keeps k (in_loop u) (k.looped u s) body h)
    (λ b q. (named_s k u.in_loop _ (Loop (stmts_view b) at) (view_loop b at) (stmts_fit k true b q, f), tt))

-- ---- CASE

-- a label, where there is one, is a number
value_fits : (s : Selects) (v : Value) → Con v → IfThere (FitsSigned w32) (label_value s v)
value_fits selecting.Characters (literal.Char c) h = let i = h.0 in small_fits c (omega (arith, i))
value_fits selecting.Characters (literal.Bool b) h = tt
value_fits selecting.Characters (literal.Int z) h = tt
value_fits selecting.Characters (literal.Set n) h = tt
value_fits selecting.Characters (literal.Str t) h = tt
value_fits selecting.Characters literal.Nil h = tt
value_fits (selecting.Integers w) (literal.Int z) h = by _
  where
    by : (b : Bool) → IfThere (FitsSigned w32) (label_if b z)
    by true = int_fits z h.0
    by false = tt
value_fits (selecting.Integers w) (literal.Char c) h = tt
value_fits (selecting.Integers w) (literal.Bool b) h = tt
value_fits (selecting.Integers w) (literal.Set n) h = tt
value_fits (selecting.Integers w) (literal.Str t) h = tt
value_fits (selecting.Integers w) literal.Nil h = tt

range_keeps : (b : Bool) (at : Pos) (low high : ℤ) → FitsSigned w32 low → FitsSigned w32 high → Keeps LabelIsCoded (range_if b at low high)
range_keeps true at low high h g = (h, g)
range_keeps false at low high h g = tt

label_of_keeps : (at : Pos) (before : List Label) (a b : Option ℤ) → IfThere (FitsSigned w32) a → IfThere (FitsSigned w32) b → Keeps LabelIsCoded (label_of at before a b)
label_of_keeps at before (Some low) (Some high) h g = range_keeps _ at low high h g
label_of_keeps at before (Some low) None h g = tt
label_of_keeps at before None b h g = tt

label_as_keeps : (s : Option Selects) (at : Pos) (before : List Label) (a b : Value) → Con a → Con b → Keeps LabelIsCoded (label_as s at before a b)
label_as_keeps None at before a b h g = tt
label_as_keeps (Some s) at before a b h g = label_of_keeps at before (label_value s a) (label_value s b) (value_fits s a h) (value_fits s b g)

high_if_keeps : (k : Setting) (u : Around) → k.Stands u → (o : Option Phrase) → IfThere (PhraseOk k) o → Keeps (IfThere Con) (high_if u o)
high_if_keeps k u s None g = tt
high_if_keeps k u s (Some p) g = made_keeps Con (IfThere Con) (λ v. Some v) (constant_value u p) (constant_keeps k u s p g) (λ v h. h)

ends_con : (v : Value) (o : Option Value) → Con v → IfThere Con o → Con (both_ends v o).0 × Con (both_ends v o).1
ends_con v None h g = (h, h)
ends_con v (Some w) h g = (h, g)

label_keeps : (k : Setting) (u : Around) → k.Stands u → (o : Option Selects) (before : List Label) (r : Ranged) → RangedOk k r → Keeps LabelIsCoded (label u o before r)
label_keeps k u s o before r g =
    then_keeps (λ (p : Value × Option Value). Con p.0 × IfThere Con p.1) LabelIsCoded (both (constant_value u r.low) (high_if u r.high)) _
    (both_keep Con (IfThere Con) (constant_value u r.low) (high_if u r.high) (constant_keeps k u s r.low g.low) (high_if_keeps k u s r.high g.high))
    (λ p h. let c = ends_con p.0 p.1 h.0 h.1 in label_as_keeps o r.low.start before (both_ends p.0 p.1).0 (both_ends p.0 p.1).1 c.0 c.1)

labels_keep : (k : Setting) (u : Around) → k.Stands u → (o : Option Selects) (before : List Label) (rs : List Ranged) → AllByRecursion (RangedOk k) rs → Keeps (AllByRecursion LabelIsCoded) (labels u o before rs).found
labels_keep k u s o before [] g = tt
labels_keep k u s o before (r ∷ rs) g =
    let l = label u o before r in
    let rest = labels u o (rules.with_label before l.node) rs in
    then_keeps (λ (p : Label × List Label). LabelIsCoded p.0 × AllByRecursion LabelIsCoded p.1) (AllByRecursion LabelIsCoded) (both l rest.found) (λ p. sound (p.0 ∷ p.1))
    (both_keep LabelIsCoded (AllByRecursion LabelIsCoded) l rest.found (label_keeps k u s o before r g.0) (labels_keep k u s o (rules.with_label before l.node) rs g.1)) (λ p h. h)

abbrev LabelledFits : Setting → Bool → LabelledBody → Type 0
LabelledFits k l c = AllByRecursion LabelIsCoded c.labels × StmtsFit k.words l c.body

abbrev CaseOk : Setting → Bool → TypedCase → Type 0
CaseOk k l c = LabelledFits k l (case_view c)

case_of_keeps : (k : Setting) (l : Bool) (ls : Judged (List Label)) (b : Judged (List TypedStmt)) → Keeps (AllByRecursion LabelIsCoded) ls → Keeps (AreOk k l) b → Keeps (CaseOk k l) (case_of ls b)
case_of_keeps k l ls b h g =
    made_keeps (λ (p : List Label × List TypedStmt). AllByRecursion LabelIsCoded p.0 × AreOk k l p.1) (CaseOk k l) _ (both ls b) (both_keep (AllByRecursion LabelIsCoded) (AreOk k l) ls b h g)
    (λ p q. subst (LabelledFits k l) (sym (fold-roll-TypedCase Stmt OneBranch LabelledBody stmt_layer branch_layer case_layer (record { labels = p.0; body = p.1 }))) (q.0, stmts_fit k l p.1 q.1))

cases_fit : (k : Setting) (l : Bool) (cs : List TypedCase) → AllByRecursion (CaseOk k l) cs → CasesFit k.words l (cases_view cs)
cases_fit k l [] h = tt
cases_fit k l (c ∷ cs) h = (h.0.0, (h.0.1, cases_fit k l cs h.1))

abbrev pub LabelledOk : Setting → Labelled → Type 0
LabelledOk k c = AllByRecursion (RangedOk k) c.labels × AreJudging k c.body

cases_keep : (k : Setting) (u : Around) → k.Stands u → (o : Option Selects) (before : List Label) (cs : List Labelled) → AllByRecursion (LabelledOk k) cs → Keeps (AllByRecursion (CaseOk k u.in_loop)) (cases u o before cs)
cases_keep k u st o before [] g = tt
cases_keep k u st o before (c ∷ cs) g =
    let C = CaseOk k u.in_loop in
    let ls = labels u o before c.labels in
    then_keeps (λ (p : TypedCase × List TypedCase). C p.0 × AllByRecursion C p.1) (AllByRecursion C) (both (case_of ls.found (in_turn c.body u)) (cases u o ls.before cs)) (λ p. sound (p.0 ∷ p.1))
    (both_keep C (AllByRecursion C) (case_of ls.found (in_turn c.body u)) (cases u o ls.before cs) (case_of_keeps k u.in_loop ls.found (in_turn c.body u) (labels_keep k u st o before c.labels g.0.0) (turn_keeps k u st c.body g.0.1)) (cases_keep k u st o ls.before cs g.1)) (λ p h. h)

case_s : (k : Setting) (l : Bool) (x : TypedExpr) (cs : List TypedCase) (o : Option (List TypedStmt)) (at : Pos) → PosFits at → E k x → AllByRecursion (CaseOk k l) cs → IfThere (AreOk k l) o → S k l (stmt.Case x cs o at)
case_s k l x cs None at f h g i = named_s k l _ (Case (expr_view x) (cases_view cs) NoElse at) (view_case_none x cs at) (h, (cases_fit k l cs g, (tt, f)))
case_s k l x cs (Some body) at f h g i = named_s k l _ (Case (expr_view x) (cases_view cs) (Else (stmts_view body)) at) (view_case_some x cs body at) (h, (cases_fit k l cs g, (stmts_fit k l body i, f)))

pub case_keeps : (k : Setting) (at : Pos) → PosFits at → (x : Phrase) (cs : List Labelled) (o : Option (List Judging)) → PhraseOk k x → AllByRecursion (LabelledOk k) cs → IfThere (AreJudging k) o → (u : Around) → k.Stands u → Keeps (AreOk k u.in_loop) (rules.case u at x cs o)
case_keeps k at f x cs o g h i u s =
    let l = u.in_loop in
    let j = case_judged u x in
    let c = cases u (selects_if (map_of u) j.node) [] cs in
    then_keeps (λ (p : Valued × (List TypedCase × Option (List TypedStmt))). ValuedOk k p.0 × (AllByRecursion (CaseOk k l) p.1.0 × IfThere (AreOk k l) p.1.1)) (AreOk k l) (both j (both c (in_turn_if o u))) _
    (both_keep (ValuedOk k) (λ (p : List TypedCase × Option (List TypedStmt)). AllByRecursion (CaseOk k l) p.0 × IfThere (AreOk k l) p.1) j (both c (in_turn_if o u))
    (then_keeps (ValuedOk k) (ValuedOk k) (x.value u) (case_value (map_of u) x.start) (g.value u s) (λ v q. wants_keeps (ValuedOk k) _ rule.UnfitCase x.start v q))
    (both_keep (AllByRecursion (CaseOk k l)) (IfThere (AreOk k l)) c (in_turn_if o u) (cases_keep k u s (selects_if (map_of u) j.node) [] cs h) (turn_if_keeps k u s o i)))
    (λ p q. (case_s k l (tree p.0) p.1.0 p.1.1 at f (tree_ok k p.0 q.0) q.1.0 q.1.1, tt))

-- ---- FOR

for_variable_keeps : (k : Setting) (u : Around) (at : Pos) (x : Ident) → PosFits x.pos → (e : Entity) → Keeps (PlaceOk k) (for_variable u at x e)
for_variable_keeps k u at x f (entity.Variable v t) = then_keeps (PlaceOk k) (PlaceOk k) (variable_named u x.pos v t false) (λ p. integer_place (map_of u) at p) (variable_keeps k u x.pos f v t false) (λ p q. wants_keeps (PlaceOk k) _ rule.UnfitFor at p q)
for_variable_keeps k u at x f (entity.TypeName t) = tt
for_variable_keeps k u at x f (entity.Module m) = tt
for_variable_keeps k u at x f e = tt

bound_keeps : (k : Setting) (map : Map) (at : Pos) (p : Place) (j : Judged Valued) → Keeps (ValuedOk k) j → Keeps (E k) (bound_if map at (Some p) j)
bound_keeps k map at p j h = then_keeps (ValuedOk k) (E k) j (for_bound map at p) h (λ x q. wants_keeps (E k) (fits map p.of x) rule.UnfitFor at (tree x) (tree_ok k x q))

step_fits : (at : Pos) (v : Value) → Con v → Keeps (FitsSigned w32) (step_value at v)
step_fits at (literal.Int z) h = unless_keeps (FitsSigned w32) _ rule.UnfitFor at z (int_fits z h.0)
step_fits at (literal.Bool b) h = tt
step_fits at (literal.Char c) h = tt
step_fits at (literal.Set n) h = tt
step_fits at (literal.Str t) h = tt
step_fits at literal.Nil h = tt

step_keeps : (k : Setting) (u : Around) → k.Stands u → (at : Pos) (o : Option Phrase) → IfThere (PhraseOk k) o → Keeps (FitsSigned w32) (for_step u at o)
step_keeps k u s at None g = small_fits 1 (omega arith)
step_keeps k u s at (Some x) g = then_keeps Con (FitsSigned w32) (constant_value u x) (step_value at) (constant_keeps k u s x g) (λ v h. step_fits at v h)

for_with_keeps : (k : Setting) (l : Bool) (map : Map) (at : Pos) → PosFits at → (o : Option Place) (a b : Judged Valued) (step : Judged ℤ) (body : Judged (List TypedStmt)) → Keeps (ValuedOk k) a → Keeps (ValuedOk k) b → Keeps (FitsSigned w32) step → Keeps (AreOk k l) body → Keeps (AreOk k l) (for_with map at o a b step body)
for_with_keeps k l map at f None a b step body x y w z = tt
for_with_keeps k l map at f (Some p) a b step body x y w z =
    let bounds = both (bound_if map at (Some p) a) (bound_if map at (Some p) b) in
    then_keeps (λ (q : (TypedExpr × TypedExpr) × (ℤ × List TypedStmt)). (E k q.0.0 × E k q.0.1) × (FitsSigned w32 q.1.0 × AreOk k l q.1.1)) (AreOk k l) (both bounds (both step body)) _
    (both_keep (λ (q : TypedExpr × TypedExpr). E k q.0 × E k q.1) (λ (q : ℤ × List TypedStmt). FitsSigned w32 q.0 × AreOk k l q.1) bounds (both step body) (both_keep (E k) (E k) (bound_if map at (Some p) a) (bound_if map at (Some p) b) (bound_keeps k map at p a x) (bound_keeps k map at p b y)) (both_keep (FitsSigned w32) (AreOk k l) step body w z))
    (λ q r. (named_s k l _ _ (view_for p.root _ q.0.0 q.0.1 q.1.0 q.1.1 at) (r.0.0, (r.0.1, (r.1.0, (stmts_fit k l q.1.1 r.1.1, f)))), tt))

pub for_keeps : (k : Setting) (at : Pos) → PosFits at → (x : Ident) → PosFits x.pos → (a b : Phrase) (step : Option Phrase) (body : List Judging) → PhraseOk k a → PhraseOk k b → IfThere (PhraseOk k) step → AreJudging k body → (u : Around) → k.Stands u → Keeps (AreOk k u.in_loop) (rules.for u at x a b step body)
for_keeps k at f x e a b step body g h t i u s =
    let j = named u x ▷ for_variable u at x in
    for_with_keeps k u.in_loop (map_of u) at f j.node (a.value u) (b.value u) (for_step u at step) (in_turn body u) (g.value u s) (h.value u s) (step_keeps k u s at step t) (turn_keeps k u s body i)

-- ---- EXIT and RETURN

pub exit_keeps : (k : Setting) (u : Around) (at : Pos) → Keeps (AreOk k u.in_loop) (rules.exit u at)
exit_keeps k u at = wants_so (AreOk k u.in_loop) u.in_loop rule.MisplacedExit at (stmt.Exit ∷ []) (λ e. (named_s k u.in_loop stmt.Exit Exit view_exit e, tt))

returned_keeps : (k : Setting) (l : Bool) (map : Map) (at : Pos) (o : Option TypeRef) (x : Valued) → ValuedOk k x → Keeps (AreOk k l) (returned map at o x)
returned_keeps k l map at None x h = tt
returned_keeps k l map at (Some t) x h = wants_keeps (AreOk k l) (fits map t x) rule.UnfitReturn at (stmt.Return (Some (tree x)) ∷ []) (named_s k l _ (Return (Some (expr_view (tree x)))) (view_return (Some (tree x))) (tree_ok k x h), tt)

none_keeps : (k : Setting) (l : Bool) (at : Pos) (o : Option TypeRef) → Keeps (AreOk k l) (return_none at o)
none_keeps k l at None = (named_s k l _ (Return None) (view_return None) tt, tt)
none_keeps k l at (Some t) = tt

pub return_keeps : (k : Setting) (at : Pos) (o : Option Phrase) → IfThere (PhraseOk k) o → (u : Around) → k.Stands u → Keeps (AreOk k u.in_loop) (rules.return u at o)
return_keeps k at None g u s = none_keeps k u.in_loop at u.result
return_keeps k at (Some x) g u s = then_keeps (ValuedOk k) (AreOk k u.in_loop) (x.value u) (returned (map_of u) at u.result) (g.value u s) (λ v h. returned_keeps k u.in_loop (map_of u) at u.result v h)

-- ---- WITH

with_module_keeps : (k : Setting) (u : Around) → k.Stands u → (m x : Ident) → PosFits m.pos → PosFits x.pos → (e : Entity) → Keeps (MeantOk k) (with_module u m x e)
with_module_keeps k u s m x f g (entity.Module n) = designates_keeps k u s InExpression m f (Dot x.pos x ∷ []) (g, tt)
with_module_keeps k u s m x f g e = tt

with_named_keeps : (k : Setting) (u : Around) → k.Stands u → (m x : Ident) → PosFits m.pos → PosFits x.pos → Keeps (MeantOk k) (with_named u m x)
with_named_keeps k u s m x f g = then_keeps Anything (MeantOk k) (named u m) (with_module u m x) (any_keeps (named u m)) (λ e h. with_module_keeps k u s m x f g e)

qualified_by_keeps : (k : Setting) (u : Around) → k.Stands u → (m x : Ident) → PosFits m.pos → PosFits x.pos → (e : Entity) → Keeps (MeantOk k) (with_qualified_by u m x e)
qualified_by_keeps k u s m x f g (entity.Variable v t) = tt
qualified_by_keeps k u s m x f g e = with_named_keeps k u s m x f g

qualified_keeps : (k : Setting) (u : Around) → k.Stands u → (m x : Ident) → PosFits m.pos → PosFits x.pos → (o : Option Known) → Keeps (MeantOk k) (with_qualified u m x o)
qualified_keeps k u s m x f g None = tt
qualified_keeps k u s m x f g (Some y) = qualified_by_keeps k u s m x f g y.what

-- a name, and the module's before it, stand at places
pub record GuardAt (g : Guard) : Type 0 where
  pub qualifier : IfThere (λ (m : Ident). PosFits m.pos) g.variable.qualifier
  pub ident : PosFits g.variable.ident.pos

with_meant_keeps : (k : Setting) (u : Around) → k.Stands u → (o : Option Ident) (x : Ident) → IfThere (λ (m : Ident). PosFits m.pos) o → PosFits x.pos → Keeps (MeantOk k) (with_meant u o x)
with_meant_keeps k u s None x f g = designates_keeps k u s InExpression x g [] tt
with_meant_keeps k u s (Some m) x f g = qualified_keeps k u s m x f g (find_name u.known m.name)

with_place_keeps : (k : Setting) (map : Map) (at : Pos) (m : Meant) → MeantOk k m → Keeps (PlaceOk k) (with_place map at m)
with_place_keeps k map at (means.Place p) h = wants_keeps (PlaceOk k) _ rule.UnfitWith at p h
with_place_keeps k map at m h = tt

guard_test_ok : (k : Setting) (p : Place) (g : Guarded) (q : QName) → PlaceOk k p → E k (guard_test p g q)
guard_test_ok k p guarded.Pointer q h = named_e k _ (IsPointer (expr_view (e.Designator p.designator.inner)) q) (view_is_pointer (e.Designator p.designator.inner) q) (named_e k (e.Designator p.designator.inner) (ValueOf (designator_view p.designator.inner)) (view_value_of p.designator.inner) h)
guard_test_ok k p guarded.Record q h = named_e k _ (IsRecord (designator_view p.designator.inner) q) (view_is_record p.designator.inner q) h

with_guard_keeps : (k : Setting) (at : Pos) (p : Place) (o : Option (Guarded × QName)) (t : TypeRef) → PlaceOk k p → Keeps (λ (q : Place × (Guarded × QName)). PlaceOk k q.0) (with_guard at p o t)
with_guard_keeps k at p None t h = tt
with_guard_keeps k at p (Some g) t h = h

test_keeps : (k : Setting) (u : Around) → k.Stands u → (g : Guard) → GuardAt g → Keeps (λ (p : TypedExpr × TypeRef). E k p.0) (with_test u g)
test_keeps k u s g f =
    then_keeps (λ (p : Place × TypeRef). PlaceOk k p.0 × Unit {0}) (λ (p : TypedExpr × TypeRef). E k p.0) (both (with_variable u g) (type_named u g.target)) (λ p. tested (map_of u) (first_of g.variable) p.0 p.1)
    (both_keep (PlaceOk k) Anything (with_variable u g) (type_named u g.target) (then_keeps (MeantOk k) (PlaceOk k) (with_meant u g.variable.qualifier g.variable.ident) (with_place (map_of u) (first_of g.variable)) (with_meant_keeps k u s g.variable.qualifier g.variable.ident f.qualifier f.ident) (λ m h. with_place_keeps k (map_of u) (first_of g.variable) m h)) (any_keeps (type_named u g.target)))
    (λ p h. then_keeps (λ (q : Place × (Guarded × QName)). PlaceOk k q.0) (λ (q : TypedExpr × TypeRef). E k q.0) (with_guard (first_of g.variable) p.0 (guard_of (map_of u) p.0 p.1) p.1) _ (with_guard_keeps k (first_of g.variable) p.0 (guard_of (map_of u) p.0 p.1) p.1 h.0) (λ q r. guard_test_ok k q.0 q.1.0 q.1.1 r))

guarded_stands : (k : Setting) (u : Around) → k.Stands u → (o : Option Variable) (t : Option TypeRef) → k.Stands (guarded_around u o t)
guarded_stands k u s None t = s
guarded_stands k u s (Some v) t = k.guarded u s (u.guards ++ (v, t) ∷ [])

same_loop : (u : Around) (o : Option Variable) (t : Option TypeRef) → (guarded_around u o t).in_loop ≡ u.in_loop
same_loop u None t = refl
same_loop u (Some v) t = refl

pub record GuardedOk (k : Setting) (b : GuardedBody) : Type 0 where
  pub guard : GuardAt b.guard
  pub body : AreJudging k b.body

with_branch_keeps : (k : Setting) (u : Around) → k.Stands u → (b : GuardedBody) → GuardedOk k b → Keeps (BranchOk k u.in_loop) (with_branch u b)
with_branch_keeps k u s b g =
    let t = with_test u b.guard in
    let o = variable_meant u b.guard.variable.qualifier b.guard.variable.ident in
    let v = guarded_body u b.guard t.node in
    branch_keeps k u.in_loop (made (λ p. p.0) t) (in_turn b.body v) (made_keeps (λ (p : TypedExpr × TypeRef). E k p.0) (E k) (λ p. p.0) t (test_keeps k u s b.guard g.guard) (λ p h. h))
    (subst (λ (l : Bool). Keeps (AreOk k l) (in_turn b.body v)) (same_loop u o (type_if t.node)) (turn_keeps k v (guarded_stands k u s o (type_if t.node)) b.body g.body))

with_branches_keep : (k : Setting) (u : Around) → k.Stands u → (bs : List GuardedBody) → AllByRecursion (GuardedOk k) bs → Keeps (AllByRecursion (BranchOk k u.in_loop)) (with_branches u bs)
with_branches_keep k u s [] g = tt
with_branches_keep k u s (b ∷ bs) g =
    let B = BranchOk k u.in_loop in
    then_keeps (λ (p : TypedBranch × List TypedBranch). B p.0 × AllByRecursion B p.1) (AllByRecursion B) (both (with_branch u b) (with_branches u bs)) (λ p. sound (p.0 ∷ p.1))
    (both_keep B (AllByRecursion B) (with_branch u b) (with_branches u bs) (with_branch_keeps k u s b g.0) (with_branches_keep k u s bs g.1)) (λ p h. h)

with_s : (k : Setting) (l : Bool) (bs : List TypedBranch) (o : Option (List TypedStmt)) (at : Pos) → PosFits at → AllByRecursion (BranchOk k l) bs → IfThere (AreOk k l) o → S k l (stmt.With bs o at)
with_s k l bs None at f g i = named_s k l _ (With (branches_view bs) NoElse at) (view_with_none bs at) (branches_fit k l bs g, (tt, f))
with_s k l bs (Some body) at f g i = named_s k l _ (With (branches_view bs) (Else (stmts_view body)) at) (view_with_some bs body at) (branches_fit k l bs g, (stmts_fit k l body i, f))

pub with_keeps : (k : Setting) (at : Pos) → PosFits at → (bs : List GuardedBody) (o : Option (List Judging)) → AllByRecursion (GuardedOk k) bs → IfThere (AreJudging k) o → JudgingOk k (with_statement at bs o)
with_keeps k at f bs o g h u s =
    let l = u.in_loop in
    then_keeps (λ (p : List TypedBranch × Option (List TypedStmt)). AllByRecursion (BranchOk k l) p.0 × IfThere (AreOk k l) p.1) (AreOk k l) (both (with_branches u bs) (in_turn_if o u)) _
    (both_keep (AllByRecursion (BranchOk k l)) (IfThere (AreOk k l)) (with_branches u bs) (in_turn_if o u) (with_branches_keep k u s bs g) (turn_if_keeps k u s o h))
    (λ p q. (with_s k l p.0 p.1 at f q.0 q.1, tt))
