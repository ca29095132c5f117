-- Statements are tied to the types that they name.
use Rattle.std.proofs.Common.{◌≡◌, Bool, true, false, List, [], ◌∷◌, ◌++◌, map, Option, Some, None, refl, sym, subst}
use Rattle.std.specs.Prelude.{ℤ, ◌&&◌, is_some}
use Rattle.std.specs.List.{AllByRecursion}
use Rattle.ob_tree.specs.declared.pos.Pos.{Pos}
use Rattle.ob_tree.specs.declared.names.QName.{QName}
use Rattle.ob_tree.specs.declared.ident.Ident.{Ident}
use Rattle.ob_tree.specs.declared.stmt.Guard.{Guard}
use Rattle.ob_types.specs.declared.types.TypeRef.{TypeRef}
use Rattle.ob_types.specs.declared.types.Signature.{Signature}
use Rattle.ob_types.specs.declared.typed.Label.{Label}
use Rattle.ob_types.specs.declared.typed.Variable.{Variable}
use Rattle.ob_types.specs.declared.typed.Guarded.{Guarded}
use Rattle.ob_types.specs.declared.typed.Guarded.TheVariants as guarded
use Rattle.ob_types.specs.declared.typed.Assigned.{Assigned}
use Rattle.ob_types.specs.declared.typed.Assigned.TheVariants as assigned
use Rattle.ob_types.specs.declared.typed.TypedExpr.{TypedExpr}
use Rattle.ob_types.specs.declared.typed.TypedExpr.TheVariants as e
use Rattle.ob_types.specs.declared.typed.TypedStmt.{TypedStmt}
use Rattle.ob_types.specs.declared.typed.TypedStmt.TheVariants as stmt
use Rattle.ob_types.specs.declared.typed.TypedStmt.TheFolds.{fold-roll-TypedBranch, fold-roll-TypedCase}
use Rattle.ob_types.specs.declared.typed.TypedBranch.{TypedBranch}
use Rattle.ob_types.specs.declared.typed.TypedCase.{TypedCase}
use Rattle.ob_types.specs.TypedSyntax.{Stmt, Stmts, Assign, CallProper, If, Case, While, Repeat, Loop, Exit, Return, With, NoElse, Else, ValueOf, IsPointer, IsRecord}
use Rattle.ob_types.specs.TypedView.{OneBranch, LabelledBody, stmt_layer, branch_layer, case_layer, designator_view, expr_view, stmt_view, branch_view, case_view, stmts_view, branches_view, cases_view}
use Rattle.ob_types.proofs.TypedViews.{view_value_of, view_is_pointer, view_is_record, view_assign, view_call_proper, view_if, view_case_none, view_case_some, view_while, view_repeat, view_for, view_loop, view_exit, view_return, view_with_none, view_with_some}
use Rattle.ob_rules.specs.declared.entity.Entity.{Entity}
use Rattle.ob_rules.specs.declared.entity.Known.{Known}
use Rattle.ob_rules.specs.declared.entity.Entity.TheVariants as entity
use Rattle.ob_rules.specs.declared.values.Place.{Place}
use Rattle.ob_rules.specs.declared.values.Valued.{Valued}
use Rattle.ob_rules.specs.declared.meant.Meant.{Meant}
use Rattle.ob_rules.specs.declared.meant.Meant.TheVariants as means
use Rattle.ob_rules.specs.declared.meant.Selects.{Selects}
use Rattle.ob_rules.specs.declared.meant.Where.TheVariants.{InExpression, AsStatement, Elsewhere}
use Rattle.ob_rules.specs.declared.broken.Rule.TheVariants as rule
use Rattle.ob_rules.specs.Judged.{Judged, joined, no_notes, is_quiet, sound, both, made, ◌▷◌}
use Rattle.ob_types.specs.declared.value.Value.{Value}
use Rattle.ob_types.specs.declared.value.Value.TheVariants as literal
use Rattle.ob_rules.specs.Shapes.{Map, record_of, signature_at, is_array}
use Rattle.ob_rules.specs.Names.{Around, map_of, named, find_name, type_named}
use Rattle.ob_rules.specs.Values.{tree, fits, text_of, constant_in}
use Rattle.ob_rules.specs.Phrases.{Phrase, Dot}
use Rattle.ob_rules.specs.Calls.{call_variable}
use Rattle.ob_rules.specs.Designators.{variable_named, call_meant, guard_of}
use Rattle.ob_rules.specs.Expressions.{Named, Ranged, meant_by, constant_of, constant_if, constant_value}
use Rattle.ob_rules.specs.Types.{first_of}
use Rattle.ob_rules.specs.Statements as rules
use Rattle.ob_rules.specs.Statements.{Judging, in_turn, in_turn_if, target, assigned_as, assignment_of, assigned_tree, assigns, assignment, call_value, done, place_called, called, condition, branch_of, empty_if_none, Labelled, range_if, label_value, label_of, label_as, both_ends, high_if, label, with_label, labels, case_of, cases, selects_if, case_value, case_judged, for_variable, integer_place, for_bound, bound_if, for_with, step_value, for_step, returned, return_none, with_module, with_named, with_qualified_by, with_qualified, with_meant, with_place, with_guard, guard_test, variable_meant, guarded_around, type_if, guarded_body, GuardedBody, tested, with_variable, with_test, with_branch, Conditional, in_loop, conditional, conditionals, with_branches, if_statement, while_statement, repeat_statement, loop_statement, with_statement, call_statement}
use Rattle.ob_types.specs.declared.types.TypeRef.TheVariants as ref
use Rattle.ob_types.specs.Maps.{signature_types}
use Rattle.ob_types.specs.Tests.{target as type_target}
use Rattle.ob_types.specs.TypedKinds.{variable_type}
use Rattle.ob_uses_roots.specs.Counts.{Count, Shapes, counts_of_designator, counts_of_expr, target_counts, counts_of, counts_of_all, counts_of_branches, counts_of_cases}
use Rattle.law_local_judged.specs.Agreement.{AreIn}
use Rattle.law_local_judged.specs.Said.{CountsIn}
use Rattle.law_local_files.specs.Tied.{StmtsTied, BranchesTied, CasesTied, AssignedTied}
use Rattle.law_local_uses.specs.Settled.{SaysAll, GuardIn}
use Rattle.law_local_uses.proofs.Names.{EntityOk, named_keeps, type_keeps, stays}
use Rattle.law_local_uses.proofs.Chains.{record_target}
use Rattle.law_local_uses.proofs.Setting.{Setting, TE, E, S, In, Stands, PlaceOk, ValuedOk, MeantOk, none, Keeps, said_both, then_keeps, both_keep, made_keeps, unless_keeps, wants_keeps, noted_keeps, counts_both, named_e, tree_ok}
use Rattle.law_local_uses.proofs.Values.{text_tree_ok}
use Rattle.law_local_uses.proofs.Calls.{PhraseOk, call_variable_keeps}
use Rattle.law_local_uses.proofs.Functions.{named_s}
use Rattle.law_local_uses.proofs.Designators.{variable_keeps, call_meant_keeps, signature_held, guard_tests, designates_keeps}
use Rattle.law_local_uses.proofs.Expressions.{NamedOk, RangedOk, meant_keeps}
use Rattle.law_lists.proofs.Lists.{Anything, IfThere, all_both}

abbrev pub AreOk : Setting → List TypedStmt → Type 0
AreOk k ss = AllByRecursion (S k) ss

abbrev pub JudgingOk : Setting → Judging → Type 0
JudgingOk k f = (u : Around) → Stands k u → Keeps k (AreOk k) (f u)

abbrev pub AreJudging : Setting → List Judging → Type 0
AreJudging k fs = AllByRecursion (JudgingOk k) fs

-- a sequence, tied, and what counts in it
abbrev pub TSs : Setting → Stmts → Type 0
TSs k ss = StmtsTied k.map k.unit k.Own ss × CountsIn k.Held (counts_of_all ss)

pub stmts_named : (k : Setting) (ss : List TypedStmt) → AreOk k ss → TSs k (stmts_view ss)
stmts_named k [] h = (tt, tt)
stmts_named k (s ∷ ss) h = let r = stmts_named k ss h.1 in ((h.0.0, r.0), counts_both k (counts_of (stmt_view s)) (counts_of_all (stmts_view ss)) h.0.1 r.1)

pub turn_keeps : (k : Setting) (u : Around) → Stands k u → (fs : List Judging) → AreJudging k fs → Keeps k (AreOk k) (in_turn fs u)
turn_keeps k u s [] g = (tt, none)
turn_keeps k u s (f ∷ fs) g =
    then_keeps k (λ (p : List TypedStmt × List TypedStmt). AreOk k p.0 × AreOk k p.1) (AreOk k) (both (f u) (in_turn fs u)) (λ p. sound (p.0 ++ p.1)) (both_keep k (AreOk k) (AreOk k) (f u) (in_turn fs u) (g.0 u s) (turn_keeps k u s fs g.1)) (λ p h. (all_both (S k) p.0 p.1 h.0 h.1, none))

turn_if_keeps : (k : Setting) (u : Around) → Stands k u → (o : Option (List Judging)) → IfThere (AreJudging k) o → Keeps k (IfThere (AreOk k)) (in_turn_if o u)
turn_if_keeps k u s None g = (tt, none)
turn_if_keeps k u s (Some fs) g = made_keeps k (AreOk k) (IfThere (AreOk k)) (λ x. Some x) (in_turn fs u) (turn_keeps k u s fs g) (λ x h. h)

-- parts one behind another
two_parts : (k : Setting) {A B : Type 0} (cs ds : List Count) → A × CountsIn k.Held cs → B × CountsIn k.Held ds → (A × B) × CountsIn k.Held (cs ++ ds)
two_parts k cs ds h g = ((h.0, g.0), counts_both k cs ds h.1 g.1)

three_parts : (k : Setting) {A B C : Type 0} (cs ds es : List Count) → A × CountsIn k.Held cs → B × CountsIn k.Held ds → C × CountsIn k.Held es → (A × B × C) × CountsIn k.Held (cs ++ ds ++ es)
three_parts k cs ds es h g i = ((h.0, g.0, i.0), counts_both k (cs ++ ds) es (counts_both k cs ds h.1 g.1) i.1)

-- ---- assignments and calls

target_keeps : (k : Setting) (at : Pos) (m : Meant) → MeantOk k m → Keeps k (PlaceOk k) (target at m)
target_keeps k at (means.Place p) h = unless_keeps k (PlaceOk k) p.read_only rule.NotChangeable at p h
target_keeps k at m h = (tt, none)

-- a record is assigned as what the type of the variable stands for
assigned_tied : (k : Setting) (map : Map) → SaysAll k.map map → (p : Place) → PlaceOk k p → (a : Bool) (o : Option QName) (b : Bool) → record_of map p.of ≡ o → AssignedTied k.map k.unit k.Own (assigned_as a o b) (designator_view p.designator.inner)
assigned_tied k map says p h true o b e = tt
assigned_tied k map says p h false (Some q) b e = subst (λ t. type_target k.map 201 t ≡ ref.Named q) (sym h.2) (record_target k map says p.of q e)
assigned_tied k map says p h false None true e = tt
assigned_tied k map says p h false None false e = tt

target_count : (k : Setting) (how : Assigned) (t : TypeRef) → CountsIn k.Held (target_counts how t)
target_count k assigned.Scalar t = tt
target_count k assigned.Text t = tt
target_count k assigned.Array t = tt
target_count k (assigned.Record q) t = tt

assigned_tree_ok : (k : Setting) (b : Bool) (x : Valued) → ValuedOk k x → E k (assigned_tree b x)
assigned_tree_ok k true x h = text_tree_ok k x h
assigned_tree_ok k false x h = tree_ok k x h

assigns_keep : (k : Setting) (map : Map) → SaysAll k.map map → (at : Pos) (p : Place) (x : Valued) → PlaceOk k p → ValuedOk k x → Keeps k (AreOk k) (assigns map at p x)
assigns_keep k map says at p x h g =
    let how = assignment_of map p x in
    let t = assigned_tree (is_array map p.of) x in
    wants_keeps k (AreOk k) (fits map p.of x) rule.NotAssignable at (stmt.Assign p.designator.inner how t at ∷ [])
    (λ e.
    let v = assigned_tree_ok k (is_array map p.of) x g in
    let ds = counts_of_designator (designator_view p.designator.inner) in
    let es = counts_of_expr (expr_view t) in
    let ts = target_counts how (variable_type (designator_view p.designator.inner)) in (
      named_s k _ (Assign (designator_view p.designator.inner) how (expr_view t) at) (view_assign p.designator.inner how t at)
          ((h.0.0, v.0, assigned_tied k map says p h (is_array map p.of && is_some (text_of x)) (record_of map p.of) (is_array map p.of) refl), counts_both k (ds ++ es) ts (counts_both k ds es h.0.1 v.1) (target_count k how (variable_type (designator_view p.designator.inner)))),
      tt,
    ))

pub assignment_keeps : (k : Setting) (u : Around) → Stands k u → (n : Named) (at : Pos) (x : Phrase) → NamedOk k n → PhraseOk k x → Keeps k (AreOk k) (assignment u n at x)
assignment_keeps k u s n at x g h =
    let j = meant_by Elsewhere n u ▷ target n.ident.pos in
    then_keeps k (λ (p : Place × Valued). PlaceOk k p.0 × ValuedOk k p.1) (AreOk k) (both j (x.value u)) (λ p. assigns (map_of u) at p.0 p.1)
    (both_keep k (PlaceOk k) (ValuedOk k) j (x.value u) (then_keeps k (MeantOk k) (PlaceOk k) (meant_by Elsewhere n u) (target n.ident.pos) (meant_keeps k Elsewhere n g u s) (λ m q. target_keeps k n.ident.pos m q)) (h.0 u s))
    (λ p q. assigns_keep k (map_of u) s.says at p.0 p.1 q.0 q.1)

call_ok : (k : Setting) (x : Valued) → ValuedOk k x → Keeps k (AreOk k) (call_value x)
call_ok k x h = ((named_s k _ (CallProper (expr_view (tree x))) (view_call_proper (tree x)) (tree_ok k x h), tt), none)

done_keeps : (k : Setting) (m : Meant) → MeantOk k m → Keeps k (AreOk k) (done m)
done_keeps k (means.Call x) h = call_ok k x h
done_keeps k (means.Statement s) h = ((h, tt), none)
done_keeps k m h = (tt, none)

place_called_keeps : (k : Setting) (u : Around) → Stands k u → (start : Pos) (p : Place) (o : Option Signature) → IfThere (λ s. AreIn k.Held (signature_types s)) o → PlaceOk k p → Keeps k (AreOk k) (place_called u start p o)
place_called_keeps k u s start p None i h = (tt, none)
place_called_keeps k u s start p (Some g) i h = then_keeps k (ValuedOk k) (AreOk k) (call_variable u AsStatement start p g []) call_value (call_variable_keeps k u s AsStatement start p g i [] tt h) (λ x q. call_ok k x q)

called_keeps : (k : Setting) (u : Around) → Stands k u → (n : Named) (m : Meant) → MeantOk k m → Keeps k (AreOk k) (called u n m)
called_keeps k u s n (means.Place p) h = place_called_keeps k u s n.ident.pos p (signature_at (map_of u) p.of) (signature_held k u s p h) h
called_keeps k u s n (means.Constant v) h = (tt, none)
called_keeps k u s n (means.Call x) h = call_ok k x h
called_keeps k u s n (means.Statement t) h = ((h, tt), none)
called_keeps k u s n m h = then_keeps k (MeantOk k) (AreOk k) (call_meant u AsStatement n.ident.pos m []) done (call_meant_keeps k u s AsStatement n.ident.pos m [] tt h) (λ x q. done_keeps k x q)

pub call_keeps : (k : Setting) (n : Named) → NamedOk k n → JudgingOk k (call_statement n)
call_keeps k n g u s = then_keeps k (MeantOk k) (AreOk k) (meant_by AsStatement n u) (called u n) (meant_keeps k AsStatement n g u s) (λ m h. called_keeps k u s n m h)

-- ---- conditions and branches

condition_keeps : (k : Setting) (u : Around) → Stands k u → (x : Phrase) → PhraseOk k x → Keeps k (E k) (condition u x)
condition_keeps k u s x g = then_keeps k (ValuedOk k) (E k) (x.value u) _ (g.0 u s) (λ v h. wants_keeps k (E k) _ rule.NotBoolean x.start (tree v) (λ e. tree_ok k v h))

abbrev BranchOk : Setting → TypedBranch → Type 0
BranchOk k b = TE k (branch_view b).test × TSs k (branch_view b).body

branch_keeps : (k : Setting) (c : Judged TypedExpr) (b : Judged (List TypedStmt)) → Keeps k (E k) c → Keeps k (AreOk k) b → Keeps k (BranchOk k) (branch_of c b)
branch_keeps k c b h g =
    made_keeps k (λ (p : TypedExpr × List TypedStmt). E k p.0 × AreOk k p.1) (BranchOk k) _ (both c b) (both_keep k (E k) (AreOk k) c b h g)
    (λ p q. subst (λ (x : OneBranch). TE k x.test × TSs k x.body) (sym (fold-roll-TypedBranch Stmt OneBranch LabelledBody stmt_layer branch_layer case_layer (record { test = p.0; body = p.1 }))) (q.0, stmts_named k p.1 q.1))

branches_named : (k : Setting) (bs : List TypedBranch) → AllByRecursion (BranchOk k) bs → BranchesTied k.map k.unit k.Own (branches_view bs) × CountsIn k.Held (counts_of_branches (branches_view bs))
branches_named k [] h = (tt, tt)
branches_named k (b ∷ bs) h =
    let r = branches_named k bs h.1 in
    let es = counts_of_expr (branch_view b).test in
    let ss = counts_of_all (branch_view b).body in
    ((h.0.0.0, h.0.1.0, r.0), counts_both k (es ++ ss) (counts_of_branches (branches_view bs)) (counts_both k es ss h.0.0.1 h.0.1.1) r.1)

abbrev pub ConditionalOk : Setting → Conditional → Type 0
ConditionalOk k c = PhraseOk k c.test × AreJudging k c.body

conditionals_keep : (k : Setting) (u : Around) → Stands k u → (cs : List Conditional) → AllByRecursion (ConditionalOk k) cs → Keeps k (AllByRecursion (BranchOk k)) (conditionals u cs)
conditionals_keep k u s [] g = (tt, none)
conditionals_keep k u s (c ∷ cs) g =
    then_keeps k (λ (p : TypedBranch × List TypedBranch). BranchOk k p.0 × AllByRecursion (BranchOk k) p.1) (AllByRecursion (BranchOk k)) (both (conditional u c) (conditionals u cs)) (λ p. sound (p.0 ∷ p.1))
    (both_keep k (BranchOk k) (AllByRecursion (BranchOk k)) (conditional u c) (conditionals u cs) (branch_keeps k (condition u c.test) (in_turn c.body u) (condition_keeps k u s c.test g.0.0) (turn_keeps k u s c.body g.0.1)) (conditionals_keep k u s cs g.1)) (λ p h. (h, none))

empty_ok : (k : Setting) (o : Option (List TypedStmt)) → IfThere (AreOk k) o → AreOk k (empty_if_none o)
empty_ok k None h = tt
empty_ok k (Some xs) h = h

pub if_keeps : (k : Setting) (bs : List Conditional) (o : Option (List Judging)) → AllByRecursion (ConditionalOk k) bs → IfThere (AreJudging k) o → JudgingOk k (if_statement bs o)
if_keeps k bs o g h u s =
    then_keeps k (λ (p : List TypedBranch × Option (List TypedStmt)). AllByRecursion (BranchOk k) p.0 × IfThere (AreOk k) p.1) (AreOk k) (both (conditionals u bs) (in_turn_if o u)) _
    (both_keep k (AllByRecursion (BranchOk k)) (IfThere (AreOk k)) (conditionals u bs) (in_turn_if o u) (conditionals_keep k u s bs g) (turn_if_keeps k u s o h))
    (λ p q. ((named_s k _ (If (branches_view p.0) (stmts_view (empty_if_none p.1))) (view_if p.0 (empty_if_none p.1)) (two_parts k (counts_of_branches (branches_view p.0)) (counts_of_all (stmts_view (empty_if_none p.1))) (branches_named k p.0 q.0) (stmts_named k (empty_if_none p.1) (empty_ok k p.1 q.1))), tt), none))

pub while_keeps : (k : Setting) (at : Pos) (x : Phrase) (body : List Judging) → PhraseOk k x → AreJudging k body → JudgingOk k (while_statement at x body)
while_keeps k at x body g h u s =
    then_keeps k (λ (p : TypedExpr × List TypedStmt). E k p.0 × AreOk k p.1) (AreOk k) (both (condition u x) (in_turn body u)) _ (both_keep k (E k) (AreOk k) (condition u x) (in_turn body u) (condition_keeps k u s x g) (turn_keeps k u s body h))
    (λ p q. ((named_s k _ (While (expr_view p.0) (stmts_view p.1) at) (view_while p.0 p.1 at) (two_parts k (counts_of_expr (expr_view p.0)) (counts_of_all (stmts_view p.1)) q.0 (stmts_named k p.1 q.1)), tt), none))

pub repeat_keeps : (k : Setting) (at : Pos) (body : List Judging) (x : Phrase) → AreJudging k body → PhraseOk k x → JudgingOk k (repeat_statement at body x)
repeat_keeps k at body x h g u s =
    then_keeps k (λ (p : List TypedStmt × TypedExpr). AreOk k p.0 × E k p.1) (AreOk k) (both (in_turn body u) (condition u x)) _ (both_keep k (AreOk k) (E k) (in_turn body u) (condition u x) (turn_keeps k u s body h) (condition_keeps k u s x g))
    (λ p q. ((named_s k _ (Repeat (stmts_view p.0) (expr_view p.1) at) (view_repeat p.0 p.1 at) (two_parts k (counts_of_all (stmts_view p.0)) (counts_of_expr (expr_view p.1)) (stmts_named k p.0 q.0) q.1), tt), none))

pub loop_keeps : (k : Setting) (at : Pos) (body : List Judging) → AreJudging k body → JudgingOk k (loop_statement at body)
loop_keeps k at body h u s =
    then_keeps k (AreOk k) (AreOk k) (in_turn body (in_loop u)) _ (turn_keeps k (in_loop u) (stays k u (in_loop u) refl refl refl s.known s.guards s.receiver s) body h)
    (λ b q. ((named_s k _ (Loop (stmts_view b) at) (view_loop b at) (stmts_named k b q), tt), none))

-- ---- CASE

constant_of_keeps : (k : Setting) (at : Pos) (o : Option Value) → Keeps k Anything (constant_of at o)
constant_of_keeps k at None = (tt, none)
constant_of_keeps k at (Some v) = (tt, none)

constant_if_keeps : (k : Setting) (at : Pos) (o : Option Valued) (b : Bool) → Keeps k Anything (constant_if at o b)
constant_if_keeps k at (Some x) b = constant_of_keeps k at (constant_in x)
constant_if_keeps k at None true = (tt, none)
constant_if_keeps k at None false = (tt, none)

-- a constant
pub constant_keeps : (k : Setting) (u : Around) → Stands k u → (p : Phrase) → PhraseOk k p → Keeps k Anything (constant_value u p)
constant_keeps k u s p g =
    let j = p.value u in
    noted_keeps k Anything j.notes (constant_if p.start j.node (is_quiet j.notes.broken)) (g.0 u s).1 (constant_if_keeps k p.start j.node (is_quiet j.notes.broken))

high_keeps : (k : Setting) (u : Around) → Stands k u → (o : Option Phrase) → IfThere (PhraseOk k) o → Keeps k Anything (high_if u o)
high_keeps k u s None g = (tt, none)
high_keeps k u s (Some p) g = made_keeps k Anything Anything (λ v. Some v) (constant_value u p) (constant_keeps k u s p g) (λ v h. tt)

range_keeps : (k : Setting) (b : Bool) (at : Pos) (low high : ℤ) → Keeps k Anything (range_if b at low high)
range_keeps k true at low high = (tt, none)
range_keeps k false at low high = (tt, none)

label_of_keeps : (k : Setting) (at : Pos) (before : List Label) (a b : Option ℤ) → Keeps k Anything (label_of at before a b)
label_of_keeps k at before (Some low) (Some high) = range_keeps k _ at low high
label_of_keeps k at before (Some low) None = (tt, none)
label_of_keeps k at before None b = (tt, none)

label_as_keeps : (k : Setting) (s : Option Selects) (at : Pos) (before : List Label) (low high : Value) → Keeps k Anything (label_as s at before low high)
label_as_keeps k None at before low high = (tt, none)
label_as_keeps k (Some s) at before low high = label_of_keeps k at before (label_value s low) (label_value s high)

label_keeps : (k : Setting) (u : Around) → Stands k u → (s : Option Selects) (before : List Label) (r : Ranged) → RangedOk k r → Keeps k Anything (label u s before r)
label_keeps k u st s before r g =
    then_keeps k (λ (p : Value × Option Value). Anything p.0 × Anything p.1) Anything (both (constant_value u r.low) (high_if u r.high)) _
    (both_keep k Anything Anything (constant_value u r.low) (high_if u r.high) (constant_keeps k u st r.low g.0) (high_keeps k u st r.high g.1))
    (λ p h. label_as_keeps k s r.low.start before (both_ends p.0 p.1).0 (both_ends p.0 p.1).1)

labels_keep : (k : Setting) (u : Around) → Stands k u → (s : Option Selects) (rs : List Ranged) → AllByRecursion (RangedOk k) rs → (before : List Label) → Keeps k Anything (labels u s before rs).found
labels_keep k u st s [] g before = (tt, none)
labels_keep k u st s (r ∷ rs) g before =
    let l = label u s before r in
    let rest = labels u s (with_label before l.node) rs in
    then_keeps k (λ (p : Label × List Label). Anything p.0 × Anything p.1) Anything (both l rest.found) (λ p. sound (p.0 ∷ p.1))
    (both_keep k Anything Anything l rest.found (label_keeps k u st s before r g.0) (labels_keep k u st s rs g.1 (with_label before l.node))) (λ p h. (tt, none))

abbrev pub LabelledOk : Setting → Labelled → Type 0
LabelledOk k c = AllByRecursion (RangedOk k) c.labels × AreJudging k c.body

abbrev CaseOk : Setting → TypedCase → Type 0
CaseOk k c = TSs k (case_view c).body

case_of_keeps : (k : Setting) (ls : Judged (List Label)) (b : Judged (List TypedStmt)) → Keeps k Anything ls → Keeps k (AreOk k) b → Keeps k (CaseOk k) (case_of ls b)
case_of_keeps k ls b i g =
    made_keeps k (λ (p : List Label × List TypedStmt). Unit {0} × AreOk k p.1) (CaseOk k) _ (both ls b) (both_keep k Anything (AreOk k) ls b i g)
    (λ p q. subst (λ (x : LabelledBody). TSs k x.body) (sym (fold-roll-TypedCase Stmt OneBranch LabelledBody stmt_layer branch_layer case_layer (record { labels = p.0; body = p.1 }))) (stmts_named k p.1 q.1))

cases_named : (k : Setting) (cs : List TypedCase) → AllByRecursion (CaseOk k) cs → CasesTied k.map k.unit k.Own (cases_view cs) × CountsIn k.Held (counts_of_cases (cases_view cs))
cases_named k [] h = (tt, tt)
cases_named k (c ∷ cs) h = two_parts k (counts_of_all (case_view c).body) (counts_of_cases (cases_view cs)) h.0 (cases_named k cs h.1)

cases_keep : (k : Setting) (u : Around) → Stands k u → (s : Option Selects) (before : List Label) (cs : List Labelled) → AllByRecursion (LabelledOk k) cs → Keeps k (AllByRecursion (CaseOk k)) (cases u s before cs)
cases_keep k u st s before [] g = (tt, none)
cases_keep k u st s before (c ∷ cs) g =
    let ls = labels u s before c.labels in
    then_keeps k (λ (p : TypedCase × List TypedCase). CaseOk k p.0 × AllByRecursion (CaseOk k) p.1) (AllByRecursion (CaseOk k)) (both (case_of ls.found (in_turn c.body u)) (cases u s ls.before cs)) (λ p. sound (p.0 ∷ p.1))
    (both_keep k (CaseOk k) (AllByRecursion (CaseOk k)) (case_of ls.found (in_turn c.body u)) (cases u s ls.before cs) (case_of_keeps k ls.found (in_turn c.body u) (labels_keep k u st s c.labels g.0.0 before) (turn_keeps k u st c.body g.0.1)) (cases_keep k u st s ls.before cs g.1)) (λ p h. (h, none))

case_s : (k : Setting) (x : TypedExpr) (cs : List TypedCase) (o : Option (List TypedStmt)) (at : Pos) → E k x → AllByRecursion (CaseOk k) cs → IfThere (AreOk k) o → S k (stmt.Case x cs o at)
case_s k x cs None at h g i = named_s k _ (Case (expr_view x) (cases_view cs) NoElse at) (view_case_none x cs at) (three_parts k (counts_of_expr (expr_view x)) (counts_of_cases (cases_view cs)) [] h (cases_named k cs g) (tt, tt))
case_s k x cs (Some body) at h g i = named_s k _ (Case (expr_view x) (cases_view cs) (Else (stmts_view body)) at) (view_case_some x cs body at) (three_parts k (counts_of_expr (expr_view x)) (counts_of_cases (cases_view cs)) (counts_of_all (stmts_view body)) h (cases_named k cs g) (stmts_named k body i))

pub case_keeps : (k : Setting) (u : Around) → Stands k u → (at : Pos) (x : Phrase) (cs : List Labelled) (o : Option (List Judging)) → PhraseOk k x → AllByRecursion (LabelledOk k) cs → IfThere (AreJudging k) o → Keeps k (AreOk k) (rules.case u at x cs o)
case_keeps k u s at x cs o g h i =
    let j = case_judged u x in
    let c = cases u (selects_if (map_of u) j.node) [] cs in
    then_keeps k (λ (p : Valued × (List TypedCase × Option (List TypedStmt))). ValuedOk k p.0 × (AllByRecursion (CaseOk k) p.1.0 × IfThere (AreOk k) p.1.1)) (AreOk k) (both j (both c (in_turn_if o u))) _
    (both_keep k (ValuedOk k) (λ (p : List TypedCase × Option (List TypedStmt)). AllByRecursion (CaseOk k) p.0 × IfThere (AreOk k) p.1) j (both c (in_turn_if o u))
    (then_keeps k (ValuedOk k) (ValuedOk k) (x.value u) (case_value (map_of u) x.start) (g.0 u s) (λ v q. wants_keeps k (ValuedOk k) _ rule.UnfitCase x.start v (λ e. q)))
    (both_keep k (AllByRecursion (CaseOk k)) (IfThere (AreOk k)) c (in_turn_if o u) (cases_keep k u s (selects_if (map_of u) j.node) [] cs h) (turn_if_keeps k u s o i)))
    (λ p q. ((case_s k (tree p.0) p.1.0 p.1.1 at (tree_ok k p.0 q.0) q.1.0 q.1.1, tt), none))

-- ---- FOR

for_variable_keeps : (k : Setting) (u : Around) → Stands k u → (at : Pos) (x : Ident) (e : Entity) → EntityOk k e → Keeps k (PlaceOk k) (for_variable u at x e)
for_variable_keeps k u s at x (entity.Variable v t) h = then_keeps k (PlaceOk k) (PlaceOk k) (variable_named u x.pos v t false) (λ p. integer_place (map_of u) at p) (variable_keeps k u s x.pos v t false h) (λ p q. wants_keeps k (PlaceOk k) _ rule.UnfitFor at p (λ e. q))
for_variable_keeps k u s at x (entity.TypeName t) h = (tt, none)
for_variable_keeps k u s at x (entity.Module m) h = (tt, none)
for_variable_keeps k u s at x e h = (tt, none)

bound_keeps : (k : Setting) (map : Map) (at : Pos) (p : Place) (j : Judged Valued) → Keeps k (ValuedOk k) j → Keeps k (E k) (bound_if map at (Some p) j)
bound_keeps k map at p j h = then_keeps k (ValuedOk k) (E k) j (for_bound map at p) h (λ x q. wants_keeps k (E k) (fits map p.of x) rule.UnfitFor at (tree x) (λ e. tree_ok k x q))

step_value_keeps : (k : Setting) (at : Pos) (v : Value) → Keeps k Anything (step_value at v)
step_value_keeps k at (literal.Int z) = unless_keeps k Anything _ rule.UnfitFor at z tt
step_value_keeps k at v = (tt, none)

step_keeps : (k : Setting) (u : Around) → Stands k u → (at : Pos) (o : Option Phrase) → IfThere (PhraseOk k) o → Keeps k Anything (for_step u at o)
step_keeps k u s at None g = (tt, none)
step_keeps k u s at (Some x) g = then_keeps k Anything Anything (constant_value u x) (step_value at) (constant_keeps k u s x g) (λ v h. step_value_keeps k at v)

for_with_keeps : (k : Setting) (map : Map) (at : Pos) (o : Option Place) (a b : Judged Valued) (step : Judged ℤ) (body : Judged (List TypedStmt)) → IfThere (PlaceOk k) o → Keeps k (ValuedOk k) a → Keeps k (ValuedOk k) b → Keeps k Anything step → Keeps k (AreOk k) body → Keeps k (AreOk k) (for_with map at o a b step body)
for_with_keeps k map at None a b step body h x y w z =
    let f = both (both (bound_if map at None a) (bound_if map at None b)) (both step body) in
    (tt, said_both k f.notes no_notes (said_both k (joined (joined a.notes no_notes) (joined b.notes no_notes)) (joined step.notes body.notes) (said_both k (joined a.notes no_notes) (joined b.notes no_notes) (said_both k a.notes no_notes x.1 none) (said_both k b.notes no_notes y.1 none)) (said_both k step.notes body.notes w.1 z.1)) none)
for_with_keeps k map at (Some p) a b step body h x y w z =
    let bounds = both (bound_if map at (Some p) a) (bound_if map at (Some p) b) in
    then_keeps k (λ (q : (TypedExpr × TypedExpr) × (ℤ × List TypedStmt)). (E k q.0.0 × E k q.0.1) × (Unit {0} × AreOk k q.1.1)) (AreOk k) (both bounds (both step body)) _
    (both_keep k (λ (q : TypedExpr × TypedExpr). E k q.0 × E k q.1) (λ (q : ℤ × List TypedStmt). Unit {0} × AreOk k q.1) bounds (both step body) (both_keep k (E k) (E k) (bound_if map at (Some p) a) (bound_if map at (Some p) b) (bound_keeps k map at p a x) (bound_keeps k map at p b y)) (both_keep k Anything (AreOk k) step body w z))
    (λ q r. ((named_s k _ _ (view_for p.root _ q.0.0 q.0.1 q.1.0 q.1.1 at) (three_parts k (counts_of_expr (expr_view q.0.0)) (counts_of_expr (expr_view q.0.1)) (counts_of_all (stmts_view q.1.1)) r.0.0 r.0.1 (stmts_named k q.1.1 r.1.1)), tt), none))

pub for_keeps : (k : Setting) (u : Around) → Stands k u → (at : Pos) (x : Ident) (a b : Phrase) (step : Option Phrase) (body : List Judging) → PhraseOk k a → PhraseOk k b → IfThere (PhraseOk k) step → AreJudging k body → Keeps k (AreOk k) (rules.for u at x a b step body)
for_keeps k u s at x a b step body g h l i =
    let j = named u x ▷ for_variable u at x in
    let p = then_keeps k (EntityOk k) (PlaceOk k) (named u x) (for_variable u at x) (named_keeps k u s x) (λ e q. for_variable_keeps k u s at x e q) in
    noted_keeps k (AreOk k) j.notes (for_with (map_of u) at j.node (a.value u) (b.value u) (for_step u at step) (in_turn body u)) p.1
    (for_with_keeps k (map_of u) at j.node (a.value u) (b.value u) (for_step u at step) (in_turn body u) p.0 (g.0 u s) (h.0 u s) (step_keeps k u s at step l) (turn_keeps k u s body i))

-- ---- EXIT and RETURN

pub exit_keeps : (k : Setting) (u : Around) (at : Pos) → Keeps k (AreOk k) (rules.exit u at)
exit_keeps k u at = wants_keeps k (AreOk k) u.in_loop rule.MisplacedExit at (stmt.Exit ∷ []) (λ e. (named_s k stmt.Exit Exit view_exit (tt, tt), tt))

returned_keeps : (k : Setting) (map : Map) (at : Pos) (o : Option TypeRef) (x : Valued) → ValuedOk k x → Keeps k (AreOk k) (returned map at o x)
returned_keeps k map at None x h = (tt, none)
returned_keeps k map at (Some t) x h = wants_keeps k (AreOk k) (fits map t x) rule.UnfitReturn at (stmt.Return (Some (tree x)) ∷ []) (λ e. (named_s k _ (Return (Some (expr_view (tree x)))) (view_return (Some (tree x))) (tree_ok k x h), tt))

none_keeps : (k : Setting) (at : Pos) (o : Option TypeRef) → Keeps k (AreOk k) (return_none at o)
none_keeps k at None = ((named_s k _ (Return None) (view_return None) (tt, tt), tt), none)
none_keeps k at (Some t) = (tt, none)

pub return_keeps : (k : Setting) (u : Around) → Stands k u → (at : Pos) (o : Option Phrase) → IfThere (PhraseOk k) o → Keeps k (AreOk k) (rules.return u at o)
return_keeps k u s at None g = none_keeps k at u.result
return_keeps k u s at (Some x) g = then_keeps k (ValuedOk k) (AreOk k) (x.value u) (returned (map_of u) at u.result) (g.0 u s) (λ v h. returned_keeps k (map_of u) at u.result v h)

-- ---- WITH

with_module_keeps : (k : Setting) (u : Around) → Stands k u → (m x : Ident) (e : Entity) → Keeps k (MeantOk k) (with_module u m x e)
with_module_keeps k u s m x (entity.Module n) = designates_keeps k u s InExpression m (Dot x.pos x ∷ []) (tt, tt)
with_module_keeps k u s m x e = (tt, none)

with_named_keeps : (k : Setting) (u : Around) → Stands k u → (m x : Ident) → Keeps k (MeantOk k) (with_named u m x)
with_named_keeps k u s m x = then_keeps k (EntityOk k) (MeantOk k) (named u m) (with_module u m x) (named_keeps k u s m) (λ e h. with_module_keeps k u s m x e)

qualified_by_keeps : (k : Setting) (u : Around) → Stands k u → (m x : Ident) (e : Entity) → Keeps k (MeantOk k) (with_qualified_by u m x e)
qualified_by_keeps k u s m x (entity.Variable v t) = (tt, none)
qualified_by_keeps k u s m x e = with_named_keeps k u s m x

qualified_keeps : (k : Setting) (u : Around) → Stands k u → (m x : Ident) (o : Option Known) → Keeps k (MeantOk k) (with_qualified u m x o)
qualified_keeps k u s m x None = (tt, none)
qualified_keeps k u s m x (Some y) = qualified_by_keeps k u s m x y.what

with_meant_keeps : (k : Setting) (u : Around) → Stands k u → (o : Option Ident) (x : Ident) → Keeps k (MeantOk k) (with_meant u o x)
with_meant_keeps k u s None x = designates_keeps k u s InExpression x [] tt
with_meant_keeps k u s (Some m) x = qualified_keeps k u s m x (find_name u.known m.name)

with_place_keeps : (k : Setting) (map : Map) (at : Pos) (m : Meant) → MeantOk k m → Keeps k (PlaceOk k) (with_place map at m)
with_place_keeps k map at (means.Place p) h = wants_keeps k (PlaceOk k) _ rule.UnfitWith at p (λ e. h)
with_place_keeps k map at m h = (tt, none)

guard_test_ok : (k : Setting) (p : Place) (g : Guarded) (q : QName) → PlaceOk k p → k.Held q → E k (guard_test p g q)
guard_test_ok k p guarded.Pointer q h i =
    let v = named_e k (e.Designator p.designator.inner) (ValueOf (designator_view p.designator.inner)) (view_value_of p.designator.inner) h.0 in
    named_e k _ (IsPointer (expr_view (e.Designator p.designator.inner)) q) (view_is_pointer (e.Designator p.designator.inner) q) (v.0, counts_both k (counts_of_expr (expr_view (e.Designator p.designator.inner))) (Shapes (ref.Named q) ∷ []) v.1 (i, tt))
guard_test_ok k p guarded.Record q h i = named_e k _ (IsRecord (designator_view p.designator.inner) q) (view_is_record p.designator.inner q) (h.0.0, counts_both k (counts_of_designator (designator_view p.designator.inner)) (Shapes (ref.Named q) ∷ []) h.0.1 (i, tt))

-- a place with the record that it is tested for
abbrev GuardedOk : Setting → Place × (Guarded × QName) → Type 0
GuardedOk k q = PlaceOk k q.0 × k.Held q.1.1

with_guard_keeps : (k : Setting) (at : Pos) (p : Place) (o : Option (Guarded × QName)) → IfThere (λ g. k.Held g.1) o → (t : TypeRef) → PlaceOk k p → Keeps k (GuardedOk k) (with_guard at p o t)
with_guard_keeps k at p None i t h = (tt, none)
with_guard_keeps k at p (Some g) i t h = ((h, i), none)

-- a test with its type
abbrev TestOk : Setting → TypedExpr × TypeRef → Type 0
TestOk k p = E k p.0 × In k p.1

test_keeps : (k : Setting) (u : Around) → Stands k u → (g : Guard) → Keeps k (TestOk k) (with_test u g)
test_keeps k u s g =
    then_keeps k (λ (p : Place × TypeRef). PlaceOk k p.0 × In k p.1) (TestOk k) (both (with_variable u g) (type_named u g.target)) (λ p. tested (map_of u) (first_of g.variable) p.0 p.1)
    (both_keep k (PlaceOk k) (In k) (with_variable u g) (type_named u g.target) (then_keeps k (MeantOk k) (PlaceOk k) (with_meant u g.variable.qualifier g.variable.ident) (with_place (map_of u) (first_of g.variable)) (with_meant_keeps k u s g.variable.qualifier g.variable.ident) (λ m h. with_place_keeps k (map_of u) (first_of g.variable) m h)) (type_keeps k u s g.target))
    (λ p h. then_keeps k (GuardedOk k) (TestOk k) (with_guard (first_of g.variable) p.0 (guard_of (map_of u) p.0 p.1) p.1) _ (with_guard_keeps k (first_of g.variable) p.0 (guard_of (map_of u) p.0 p.1) (guard_tests k (map_of u) s.named p.0 p.1 h.1) p.1 h.0) (λ q r. ((guard_test_ok k q.0 q.1.0 q.1.1 r.0 r.1, h.1), none)))

guarded_stands : (k : Setting) (u : Around) → Stands k u → (o : Option Variable) (t : Option TypeRef) → GuardIn k.Held t → Stands k (guarded_around u o t)
guarded_stands k u s None t i = s
guarded_stands k u s (Some v) t i = stays k u (guarded_around u (Some v) t) refl refl refl s.known (all_both (λ (g : Variable × Option TypeRef). GuardIn k.Held g.1) u.guards ((v, t) ∷ []) s.guards (i, tt)) s.receiver s

type_there : (k : Setting) (o : Option (TypedExpr × TypeRef)) → IfThere (TestOk k) o → GuardIn k.Held (type_if o)
type_there k None h = tt
type_there k (Some p) h = h.1

with_branch_keeps : (k : Setting) (u : Around) → Stands k u → (b : GuardedBody) → AreJudging k b.body → Keeps k (BranchOk k) (with_branch u b)
with_branch_keeps k u s b g =
    let t = with_test u b.guard in
    let v = guarded_body u b.guard t.node in
    let h = test_keeps k u s b.guard in
    branch_keeps k (made (λ p. p.0) t) (in_turn b.body v) (made_keeps k (TestOk k) (E k) (λ p. p.0) t h (λ p h. h.0))
    (turn_keeps k v (guarded_stands k u s (variable_meant u b.guard.variable.qualifier b.guard.variable.ident) (type_if t.node) (type_there k t.node h.0)) b.body g)

with_branches_keep : (k : Setting) (u : Around) → Stands k u → (bs : List GuardedBody) → AllByRecursion (λ (b : GuardedBody). AreJudging k b.body) bs → Keeps k (AllByRecursion (BranchOk k)) (with_branches u bs)
with_branches_keep k u s [] g = (tt, none)
with_branches_keep k u s (b ∷ bs) g =
    then_keeps k (λ (p : TypedBranch × List TypedBranch). BranchOk k p.0 × AllByRecursion (BranchOk k) p.1) (AllByRecursion (BranchOk k)) (both (with_branch u b) (with_branches u bs)) (λ p. sound (p.0 ∷ p.1))
    (both_keep k (BranchOk k) (AllByRecursion (BranchOk k)) (with_branch u b) (with_branches u bs) (with_branch_keeps k u s b g.0) (with_branches_keep k u s bs g.1)) (λ p h. (h, none))

with_s : (k : Setting) (bs : List TypedBranch) (o : Option (List TypedStmt)) (at : Pos) → AllByRecursion (BranchOk k) bs → IfThere (AreOk k) o → S k (stmt.With bs o at)
with_s k bs None at g i = named_s k _ (With (branches_view bs) NoElse at) (view_with_none bs at) (two_parts k (counts_of_branches (branches_view bs)) [] (branches_named k bs g) (tt, tt))
with_s k bs (Some body) at g i = named_s k _ (With (branches_view bs) (Else (stmts_view body)) at) (view_with_some bs body at) (two_parts k (counts_of_branches (branches_view bs)) (counts_of_all (stmts_view body)) (branches_named k bs g) (stmts_named k body i))

pub with_keeps : (k : Setting) (at : Pos) (bs : List GuardedBody) (o : Option (List Judging)) → AllByRecursion (λ (b : GuardedBody). AreJudging k b.body) bs → IfThere (AreJudging k) o → JudgingOk k (with_statement at bs o)
with_keeps k at bs o g h u s =
    then_keeps k (λ (p : List TypedBranch × Option (List TypedStmt)). AllByRecursion (BranchOk k) p.0 × IfThere (AreOk k) p.1) (AreOk k) (both (with_branches u bs) (in_turn_if o u)) _
    (both_keep k (AllByRecursion (BranchOk k)) (IfThere (AreOk k)) (with_branches u bs) (in_turn_if o u) (with_branches_keep k u s bs g) (turn_if_keeps k u s o h))
    (λ p q. ((with_s k p.0 p.1 at q.0 q.1, tt), none))
