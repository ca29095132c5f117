-- Statements name members that are there where their parts do.
use Rattle.std.proofs.Common.{◌≡◌, Bool, true, false, List, [], ◌∷◌, ◌++◌, Option, Some, None, refl, sym, subst}
use Rattle.std.specs.Prelude.{bytes_eq}
use Rattle.std.specs.List.{AllByRecursion}
use Rattle.ob_tree.specs.declared.pos.Pos.{Pos}
use Rattle.ob_tree.specs.declared.names.QName.{QName}
use Rattle.ob_types.specs.declared.types.TypeRef.{TypeRef}
use Rattle.ob_types.specs.declared.types.Signature.{Signature}
use Rattle.ob_types.specs.declared.typed.TypedExpr.{TypedExpr}
use Rattle.ob_types.specs.declared.typed.TypedStmt.{TypedStmt}
use Rattle.ob_types.specs.declared.typed.TypedStmt.TheVariants as stmt
use Rattle.ob_types.specs.declared.typed.TypedStmt.TheFolds.{fold-roll-TypedBranch}
use Rattle.ob_types.specs.declared.typed.TypedBranch.{TypedBranch}
use Rattle.ob_types.specs.TypedSyntax.{Stmt, Assign, CallProper, If, While, Repeat, Loop, Exit, Return}
use Rattle.ob_types.specs.TypedView.{OneBranch, LabelledBody, stmt_layer, branch_layer, case_layer, designator_view, expr_view, branch_view, stmts_view, branches_view}
use Rattle.ob_types.proofs.TypedViews.{view_assign, view_call_proper, view_if, view_while, view_repeat, view_loop, view_exit, view_return}
use Rattle.ob_rules.specs.declared.values.Place.{Place}
use Rattle.ob_rules.specs.declared.values.Valued.{Valued}
use Rattle.ob_rules.specs.declared.meant.Meant.{Meant}
use Rattle.ob_rules.specs.declared.meant.Meant.TheVariants as means
use Rattle.ob_rules.specs.declared.meant.Where.TheVariants.{AsStatement, Elsewhere}
use Rattle.ob_rules.specs.declared.broken.Rule.TheVariants as rule
use Rattle.ob_rules.specs.Judged.{Judged, sound, both, ◌▷◌}
use Rattle.ob_rules.specs.Shapes.{Map, same_name, signature_at, is_array}
use Rattle.ob_rules.specs.Names.{Around, map_of, type_desc, out_string}
use Rattle.ob_rules.specs.Values.{tree, fits}
use Rattle.ob_rules.specs.Phrases.{Phrase}
use Rattle.ob_rules.specs.Calls.{call_variable}
use Rattle.ob_rules.specs.Designators.{call_meant}
use Rattle.ob_rules.specs.Expressions.{Named, meant_by}
use Rattle.ob_rules.specs.Statements as rules
use Rattle.ob_rules.specs.Statements.{Judging, in_turn, in_turn_if, target, assignment_of, assigned_tree, assigns, assignment, call_value, done, place_called, called, condition, branch_of, empty_if_none, returned, return_none, Conditional, in_loop, conditional, conditionals, if_statement, while_statement, repeat_statement, loop_statement, call_statement}
use Rattle.law_builds_seen.specs.Seen.{ExprSeen, StmtsSeen, BranchesSeen}
use Rattle.law_builds_seen.specs.Laws.{KeepsMembers}
use Rattle.law_builds_seen.proofs.Setting.{Stands, E, S, PlaceOk, ValuedOk, MeantOk, Keeps, then_keeps, both_keep, made_keeps, unless_keeps, wants_keeps, named_s, tree_ok}
use Rattle.law_builds_seen.proofs.Values.{text_tree_ok}
use Rattle.law_builds_seen.proofs.Calls.{PhraseOk, call_variable_keeps}
use Rattle.law_builds_seen.proofs.Designators.{call_meant_keeps}
use Rattle.law_builds_seen.proofs.Expressions.{NamedOk, meant_keeps}
use Rattle.law_lists.proofs.Lists.{IfThere, all_both}

abbrev pub AreOk : Map → List TypedStmt → Type 0
AreOk k ss = AllByRecursion (S k) ss

abbrev pub JudgingOk : Map → Judging → Type 0
JudgingOk k f = (u : Around) → Stands k u → Keeps (AreOk k) (f u)

abbrev pub AreJudging : Map → List Judging → Type 0
AreJudging k fs = AllByRecursion (JudgingOk k) fs

pub stmts_seen : (k : Map) (ss : List TypedStmt) → AreOk k ss → StmtsSeen k (stmts_view ss)
stmts_seen k [] h = tt
stmts_seen k (s ∷ ss) h = (h.0, stmts_seen k ss h.1)

pub turn_keeps : (k : Map) (u : Around) → Stands k u → (fs : List Judging) → AreJudging k fs → Keeps (AreOk k) (in_turn fs u)
turn_keeps k u s [] g = tt
turn_keeps k u s (f ∷ fs) g =
    then_keeps (λ (p : List TypedStmt × List TypedStmt). AreOk k p.0 × AreOk k p.1) (AreOk k) (both (f u) (in_turn fs u)) (λ p. sound (p.0 ++ p.1)) (both_keep (AreOk k) (AreOk k) (f u) (in_turn fs u) (g.0 u s) (turn_keeps k u s fs g.1)) (λ p h. all_both (S k) p.0 p.1 h.0 h.1)

pub turn_if_keeps : (k : Map) (u : Around) → Stands k u → (o : Option (List Judging)) → IfThere (AreJudging k) o → Keeps (IfThere (AreOk k)) (in_turn_if o u)
turn_if_keeps k u s None g = tt
turn_if_keeps k u s (Some fs) g = made_keeps (AreOk k) (IfThere (AreOk k)) (λ x. Some x) (in_turn fs u) (turn_keeps k u s fs g) (λ x h. h)

-- ---- assignments and calls

target_keeps : (k : Map) (at : Pos) (m : Meant) → MeantOk k m → Keeps (PlaceOk k) (target at m)
target_keeps k at (means.Place p) h = unless_keeps (PlaceOk k) p.read_only rule.NotChangeable at p h
target_keeps k at m h = tt

assigned_tree_ok : (k : Map) (b : Bool) (x : Valued) → ValuedOk k x → E k (assigned_tree b x)
assigned_tree_ok k true x h = text_tree_ok k x h
assigned_tree_ok k false x h = tree_ok k x h

assigns_keep : (k map : Map) (at : Pos) (p : Place) (x : Valued) → PlaceOk k p → ValuedOk k x → Keeps (AreOk k) (assigns map at p x)
assigns_keep k map at p x h g =
    let how = assignment_of map p x in
    let t = assigned_tree (is_array map p.of) x in
    wants_keeps (AreOk k) (fits map p.of x) rule.NotAssignable at (stmt.Assign p.designator.inner how t at ∷ [])
    (named_s k _ (Assign (designator_view p.designator.inner) how (expr_view t) at) (view_assign p.designator.inner how t at) (h, assigned_tree_ok k (is_array map p.of) x g), tt)

pub assignment_keeps : (k : Map) (n : Named) (at : Pos) (x : Phrase) → NamedOk k n → PhraseOk k x → (u : Around) → Stands k u → Keeps (AreOk k) (assignment u n at x)
assignment_keeps k n at x g h u s =
    let j = meant_by Elsewhere n u ▷ target n.ident.pos in
    then_keeps (λ (p : Place × Valued). PlaceOk k p.0 × ValuedOk k p.1) (AreOk k) (both j (x.value u)) (λ p. assigns (map_of u) at p.0 p.1)
    (both_keep (PlaceOk k) (ValuedOk k) j (x.value u) (then_keeps (MeantOk k) (PlaceOk k) (meant_by Elsewhere n u) (target n.ident.pos) (meant_keeps k Elsewhere n g u s) (λ m q. target_keeps k n.ident.pos m q)) (h.value u s))
    (λ p q. assigns_keep k (map_of u) at p.0 p.1 q.0 q.1)

call_ok : (k : Map) (x : Valued) → ValuedOk k x → Keeps (AreOk k) (call_value x)
call_ok k x h = (named_s k _ (CallProper (expr_view (tree x))) (view_call_proper (tree x)) (tree_ok k x h), tt)

done_keeps : (k : Map) (m : Meant) → MeantOk k m → Keeps (AreOk k) (done m)
done_keeps k (means.Call x) h = call_ok k x h
done_keeps k (means.Statement s) h = (h, tt)
done_keeps k m h = tt

place_called_keeps : (k : Map) (u : Around) → Stands k u → (start : Pos) (p : Place) (o : Option Signature) → PlaceOk k p → Keeps (AreOk k) (place_called u start p o)
place_called_keeps k u s start p None h = tt
place_called_keeps k u s start p (Some g) h = then_keeps (ValuedOk k) (AreOk k) (call_variable u AsStatement start p g []) call_value (call_variable_keeps k u s AsStatement start p g [] tt h) (λ x q. call_ok k x q)

called_keeps : (k : Map) (u : Around) → Stands k u → (n : Named) (m : Meant) → MeantOk k m → Keeps (AreOk k) (called u n m)
called_keeps k u s n (means.Place p) h = place_called_keeps k u s n.ident.pos p (signature_at (map_of u) p.of) h
called_keeps k u s n (means.Constant v) h = tt
called_keeps k u s n (means.Call x) h = call_ok k x h
called_keeps k u s n (means.Statement t) h = (h, tt)
called_keeps k u s n m h = then_keeps (MeantOk k) (AreOk k) (call_meant u AsStatement n.ident.pos m []) done (call_meant_keeps k u s AsStatement n.ident.pos m [] tt h) (λ x q. done_keeps k x q)

pub call_keeps : (k : Map) (n : Named) → NamedOk k n → JudgingOk k (call_statement n)
call_keeps k n g u s = then_keeps (MeantOk k) (AreOk k) (meant_by AsStatement n u) (called u n) (meant_keeps k AsStatement n g u s) (λ m h. called_keeps k u s n m h)

-- ---- conditions and branches

condition_keeps : (k : Map) (u : Around) → Stands k u → (x : Phrase) → PhraseOk k x → Keeps (E k) (condition u x)
condition_keeps k u s x g = then_keeps (ValuedOk k) (E k) (x.value u) _ (g.value u s) (λ v h. wants_keeps (E k) _ rule.NotBoolean x.start (tree v) (tree_ok k v h))

abbrev OneSeen : Map → OneBranch → Type 0
OneSeen k b = ExprSeen k b.test × StmtsSeen k b.body

abbrev pub BranchOk : Map → TypedBranch → Type 0
BranchOk k b = OneSeen k (branch_view b)

pub branch_keeps : (k : Map) (c : Judged TypedExpr) (b : Judged (List TypedStmt)) → Keeps (E k) c → Keeps (AreOk k) b → Keeps (BranchOk k) (branch_of c b)
branch_keeps k c b h g =
    made_keeps (λ (p : TypedExpr × List TypedStmt). E k p.0 × AreOk k p.1) (BranchOk k) _ (both c b) (both_keep (E k) (AreOk k) c b h g)
    (λ p q. subst (OneSeen k) (sym (fold-roll-TypedBranch Stmt OneBranch LabelledBody stmt_layer branch_layer case_layer (record { test = p.0; body = p.1 }))) (q.0, stmts_seen k p.1 q.1))

pub branches_seen : (k : Map) (bs : List TypedBranch) → AllByRecursion (BranchOk k) bs → BranchesSeen k (branches_view bs)
branches_seen k [] h = tt
branches_seen k (b ∷ bs) h = (h.0.0, h.0.1, branches_seen k bs h.1)

abbrev pub ConditionalOk : Map → Conditional → Type 0
ConditionalOk k c = PhraseOk k c.test × AreJudging k c.body

conditionals_keep : (k : Map) (u : Around) → Stands k u → (cs : List Conditional) → AllByRecursion (ConditionalOk k) cs → Keeps (AllByRecursion (BranchOk k)) (conditionals u cs)
conditionals_keep k u s [] g = tt
conditionals_keep k u s (c ∷ cs) g =
    let B = BranchOk k in
    then_keeps (λ (p : TypedBranch × List TypedBranch). B p.0 × AllByRecursion B p.1) (AllByRecursion B) (both (conditional u c) (conditionals u cs)) (λ p. sound (p.0 ∷ p.1))
    (both_keep B (AllByRecursion B) (conditional u c) (conditionals u cs) (branch_keeps k (condition u c.test) (in_turn c.body u) (condition_keeps k u s c.test g.0.0) (turn_keeps k u s c.body g.0.1)) (conditionals_keep k u s cs g.1)) (λ p h. h)

empty_ok : (k : Map) (o : Option (List TypedStmt)) → IfThere (AreOk k) o → AreOk k (empty_if_none o)
empty_ok k None h = tt
empty_ok k (Some xs) h = h

pub if_keeps : (k : Map) (bs : List Conditional) (o : Option (List Judging)) → AllByRecursion (ConditionalOk k) bs → IfThere (AreJudging k) o → JudgingOk k (if_statement bs o)
if_keeps k bs o g h u s =
    then_keeps (λ (p : List TypedBranch × Option (List TypedStmt)). AllByRecursion (BranchOk k) p.0 × IfThere (AreOk k) p.1) (AreOk k) (both (conditionals u bs) (in_turn_if o u)) _
    (both_keep (AllByRecursion (BranchOk k)) (IfThere (AreOk k)) (conditionals u bs) (in_turn_if o u) (conditionals_keep k u s bs g) (turn_if_keeps k u s o h))
    (λ p q. (named_s k _ (If (branches_view p.0) (stmts_view (empty_if_none p.1))) (view_if p.0 (empty_if_none p.1)) (branches_seen k p.0 q.0, stmts_seen k (empty_if_none p.1) (empty_ok k p.1 q.1)), tt))

pub while_keeps : (k : Map) (at : Pos) (x : Phrase) (body : List Judging) → PhraseOk k x → AreJudging k body → JudgingOk k (while_statement at x body)
while_keeps k at x body g h u s =
    then_keeps (λ (p : TypedExpr × List TypedStmt). E k p.0 × AreOk k p.1) (AreOk k) (both (condition u x) (in_turn body u)) _ (both_keep (E k) (AreOk k) (condition u x) (in_turn body u) (condition_keeps k u s x g) (turn_keeps k u s body h))
    (λ p q. (named_s k _ (While (expr_view p.0) (stmts_view p.1) at) (view_while p.0 p.1 at) (q.0, stmts_seen k p.1 q.1), tt))

pub repeat_keeps : (k : Map) (at : Pos) (body : List Judging) (x : Phrase) → AreJudging k body → PhraseOk k x → JudgingOk k (repeat_statement at body x)
repeat_keeps k at body x h g u s =
    then_keeps (λ (p : List TypedStmt × TypedExpr). AreOk k p.0 × E k p.1) (AreOk k) (both (in_turn body u) (condition u x)) _ (both_keep (AreOk k) (E k) (in_turn body u) (condition u x) (turn_keeps k u s body h) (condition_keeps k u s x g))
    (λ p q. (named_s k _ (Repeat (stmts_view p.0) (expr_view p.1) at) (view_repeat p.0 p.1 at) (stmts_seen k p.0 q.0, q.1), tt))

-- the map of types is the same inside a LOOP
loop_map : (u : Around) → map_of (in_loop u) ≡ map_of u
loop_map u = λ i q. go (bytes_eq q.«module» u.unit) (same_name q out_string) q i
  where
    go : (b c : Bool) (q : QName) → type_desc b c (in_loop u) q ≡ type_desc b c u q
    go true c q = refl
    go false true q = refl
    go false false q = refl

looped : (k : Map) (u : Around) → Stands k u → Stands k (in_loop u)
looped k u s = subst (KeepsMembers k) (sym (loop_map u)) s

pub loop_keeps : (k : Map) (at : Pos) (body : List Judging) → AreJudging k body → JudgingOk k (loop_statement at body)
loop_keeps k at body h u s =
    then_keeps (AreOk k) (AreOk k) (in_turn body (in_loop u)) _ (turn_keeps k (in_loop u) (looped k u s) body h)
    (λ b q. (named_s k _ (Loop (stmts_view b) at) (view_loop b at) (stmts_seen k b q), tt))

-- ---- EXIT and RETURN

pub exit_keeps : (k : Map) (u : Around) (at : Pos) → Keeps (AreOk k) (rules.exit u at)
exit_keeps k u at = wants_keeps (AreOk k) u.in_loop rule.MisplacedExit at (stmt.Exit ∷ []) (named_s k stmt.Exit Exit view_exit tt, tt)

returned_keeps : (k map : Map) (at : Pos) (o : Option TypeRef) (x : Valued) → ValuedOk k x → Keeps (AreOk k) (returned map at o x)
returned_keeps k map at None x h = tt
returned_keeps k map at (Some t) x h = wants_keeps (AreOk k) (fits map t x) rule.UnfitReturn at (stmt.Return (Some (tree x)) ∷ []) (named_s k _ (Return (Some (expr_view (tree x)))) (view_return (Some (tree x))) (tree_ok k x h), tt)

none_keeps : (k : Map) (at : Pos) (o : Option TypeRef) → Keeps (AreOk k) (return_none at o)
none_keeps k at None = (named_s k _ (Return None) (view_return None) tt, tt)
none_keeps k at (Some t) = tt

pub return_keeps : (k : Map) (at : Pos) (o : Option Phrase) → IfThere (PhraseOk k) o → (u : Around) → Stands k u → Keeps (AreOk k) (rules.return u at o)
return_keeps k at None g u s = none_keeps k at u.result
return_keeps k at (Some x) g u s = then_keeps (ValuedOk k) (AreOk k) (x.value u) (returned (map_of u) at u.result) (g.value u s) (λ v h. returned_keeps k (map_of u) at u.result v h)
