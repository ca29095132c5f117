-- The statements that are made of a text have the places of its FOR and CASE, in their order.
use Rattle.std.proofs.Common.{refl, sym, subst, ℤ, List, [], ◌∷◌, ◌++◌, map, Option, Some, None}
use Rattle.ob_tree.specs.declared.pos.Pos.{Pos}
use Rattle.ob_tree.specs.declared.stmt.Stmt.{Stmt, roll-Stmt, map-Stmt}
use Rattle.ob_tree.specs.declared.stmt.Branch.{Branch, roll-Branch, map-Branch}
use Rattle.ob_tree.specs.declared.stmt.Case.{Case, roll-Case, map-Case}
use Rattle.ob_tree.specs.declared.stmt.GuardedBranch.{GuardedBranch, roll-GuardedBranch, map-GuardedBranch}
use Rattle.ob_tree.specs.declared.stmt.Stmt.TheOpen.{Stmt-F, Branch-F, Case-F, GuardedBranch-F}
use Rattle.ob_tree.specs.declared.stmt.Stmt.TheFolds.{ind-Stmt, fold-roll-Stmt, fold-roll-Branch, fold-roll-Case, fold-roll-GuardedBranch}
use Rattle.ob_types.specs.declared.typed.Label.{Label}
use Rattle.ob_types.specs.declared.typed.TypedExpr.{TypedExpr}
use Rattle.ob_types.specs.declared.typed.TypedStmt.{TypedStmt}
use Rattle.ob_types.specs.declared.typed.TypedStmt.TheVariants as stmt
use Rattle.ob_types.specs.declared.typed.TypedBranch.{TypedBranch, roll-TypedBranch}
use Rattle.ob_types.specs.declared.typed.TypedCase.{TypedCase, roll-TypedCase}
use Rattle.ob_types.specs.declared.typed.TypedStmt.TheFolds.{fold-roll-TypedBranch, fold-roll-TypedCase}
use Rattle.ob_types.specs.TypedSyntax as syntax
use Rattle.ob_types.specs.TypedView.{OneBranch, LabelledBody, stmt_layer, branch_layer, case_layer, expr_view, stmts_view, branch_view, branches_view, case_view, cases_view, otherwise_view}
use Rattle.ob_types.proofs.TypedViews.{view_if, view_case_none, view_case_some, view_while, view_repeat, view_for, view_loop, view_with_none, view_with_some}
use Rattle.ob_meaning.specs.Calls.{hidden_of_all, hidden_of_branches, hidden_of_cases, hidden_of_else}
use Rattle.ob_rules.specs.declared.meant.Selects.{Selects}
use Rattle.ob_rules.specs.declared.values.Place.{Place}
use Rattle.ob_rules.specs.declared.values.Valued.{Valued}
use Rattle.ob_rules.specs.Judged.{Judged, sound, both, made, ◌▷◌}
use Rattle.ob_rules.specs.Shapes.{Map}
use Rattle.ob_rules.specs.Names.{Around, map_of, named}
use Rattle.ob_rules.specs.Expressions.{named_of, phrase_of}
use Rattle.ob_rules.specs.Values.{tree}
use Rattle.ob_rules.specs.Phrases.{Phrase}
use Rattle.ob_rules.specs.Statements as rules
use Rattle.ob_rules.specs.Statements.{Judging, Conditional, Labelled, GuardedBody, in_turn, in_turn_if, one, branch_of, empty_if_none, condition, Labels, labels, case_of, case_behind, cases, selects_if, case_judged, for_made, for_parts, bound_if, for_step, for_variable, in_loop, conditional, conditionals, guarded_body, with_test, with_branch, with_branches, if_statement, while_statement, repeat_statement, loop_statement, with_statement, case, phrase_if, stmt_rule, branch_rule, case_rule, guarded_rule, judging, conditional_of, labelled_of, guarded_of}
use Rattle.law_methods_described.proofs.Nodes.{Has, then_has, both_have, first_has, second_has}
use Rattle.law_typing.specs.Bodies.{in_all, place_layer, branch_places_layer, case_places_layer, guarded_places_layer, hidden_places, branch_places, case_places, guarded_places}
use Rattle.law_builds_bodies.specs.built_laws.Procedures.{PlacesAreThose}
use Rattle.law_builds_bodies.proofs.built_laws.Simple.{Holds, holds_joined, holds_front, Keeps, one_keeps, two_keep, call_statement_has, assignment_has, exit_has, return_has}
use Rattle.law_lists.proofs.Lists.{IfThere}

-- ---- what is judged

abbrev Judges : List Pos → Judging → Type 0
Judges ps f = (u : Around) → Has (Keeps ps) (f u)

abbrev Turns : List Pos → List Judging → Type 0
Turns ps fs = (u : Around) → Has (Keeps ps) (in_turn fs u)

turns_one : (ps qs : List Pos) (f : Judging) (fs : List Judging) → Judges ps f → Turns qs fs → Turns (ps ++ qs) (f ∷ fs)
turns_one ps qs f fs h k u =
    then_has (λ (p : List TypedStmt × List TypedStmt). Keeps ps p.0 × Keeps qs p.1) (Keeps (ps ++ qs)) (both (f u) (in_turn fs u)) (λ p. sound (p.0 ++ p.1))
    (both_have (Keeps ps) (Keeps qs) (f u) (in_turn fs u) (h u) (k u)) (λ p g. two_keep ps qs p.0 p.1 g.0 g.1)

abbrev Else : List Pos → Option (List TypedStmt) → Type 0
Else ps o = Holds ps (hidden_of_else (otherwise_view o))

abbrev TurnsIf : List Pos → Option (List Judging) → Type 0
TurnsIf ps None = Holds ps []
TurnsIf ps (Some fs) = Turns ps fs

if_turns : (ps : List Pos) (o : Option (List Judging)) → TurnsIf ps o → (u : Around) → Has (Else ps) (in_turn_if o u)
if_turns ps None h u = h
if_turns ps (Some fs) h u = then_has (Keeps ps) (Else ps) (in_turn fs u) (λ x. sound (Some x)) (h u) (λ x k. k)

else_all : (ps : List Pos) (o : Option (List TypedStmt)) → Else ps o → Keeps ps (empty_if_none o)
else_all ps None h = h
else_all ps (Some xs) h = h

-- ---- branches

abbrev InBranch : List Pos → TypedBranch → Type 0
InBranch ps b = Holds ps (hidden_of_all (branch_view b).body)

abbrev InBranches : List Pos → List TypedBranch → Type 0
InBranches ps bs = Holds ps (hidden_of_branches (branches_view bs))

branch_keeps : (ps : List Pos) (t : TypedExpr) (xs : List TypedStmt) → Keeps ps xs → InBranch ps (roll-TypedBranch (record { test = t; body = xs }))
branch_keeps ps t xs h = subst (λ (b : OneBranch). Holds ps (hidden_of_all b.body)) (sym (fold-roll-TypedBranch syntax.Stmt OneBranch LabelledBody stmt_layer branch_layer case_layer (record { test = t; body = xs }))) h

branch_has : (ps : List Pos) (c : Judged TypedExpr) (b : Judged (List TypedStmt)) → Has (Keeps ps) b → Has (InBranch ps) (branch_of c b)
branch_has ps c b h = then_has (λ (p : TypedExpr × List TypedStmt). Unit {0} × Keeps ps p.1) (InBranch ps) (both c b) (λ p. sound (roll-TypedBranch (record { test = p.0; body = p.1 }))) (second_has (Keeps ps) c b h) (λ p k. branch_keeps ps p.0 p.1 k.1)

branches_have : (ps qs : List Pos) (b : Judged TypedBranch) (bs : Judged (List TypedBranch)) → Has (InBranch ps) b → Has (InBranches qs) bs → Has (InBranches (ps ++ qs)) (both b bs ▷ λ p. sound (p.0 ∷ p.1))
branches_have ps qs b bs h k =
    then_has (λ (p : TypedBranch × List TypedBranch). InBranch ps p.0 × InBranches qs p.1) (InBranches (ps ++ qs)) (both b bs) (λ p. sound (p.0 ∷ p.1)) (both_have (InBranch ps) (InBranches qs) b bs h k)
    (λ p g. holds_joined ps (hidden_of_all (branch_view p.0).body) qs (hidden_of_branches (branches_view p.1)) g.0 g.1)

-- ---- cases

abbrev InCase : List Pos → TypedCase → Type 0
InCase ps c = Holds ps (hidden_of_all (case_view c).body)

abbrev InCases : List Pos → List TypedCase → Type 0
InCases ps cs = Holds ps (hidden_of_cases (cases_view cs))

case_keeps : (ps : List Pos) (ls : List Label) (xs : List TypedStmt) → Keeps ps xs → InCase ps (roll-TypedCase (record { labels = ls; body = xs }))
case_keeps ps ls xs h = subst (λ (c : LabelledBody). Holds ps (hidden_of_all c.body)) (sym (fold-roll-TypedCase syntax.Stmt OneBranch LabelledBody stmt_layer branch_layer case_layer (record { labels = ls; body = xs }))) h

case_has : (ps : List Pos) (ls : Judged (List Label)) (b : Judged (List TypedStmt)) → Has (Keeps ps) b → Has (InCase ps) (case_of ls b)
case_has ps ls b h = then_has (λ (p : List Label × List TypedStmt). Unit {0} × Keeps ps p.1) (InCase ps) (both ls b) (λ p. sound (roll-TypedCase (record { labels = p.0; body = p.1 }))) (second_has (Keeps ps) ls b h) (λ p k. case_keeps ps p.0 p.1 k.1)

behind_has : (ps qs : List Pos) (ls : Labels) (b : Judged (List TypedStmt)) (f : List Label → Judged (List TypedCase)) → Has (Keeps ps) b → ((l : List Label) → Has (InCases qs) (f l)) → Has (InCases (ps ++ qs)) (case_behind ls b f)
behind_has ps qs ls b f h k =
    then_has (λ (p : TypedCase × List TypedCase). InCase ps p.0 × InCases qs p.1) (InCases (ps ++ qs)) (both (case_of ls.found b) (f ls.before)) (λ p. sound (p.0 ∷ p.1))
    (both_have (InCase ps) (InCases qs) (case_of ls.found b) (f ls.before) (case_has ps ls.found b h) (k ls.before))
    (λ p g. holds_joined ps (hidden_of_all (case_view p.0).body) qs (hidden_of_cases (cases_view p.1)) g.0 g.1)

-- ---- by induction over statements

abbrev PS : Stmt → Type 0
PS x = Judges (hidden_places x) (judging x)

abbrev PB : Branch → Type 0
PB x = Turns (branch_places x) (conditional_of x).body

abbrev PC : Case → Type 0
PC x = Turns (case_places x) (labelled_of x).body

abbrev PG : GuardedBranch → Type 0
PG x = Turns (guarded_places x) (guarded_of x).body

abbrev SS : Type 0
SS = (x : Stmt) × PS x

abbrev SB : Type 0
SB = (x : Branch) × PB x

abbrev SC : Type 0
SC = (x : Case) × PC x

abbrev SG : Type 0
SG = (x : GuardedBranch) × PG x

abbrev stmts_of : List SS → List Stmt
stmts_of xs = map (λ (x : SS). x.0) xs

abbrev branches_of : List SB → List Branch
branches_of xs = map (λ (x : SB). x.0) xs

abbrev cases_of : List SC → List Case
cases_of xs = map (λ (x : SC). x.0) xs

abbrev guarded_all : List SG → List GuardedBranch
guarded_all xs = map (λ (x : SG). x.0) xs

all_turn : (xs : List SS) → Turns (in_all (map hidden_places (stmts_of xs))) (map judging (stmts_of xs))
all_turn [] u = refl
all_turn (x ∷ xs) u = turns_one (hidden_places x.0) (in_all (map hidden_places (stmts_of xs))) (judging x.0) (map judging (stmts_of xs)) x.1 (all_turn xs) u

conditionals_have : (xs : List SB) (u : Around) → Has (InBranches (in_all (map branch_places (branches_of xs)))) (conditionals u (map conditional_of (branches_of xs)))
conditionals_have [] u = refl
conditionals_have (x ∷ xs) u =
    let c = conditional_of x.0 in
    branches_have (branch_places x.0) (in_all (map branch_places (branches_of xs))) (conditional u c) (conditionals u (map conditional_of (branches_of xs)))
    (branch_has (branch_places x.0) (condition u c.test) (in_turn c.body u) (x.1 u)) (conditionals_have xs u)

guards_have : (xs : List SG) (u : Around) → Has (InBranches (in_all (map guarded_places (guarded_all xs)))) (with_branches u (map guarded_of (guarded_all xs)))
guards_have [] u = refl
guards_have (x ∷ xs) u =
    let g = guarded_of x.0 in
    let t = with_test u g.guard in
    branches_have (guarded_places x.0) (in_all (map guarded_places (guarded_all xs))) (with_branch u g) (with_branches u (map guarded_of (guarded_all xs)))
    (branch_has (guarded_places x.0) (made (λ p. p.0) t) (in_turn g.body (guarded_body u g.guard t.node)) (x.1 (guarded_body u g.guard t.node))) (guards_have xs u)

cases_have : (xs : List SC) (u : Around) (s : Option Selects) (before : List Label) → Has (InCases (in_all (map case_places (cases_of xs)))) (cases u s before (map labelled_of (cases_of xs)))
cases_have [] u s before = refl
cases_have (x ∷ xs) u s before =
    let c = labelled_of x.0 in
    behind_has (case_places x.0) (in_all (map case_places (cases_of xs))) (labels u s before c.labels) (in_turn c.body u) (λ after. cases u s after (map labelled_of (cases_of xs))) (x.1 u) (λ l. cases_have xs u s l)

-- each form of statement

if_has : (ps qs : List Pos) (bs : List Conditional) (o : Option (List Judging)) (u : Around) → Has (InBranches ps) (conditionals u bs) → Has (Else qs) (in_turn_if o u) → Has (Keeps (ps ++ qs)) (if_statement bs o u)
if_has ps qs bs o u h k =
    then_has (λ (p : List TypedBranch × Option (List TypedStmt)). InBranches ps p.0 × Else qs p.1) (Keeps (ps ++ qs)) (both (conditionals u bs) (in_turn_if o u)) (λ p. one (stmt.If p.0 (empty_if_none p.1))) (both_have (InBranches ps) (Else qs) (conditionals u bs) (in_turn_if o u) h k)
    (λ p g. one_keeps (ps ++ qs) (stmt.If p.0 (empty_if_none p.1)) (syntax.If (branches_view p.0) (stmts_view (empty_if_none p.1))) (view_if p.0 (empty_if_none p.1)) (holds_joined ps (hidden_of_branches (branches_view p.0)) qs (hidden_of_all (stmts_view (empty_if_none p.1))) g.0 (else_all qs p.1 g.1)))

with_keeps : (ps qs : List Pos) (bs : List TypedBranch) (o : Option (List TypedStmt)) (at : Pos) → InBranches ps bs → Else qs o → Keeps (ps ++ qs) (stmt.With bs o at ∷ [])
with_keeps ps qs bs None at h k = one_keeps (ps ++ qs) (stmt.With bs None at) (syntax.With (branches_view bs) syntax.NoElse at) (view_with_none bs at) (holds_joined ps (hidden_of_branches (branches_view bs)) qs [] h k)
with_keeps ps qs bs (Some xs) at h k = one_keeps (ps ++ qs) (stmt.With bs (Some xs) at) (syntax.With (branches_view bs) (syntax.Else (stmts_view xs)) at) (view_with_some bs xs at) (holds_joined ps (hidden_of_branches (branches_view bs)) qs (hidden_of_all (stmts_view xs)) h k)

with_has : (ps qs : List Pos) (at : Pos) (bs : List GuardedBody) (o : Option (List Judging)) (u : Around) → Has (InBranches ps) (with_branches u bs) → Has (Else qs) (in_turn_if o u) → Has (Keeps (ps ++ qs)) (with_statement at bs o u)
with_has ps qs at bs o u h k =
    then_has (λ (p : List TypedBranch × Option (List TypedStmt)). InBranches ps p.0 × Else qs p.1) (Keeps (ps ++ qs)) (both (with_branches u bs) (in_turn_if o u)) (λ p. one (stmt.With p.0 p.1 at)) (both_have (InBranches ps) (Else qs) (with_branches u bs) (in_turn_if o u) h k)
    (λ p g. with_keeps ps qs p.0 p.1 at g.0 g.1)

choice_keeps : (ps qs : List Pos) (x : TypedExpr) (cs : List TypedCase) (o : Option (List TypedStmt)) (at : Pos) → InCases ps cs → Else qs o → Keeps (at ∷ (ps ++ qs)) (stmt.Case x cs o at ∷ [])
choice_keeps ps qs x cs None at h k = one_keeps (at ∷ (ps ++ qs)) (stmt.Case x cs None at) (syntax.Case (expr_view x) (cases_view cs) syntax.NoElse at) (view_case_none x cs at) (holds_front at (ps ++ qs) (hidden_of_cases (cases_view cs) ++ []) (holds_joined ps (hidden_of_cases (cases_view cs)) qs [] h k))
choice_keeps ps qs x cs (Some xs) at h k = one_keeps (at ∷ (ps ++ qs)) (stmt.Case x cs (Some xs) at) (syntax.Case (expr_view x) (cases_view cs) (syntax.Else (stmts_view xs)) at) (view_case_some x cs xs at) (holds_front at (ps ++ qs) (hidden_of_cases (cases_view cs) ++ hidden_of_all (stmts_view xs)) (holds_joined ps (hidden_of_cases (cases_view cs)) qs (hidden_of_all (stmts_view xs)) h k))

choice_has : (ps qs : List Pos) (at : Pos) (x : Phrase) (cs : List Labelled) (o : Option (List Judging)) (u : Around) → ((s : Option Selects) → Has (InCases ps) (cases u s [] cs)) → Has (Else qs) (in_turn_if o u) → Has (Keeps (at ∷ (ps ++ qs))) (case u at x cs o)
choice_has ps qs at x cs o u h k =
    let v = case_judged u x in
    let c = cases u (selects_if (map_of u) v.node) [] cs in
    let e = in_turn_if o u in
    then_has (λ (p : Valued × (List TypedCase × Option (List TypedStmt))). Unit {0} × (InCases ps p.1.0 × Else qs p.1.1)) (Keeps (at ∷ (ps ++ qs))) (both v (both c e)) (λ p. one (stmt.Case (tree p.0) p.1.0 p.1.1 at))
    (second_has (λ (p : List TypedCase × Option (List TypedStmt)). InCases ps p.0 × Else qs p.1) v (both c e) (both_have (InCases ps) (Else qs) c e (h (selects_if (map_of u) v.node)) k))
    (λ p g. choice_keeps ps qs (tree p.0) p.1.0 p.1.1 at g.1.0 g.1.1)

while_has : (ps : List Pos) (at : Pos) (x : Phrase) (fs : List Judging) (u : Around) → Has (Keeps ps) (in_turn fs u) → Has (Keeps ps) (while_statement at x fs u)
while_has ps at x fs u h =
    then_has (λ (p : TypedExpr × List TypedStmt). Unit {0} × Keeps ps p.1) (Keeps ps) (both (condition u x) (in_turn fs u)) (λ p. one (stmt.While p.0 p.1 at)) (second_has (Keeps ps) (condition u x) (in_turn fs u) h)
    (λ p g. one_keeps ps (stmt.While p.0 p.1 at) (syntax.While (expr_view p.0) (stmts_view p.1) at) (view_while p.0 p.1 at) g.1)

repeat_has : (ps : List Pos) (at : Pos) (fs : List Judging) (x : Phrase) (u : Around) → Has (Keeps ps) (in_turn fs u) → Has (Keeps ps) (repeat_statement at fs x u)
repeat_has ps at fs x u h =
    then_has (λ (p : List TypedStmt × TypedExpr). Keeps ps p.0 × Unit {0}) (Keeps ps) (both (in_turn fs u) (condition u x)) (λ p. one (stmt.Repeat p.0 p.1 at)) (first_has (Keeps ps) (in_turn fs u) (condition u x) h)
    (λ p g. one_keeps ps (stmt.Repeat p.0 p.1 at) (syntax.Repeat (stmts_view p.0) (expr_view p.1) at) (view_repeat p.0 p.1 at) g.0)

loop_has : (ps : List Pos) (at : Pos) (fs : List Judging) (u : Around) → Has (Keeps ps) (in_turn fs (in_loop u)) → Has (Keeps ps) (loop_statement at fs u)
loop_has ps at fs u h = then_has (Keeps ps) (Keeps ps) (in_turn fs (in_loop u)) (λ b. one (stmt.Loop b at)) h (λ b g. one_keeps ps (stmt.Loop b at) (syntax.Loop (stmts_view b) at) (view_loop b at) g)

for_has : (ps : List Pos) (types : Map) (at : Pos) (v : Option Place) (r : Judged (TypedExpr × TypedExpr)) (step : Judged ℤ) (body : Judged (List TypedStmt)) → Has (Keeps ps) body → Has (Keeps (at ∷ ps)) (for_parts types at v (both r (both step body)))
for_has ps types at None r step body h = tt
for_has ps types at (Some p) r step body h =
    then_has (λ (q : (TypedExpr × TypedExpr) × (ℤ × List TypedStmt)). Unit {0} × (Unit {0} × Keeps ps q.1.1)) (Keeps (at ∷ ps)) (both r (both step body)) (λ q. one (for_made types at p q.0 q.1.0 q.1.1))
    (second_has (λ (q : ℤ × List TypedStmt). Unit {0} × Keeps ps q.1) r (both step body) (second_has (Keeps ps) step body h))
    (λ q g. one_keeps (at ∷ ps) (for_made types at p q.0 q.1.0 q.1.1) (syntax.For p.root (rules.width_or_long (Rattle.ob_rules.specs.Shapes.width_of (Rattle.ob_rules.specs.Shapes.basic_of types p.of))) (expr_view q.0.0) (expr_view q.0.1) q.1.0 (stmts_view q.1.1) at) (view_for p.root _ q.0.0 q.0.1 q.1.0 q.1.1 at) (holds_front at ps (hidden_of_all (stmts_view q.1.1)) g.1.1))

by_layers : (x : Stmt-F Stmt Branch Case GuardedBranch) → Judges (place_layer (map-Stmt Stmt Branch Case GuardedBranch (List Pos) (List Pos) (List Pos) (List Pos) hidden_places branch_places case_places guarded_places x)) (stmt_rule (map-Stmt Stmt Branch Case GuardedBranch Judging Conditional Labelled GuardedBody judging conditional_of labelled_of guarded_of x)) → PS (roll-Stmt x)
by_layers x h =
    subst (λ f. Judges (hidden_places (roll-Stmt x)) f) (sym (fold-roll-Stmt Judging Conditional Labelled GuardedBody stmt_rule branch_rule case_rule guarded_rule x))
    (subst (λ ps. Judges ps (stmt_rule (map-Stmt Stmt Branch Case GuardedBranch Judging Conditional Labelled GuardedBody judging conditional_of labelled_of guarded_of x))) (sym (fold-roll-Stmt (List Pos) (List Pos) (List Pos) (List Pos) place_layer branch_places_layer case_places_layer guarded_places_layer x)) h)

stmt_cases : (y : Stmt-F SS SB SC SG) → PS (roll-Stmt (map-Stmt SS SB SC SG Stmt Branch Case GuardedBranch (λ x. x.0) (λ x. x.0) (λ x. x.0) (λ x. x.0) y))
stmt_cases Stmt-F.Empty = by_layers Stmt-F.Empty (λ u. refl)
stmt_cases (Stmt-F.Call d) = by_layers (Stmt-F.Call d) (λ u. call_statement_has (named_of d) u)
stmt_cases (Stmt-F.Assign d at x) = by_layers (Stmt-F.Assign d at x) (λ u. assignment_has u (named_of d) at (phrase_of x))
stmt_cases (Stmt-F.If at bs None) = by_layers (Stmt-F.If at (branches_of bs) None) (λ u. if_has (in_all (map branch_places (branches_of bs))) [] (map conditional_of (branches_of bs)) None u (conditionals_have bs u) (refl))
stmt_cases (Stmt-F.If at bs (Some o)) = by_layers (Stmt-F.If at (branches_of bs) (Some (stmts_of o))) (λ u. if_has (in_all (map branch_places (branches_of bs))) (in_all (map hidden_places (stmts_of o))) (map conditional_of (branches_of bs)) (Some (map judging (stmts_of o))) u (conditionals_have bs u) (if_turns (in_all (map hidden_places (stmts_of o))) (Some (map judging (stmts_of o))) (all_turn o) u))
stmt_cases (Stmt-F.Case at x cs None) = by_layers (Stmt-F.Case at x (cases_of cs) None) (λ u. choice_has (in_all (map case_places (cases_of cs))) [] at (phrase_of x) (map labelled_of (cases_of cs)) None u (λ s. cases_have cs u s []) (refl))
stmt_cases (Stmt-F.Case at x cs (Some o)) = by_layers (Stmt-F.Case at x (cases_of cs) (Some (stmts_of o))) (λ u. choice_has (in_all (map case_places (cases_of cs))) (in_all (map hidden_places (stmts_of o))) at (phrase_of x) (map labelled_of (cases_of cs)) (Some (map judging (stmts_of o))) u (λ s. cases_have cs u s []) (if_turns (in_all (map hidden_places (stmts_of o))) (Some (map judging (stmts_of o))) (all_turn o) u))
stmt_cases (Stmt-F.While at x body) = by_layers (Stmt-F.While at x (stmts_of body)) (λ u. while_has (in_all (map hidden_places (stmts_of body))) at (phrase_of x) (map judging (stmts_of body)) u (all_turn body u))
stmt_cases (Stmt-F.Repeat at body x) = by_layers (Stmt-F.Repeat at (stmts_of body) x) (λ u. repeat_has (in_all (map hidden_places (stmts_of body))) at (map judging (stmts_of body)) (phrase_of x) u (all_turn body u))
stmt_cases (Stmt-F.For at x a b step body) = by_layers (Stmt-F.For at x a b step (stmts_of body)) (λ u.
    let v = (named u x ▷ for_variable u at x).node in
    for_has (in_all (map hidden_places (stmts_of body))) (map_of u) at v (both (bound_if (map_of u) at v ((phrase_of a).value u)) (bound_if (map_of u) at v ((phrase_of b).value u))) (for_step u at (phrase_if step)) (in_turn (map judging (stmts_of body)) u) (all_turn body u))
stmt_cases (Stmt-F.Loop at body) = by_layers (Stmt-F.Loop at (stmts_of body)) (λ u. loop_has (in_all (map hidden_places (stmts_of body))) at (map judging (stmts_of body)) u (all_turn body (in_loop u)))
stmt_cases (Stmt-F.Exit at) = by_layers (Stmt-F.Exit at) (λ u. exit_has u at)
stmt_cases (Stmt-F.Return at x) = by_layers (Stmt-F.Return at x) (λ u. return_has u at (phrase_if x))
stmt_cases (Stmt-F.With at bs None) = by_layers (Stmt-F.With at (guarded_all bs) None) (λ u. with_has (in_all (map guarded_places (guarded_all bs))) [] at (map guarded_of (guarded_all bs)) None u (guards_have bs u) (refl))
stmt_cases (Stmt-F.With at bs (Some o)) = by_layers (Stmt-F.With at (guarded_all bs) (Some (stmts_of o))) (λ u. with_has (in_all (map guarded_places (guarded_all bs))) (in_all (map hidden_places (stmts_of o))) at (map guarded_of (guarded_all bs)) (Some (map judging (stmts_of o))) u (guards_have bs u) (if_turns (in_all (map hidden_places (stmts_of o))) (Some (map judging (stmts_of o))) (all_turn o) u))

branch_cases : (y : Branch-F SS SB SC SG) → PB (roll-Branch (map-Branch SS SB SC SG Stmt Branch Case GuardedBranch (λ x. x.0) (λ x. x.0) (λ x. x.0) (λ x. x.0) y))
branch_cases y =
    let x = map-Branch SS SB SC SG Stmt Branch Case GuardedBranch (λ x. x.0) (λ x. x.0) (λ x. x.0) (λ x. x.0) y in
    subst (λ ps. Turns ps (conditional_of (roll-Branch x)).body) (sym (fold-roll-Branch (List Pos) (List Pos) (List Pos) (List Pos) place_layer branch_places_layer case_places_layer guarded_places_layer x))
    (subst (λ (c : Conditional). Turns (in_all (map hidden_places (stmts_of y.body))) c.body) (sym (fold-roll-Branch Judging Conditional Labelled GuardedBody stmt_rule branch_rule case_rule guarded_rule x)) (all_turn y.body))

case_cases : (y : Case-F SS SB SC SG) → PC (roll-Case (map-Case SS SB SC SG Stmt Branch Case GuardedBranch (λ x. x.0) (λ x. x.0) (λ x. x.0) (λ x. x.0) y))
case_cases y =
    let x = map-Case SS SB SC SG Stmt Branch Case GuardedBranch (λ x. x.0) (λ x. x.0) (λ x. x.0) (λ x. x.0) y in
    subst (λ ps. Turns ps (labelled_of (roll-Case x)).body) (sym (fold-roll-Case (List Pos) (List Pos) (List Pos) (List Pos) place_layer branch_places_layer case_places_layer guarded_places_layer x))
    (subst (λ (c : Labelled). Turns (in_all (map hidden_places (stmts_of y.body))) c.body) (sym (fold-roll-Case Judging Conditional Labelled GuardedBody stmt_rule branch_rule case_rule guarded_rule x)) (all_turn y.body))

guarded_cases : (y : GuardedBranch-F SS SB SC SG) → PG (roll-GuardedBranch (map-GuardedBranch SS SB SC SG Stmt Branch Case GuardedBranch (λ x. x.0) (λ x. x.0) (λ x. x.0) (λ x. x.0) y))
guarded_cases y =
    let x = map-GuardedBranch SS SB SC SG Stmt Branch Case GuardedBranch (λ x. x.0) (λ x. x.0) (λ x. x.0) (λ x. x.0) y in
    subst (λ ps. Turns ps (guarded_of (roll-GuardedBranch x)).body) (sym (fold-roll-GuardedBranch (List Pos) (List Pos) (List Pos) (List Pos) place_layer branch_places_layer case_places_layer guarded_places_layer x))
    (subst (λ (g : GuardedBody). Turns (in_all (map hidden_places (stmts_of y.body))) g.body) (sym (fold-roll-GuardedBranch Judging Conditional Labelled GuardedBody stmt_rule branch_rule case_rule guarded_rule x)) (all_turn y.body))

-- each statement of the grammar
stmt_keeps : (x : Stmt) → PS x
stmt_keeps = ind-Stmt PS PB PC PG (λ x y is. subst (λ z. PS (roll-Stmt z)) is (stmt_cases y)) (λ x y is. subst (λ z. PB (roll-Branch z)) is (branch_cases y)) (λ x y is. subst (λ z. PC (roll-Case z)) is (case_cases y)) (λ x y is. subst (λ z. PG (roll-GuardedBranch z)) is (guarded_cases y))

pub stmts_keep : (xs : List Stmt) → Turns (in_all (map hidden_places xs)) (map judging xs)
stmts_keep [] u = refl
stmts_keep (x ∷ xs) u = turns_one (hidden_places x) (in_all (map hidden_places xs)) (judging x) (map judging xs) (stmt_keeps x) (stmts_keep xs) u

pub places_are_those : PlacesAreThose
places_are_those xs u ys e = subst (IfThere (Keeps (in_all (map hidden_places xs)))) e (stmts_keep xs u)
