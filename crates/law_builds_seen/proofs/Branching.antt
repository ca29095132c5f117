-- CASE, FOR and WITH name members that are there where their parts do.
use Rattle.std.proofs.Common.{◌≡◌, Bool, true, false, List, [], ◌∷◌, ◌++◌, Option, Some, None, refl, sym, subst}
use Rattle.std.specs.Prelude.{ℤ, bytes_eq}
use Rattle.std.specs.List.{AllByRecursion}
use Rattle.ob_tree.specs.declared.pos.Pos.{Pos}
use Rattle.ob_tree.specs.declared.names.QName.{QName}
use Rattle.ob_tree.specs.declared.ident.Ident.{Ident}
use Rattle.ob_tree.specs.declared.stmt.Guard.{Guard}
use Rattle.ob_types.specs.declared.types.TypeRef.{TypeRef}
use Rattle.ob_types.specs.declared.typed.Label.{Label}
use Rattle.ob_types.specs.declared.typed.Variable.{Variable}
use Rattle.ob_types.specs.declared.typed.Guarded.{Guarded}
use Rattle.ob_types.specs.declared.typed.Guarded.TheVariants as guarded
use Rattle.ob_types.specs.declared.typed.TypedExpr.{TypedExpr}
use Rattle.ob_types.specs.declared.typed.TypedExpr.TheVariants as e
use Rattle.ob_types.specs.declared.typed.TypedStmt.{TypedStmt}
use Rattle.ob_types.specs.declared.typed.TypedStmt.TheVariants as stmt
use Rattle.ob_types.specs.declared.typed.TypedStmt.TheFolds.{fold-roll-TypedCase}
use Rattle.ob_types.specs.declared.typed.TypedBranch.{TypedBranch}
use Rattle.ob_types.specs.declared.typed.TypedCase.{TypedCase}
use Rattle.ob_types.specs.TypedSyntax.{Stmt, Case, With, NoElse, Else, ValueOf, IsPointer, IsRecord}
use Rattle.ob_types.specs.TypedView.{OneBranch, LabelledBody, stmt_layer, branch_layer, case_layer, designator_view, expr_view, case_view, stmts_view, branches_view, cases_view}
use Rattle.ob_types.proofs.TypedViews.{view_value_of, view_is_pointer, view_is_record, view_case_none, view_case_some, view_for, view_with_none, view_with_some}
use Rattle.ob_rules.specs.declared.entity.Entity.{Entity}
use Rattle.ob_rules.specs.declared.entity.Known.{Known}
use Rattle.ob_rules.specs.declared.entity.Entity.TheVariants as entity
use Rattle.ob_rules.specs.declared.values.Place.{Place}
use Rattle.ob_rules.specs.declared.values.Valued.{Valued}
use Rattle.ob_rules.specs.declared.meant.Meant.{Meant}
use Rattle.ob_rules.specs.declared.meant.Meant.TheVariants as means
use Rattle.ob_rules.specs.declared.meant.Selects.{Selects}
use Rattle.ob_rules.specs.declared.meant.Where.TheVariants.{InExpression}
use Rattle.ob_rules.specs.declared.broken.Rule.TheVariants as rule
use Rattle.ob_rules.specs.Judged.{Judged, sound, both, made, ◌▷◌}
use Rattle.ob_rules.specs.Shapes.{Map, same_name}
use Rattle.ob_rules.specs.Names.{Around, map_of, type_desc, out_string, named, find_name, type_named}
use Rattle.ob_rules.specs.Values.{tree, fits}
use Rattle.ob_rules.specs.Phrases.{Phrase, Dot}
use Rattle.ob_rules.specs.Designators.{variable_named, guard_of}
use Rattle.ob_rules.specs.Types.{first_of}
use Rattle.ob_rules.specs.Statements as rules
use Rattle.ob_rules.specs.Statements.{Judging, in_turn, in_turn_if, Labelled, labels, case_of, cases, selects_if, case_value, case_judged, for_variable, integer_place, for_bound, bound_if, for_with, for_step, with_module, with_named, with_qualified_by, with_qualified, with_meant, with_place, with_guard, guard_test, variable_meant, guarded_around, type_if, guarded_body, GuardedBody, tested, with_variable, with_test, with_branch, with_branches, with_statement}
use Rattle.law_builds_seen.specs.Seen.{StmtsSeen, CasesSeen}
use Rattle.law_builds_seen.specs.Laws.{KeepsMembers}
use Rattle.law_builds_seen.proofs.Setting.{Stands, E, S, PlaceOk, ValuedOk, MeantOk, Keeps, any_keeps, then_keeps, both_keep, made_keeps, wants_keeps, named_e, named_s, tree_ok}
use Rattle.law_builds_seen.proofs.Calls.{PhraseOk}
use Rattle.law_builds_seen.proofs.Designators.{variable_keeps, designates_keeps}
use Rattle.law_builds_seen.proofs.Statements.{AreOk, JudgingOk, AreJudging, stmts_seen, turn_keeps, turn_if_keeps, BranchOk, branch_keeps, branches_seen}
use Rattle.law_lists.proofs.Lists.{Anything, IfThere}

-- ---- CASE

abbrev LabelledSeen : Map → LabelledBody → Type 0
LabelledSeen k c = StmtsSeen k c.body

abbrev CaseOk : Map → TypedCase → Type 0
CaseOk k c = LabelledSeen k (case_view c)

case_of_keeps : (k : Map) (ls : Judged (List Label)) (b : Judged (List TypedStmt)) → Keeps (AreOk k) b → Keeps (CaseOk k) (case_of ls b)
case_of_keeps k ls b g =
    made_keeps (λ (p : List Label × List TypedStmt). Unit {0} × AreOk k p.1) (CaseOk k) _ (both ls b) (both_keep Anything (AreOk k) ls b (any_keeps ls) g)
    (λ p q. subst (LabelledSeen k) (sym (fold-roll-TypedCase Stmt OneBranch LabelledBody stmt_layer branch_layer case_layer (record { labels = p.0; body = p.1 }))) (stmts_seen k p.1 q.1))

cases_seen : (k : Map) (cs : List TypedCase) → AllByRecursion (CaseOk k) cs → CasesSeen k (cases_view cs)
cases_seen k [] h = tt
cases_seen k (c ∷ cs) h = (h.0, cases_seen k cs h.1)

abbrev pub LabelledOk : Map → Labelled → Type 0
LabelledOk k c = AreJudging k c.body

cases_keep : (k : Map) (u : Around) → Stands k u → (o : Option Selects) (before : List Label) (cs : List Labelled) → AllByRecursion (LabelledOk k) cs → Keeps (AllByRecursion (CaseOk k)) (cases u o before cs)
cases_keep k u st o before [] g = tt
cases_keep k u st o before (c ∷ cs) g =
    let C = CaseOk k in
    let ls = labels u o before c.labels in
    then_keeps (λ (p : TypedCase × List TypedCase). C p.0 × AllByRecursion C p.1) (AllByRecursion C) (both (case_of ls.found (in_turn c.body u)) (cases u o ls.before cs)) (λ p. sound (p.0 ∷ p.1))
    (both_keep C (AllByRecursion C) (case_of ls.found (in_turn c.body u)) (cases u o ls.before cs) (case_of_keeps k ls.found (in_turn c.body u) (turn_keeps k u st c.body g.0)) (cases_keep k u st o ls.before cs g.1)) (λ p h. h)

case_s : (k : Map) (x : TypedExpr) (cs : List TypedCase) (o : Option (List TypedStmt)) (at : Pos) → E k x → AllByRecursion (CaseOk k) cs → IfThere (AreOk k) o → S k (stmt.Case x cs o at)
case_s k x cs None at h g i = named_s k _ (Case (expr_view x) (cases_view cs) NoElse at) (view_case_none x cs at) (h, cases_seen k cs g, tt)
case_s k x cs (Some body) at h g i = named_s k _ (Case (expr_view x) (cases_view cs) (Else (stmts_view body)) at) (view_case_some x cs body at) (h, cases_seen k cs g, stmts_seen k body i)

pub case_keeps : (k : Map) (at : Pos) (x : Phrase) (cs : List Labelled) (o : Option (List Judging)) → PhraseOk k x → AllByRecursion (LabelledOk k) cs → IfThere (AreJudging k) o → (u : Around) → Stands k u → Keeps (AreOk k) (rules.case u at x cs o)
case_keeps k at x cs o g h i u s =
    let j = case_judged u x in
    let c = cases u (selects_if (map_of u) j.node) [] cs in
    then_keeps (λ (p : Valued × (List TypedCase × Option (List TypedStmt))). ValuedOk k p.0 × (AllByRecursion (CaseOk k) p.1.0 × IfThere (AreOk k) p.1.1)) (AreOk k) (both j (both c (in_turn_if o u))) _
    (both_keep (ValuedOk k) (λ (p : List TypedCase × Option (List TypedStmt)). AllByRecursion (CaseOk k) p.0 × IfThere (AreOk k) p.1) j (both c (in_turn_if o u))
    (then_keeps (ValuedOk k) (ValuedOk k) (x.value u) (case_value (map_of u) x.start) (g.value u s) (λ v q. wants_keeps (ValuedOk k) _ rule.UnfitCase x.start v q))
    (both_keep (AllByRecursion (CaseOk k)) (IfThere (AreOk k)) c (in_turn_if o u) (cases_keep k u s (selects_if (map_of u) j.node) [] cs h) (turn_if_keeps k u s o i)))
    (λ p q. (case_s k (tree p.0) p.1.0 p.1.1 at (tree_ok k p.0 q.0) q.1.0 q.1.1, tt))

-- ---- FOR

for_variable_keeps : (k : Map) (u : Around) (at : Pos) (x : Ident) (e : Entity) → Keeps (PlaceOk k) (for_variable u at x e)
for_variable_keeps k u at x (entity.Variable v t) = then_keeps (PlaceOk k) (PlaceOk k) (variable_named u x.pos v t false) (λ p. integer_place (map_of u) at p) (variable_keeps k u x.pos v t false) (λ p q. wants_keeps (PlaceOk k) _ rule.UnfitFor at p q)
for_variable_keeps k u at x (entity.TypeName t) = tt
for_variable_keeps k u at x (entity.Module m) = tt
for_variable_keeps k u at x e = tt

bound_keeps : (k map : Map) (at : Pos) (p : Place) (j : Judged Valued) → Keeps (ValuedOk k) j → Keeps (E k) (bound_if map at (Some p) j)
bound_keeps k map at p j h = then_keeps (ValuedOk k) (E k) j (for_bound map at p) h (λ x q. wants_keeps (E k) (fits map p.of x) rule.UnfitFor at (tree x) (tree_ok k x q))

for_with_keeps : (k map : Map) (at : Pos) (o : Option Place) (a b : Judged Valued) (step : Judged ℤ) (body : Judged (List TypedStmt)) → Keeps (ValuedOk k) a → Keeps (ValuedOk k) b → Keeps (AreOk k) body → Keeps (AreOk k) (for_with map at o a b step body)
for_with_keeps k map at None a b step body x y z = tt
for_with_keeps k map at (Some p) a b step body x y z =
    let bounds = both (bound_if map at (Some p) a) (bound_if map at (Some p) b) in
    then_keeps (λ (q : (TypedExpr × TypedExpr) × (ℤ × List TypedStmt)). (E k q.0.0 × E k q.0.1) × (Unit {0} × AreOk k q.1.1)) (AreOk k) (both bounds (both step body)) _
    (both_keep (λ (q : TypedExpr × TypedExpr). E k q.0 × E k q.1) (λ (q : ℤ × List TypedStmt). Unit {0} × AreOk k q.1) bounds (both step body) (both_keep (E k) (E k) (bound_if map at (Some p) a) (bound_if map at (Some p) b) (bound_keeps k map at p a x) (bound_keeps k map at p b y)) (both_keep Anything (AreOk k) step body (any_keeps step) z))
    (λ q r. (named_s k _ _ (view_for p.root _ q.0.0 q.0.1 q.1.0 q.1.1 at) (r.0.0, r.0.1, stmts_seen k q.1.1 r.1.1), tt))

pub for_keeps : (k : Map) (at : Pos) (x : Ident) (a b : Phrase) (step : Option Phrase) (body : List Judging) → PhraseOk k a → PhraseOk k b → AreJudging k body → (u : Around) → Stands k u → Keeps (AreOk k) (rules.for u at x a b step body)
for_keeps k at x a b step body g h i u s =
    let j = named u x ▷ for_variable u at x in
    for_with_keeps k (map_of u) at j.node (a.value u) (b.value u) (for_step u at step) (in_turn body u) (g.value u s) (h.value u s) (turn_keeps k u s body i)

-- ---- WITH

with_module_keeps : (k : Map) (u : Around) → Stands k u → (m x : Ident) (e : Entity) → Keeps (MeantOk k) (with_module u m x e)
with_module_keeps k u s m x (entity.Module n) = designates_keeps k u s InExpression m (Dot x.pos x ∷ []) (tt, tt)
with_module_keeps k u s m x e = tt

with_named_keeps : (k : Map) (u : Around) → Stands k u → (m x : Ident) → Keeps (MeantOk k) (with_named u m x)
with_named_keeps k u s m x = then_keeps Anything (MeantOk k) (named u m) (with_module u m x) (any_keeps (named u m)) (λ e h. with_module_keeps k u s m x e)

qualified_by_keeps : (k : Map) (u : Around) → Stands k u → (m x : Ident) (e : Entity) → Keeps (MeantOk k) (with_qualified_by u m x e)
qualified_by_keeps k u s m x (entity.Variable v t) = tt
qualified_by_keeps k u s m x e = with_named_keeps k u s m x

qualified_keeps : (k : Map) (u : Around) → Stands k u → (m x : Ident) (o : Option Known) → Keeps (MeantOk k) (with_qualified u m x o)
qualified_keeps k u s m x None = tt
qualified_keeps k u s m x (Some y) = qualified_by_keeps k u s m x y.what

with_meant_keeps : (k : Map) (u : Around) → Stands k u → (o : Option Ident) (x : Ident) → Keeps (MeantOk k) (with_meant u o x)
with_meant_keeps k u s None x = designates_keeps k u s InExpression x [] tt
with_meant_keeps k u s (Some m) x = qualified_keeps k u s m x (find_name u.known m.name)

with_place_keeps : (k map : Map) (at : Pos) (m : Meant) → MeantOk k m → Keeps (PlaceOk k) (with_place map at m)
with_place_keeps k map at (means.Place p) h = wants_keeps (PlaceOk k) _ rule.UnfitWith at p h
with_place_keeps k map at m h = tt

guard_test_ok : (k : Map) (p : Place) (g : Guarded) (q : QName) → PlaceOk k p → E k (guard_test p g q)
guard_test_ok k p guarded.Pointer q h = named_e k _ (IsPointer (expr_view (e.Designator p.designator.inner)) q) (view_is_pointer (e.Designator p.designator.inner) q) (named_e k (e.Designator p.designator.inner) (ValueOf (designator_view p.designator.inner)) (view_value_of p.designator.inner) h)
guard_test_ok k p guarded.Record q h = named_e k _ (IsRecord (designator_view p.designator.inner) q) (view_is_record p.designator.inner q) h

with_guard_keeps : (k : Map) (at : Pos) (p : Place) (o : Option (Guarded × QName)) (t : TypeRef) → PlaceOk k p → Keeps (λ (q : Place × (Guarded × QName)). PlaceOk k q.0) (with_guard at p o t)
with_guard_keeps k at p None t h = tt
with_guard_keeps k at p (Some g) t h = h

test_keeps : (k : Map) (u : Around) → Stands k u → (g : Guard) → Keeps (λ (p : TypedExpr × TypeRef). E k p.0) (with_test u g)
test_keeps k u s g =
    then_keeps (λ (p : Place × TypeRef). PlaceOk k p.0 × Unit {0}) (λ (p : TypedExpr × TypeRef). E k p.0) (both (with_variable u g) (type_named u g.target)) (λ p. tested (map_of u) (first_of g.variable) p.0 p.1)
    (both_keep (PlaceOk k) Anything (with_variable u g) (type_named u g.target) (then_keeps (MeantOk k) (PlaceOk k) (with_meant u g.variable.qualifier g.variable.ident) (with_place (map_of u) (first_of g.variable)) (with_meant_keeps k u s g.variable.qualifier g.variable.ident) (λ m h. with_place_keeps k (map_of u) (first_of g.variable) m h)) (any_keeps (type_named u g.target)))
    (λ p h. then_keeps (λ (q : Place × (Guarded × QName)). PlaceOk k q.0) (λ (q : TypedExpr × TypeRef). E k q.0) (with_guard (first_of g.variable) p.0 (guard_of (map_of u) p.0 p.1) p.1) _ (with_guard_keeps k (first_of g.variable) p.0 (guard_of (map_of u) p.0 p.1) p.1 h.0) (λ q r. guard_test_ok k q.0 q.1.0 q.1.1 r))

-- and under more guards
guards_map : (u : Around) (gs : List (Variable × Option TypeRef)) → map_of (record u { guards = gs }) ≡ map_of u
guards_map u gs = λ i q. go (bytes_eq q.«module» u.unit) (same_name q out_string) q i
  where
    go : (b c : Bool) (q : QName) → type_desc b c (record u { guards = gs }) q ≡ type_desc b c u q
    go true c q = refl
    go false true q = refl
    go false false q = refl

guarded_stands : (k : Map) (u : Around) → Stands k u → (o : Option Variable) (t : Option TypeRef) → Stands k (guarded_around u o t)
guarded_stands k u s None t = s
guarded_stands k u s (Some v) t = subst (KeepsMembers k) (sym (guards_map u (u.guards ++ (v, t) ∷ []))) s

with_branch_keeps : (k : Map) (u : Around) → Stands k u → (b : GuardedBody) → AreJudging k b.body → Keeps (BranchOk k) (with_branch u b)
with_branch_keeps k u s b g =
    let t = with_test u b.guard in
    let o = variable_meant u b.guard.variable.qualifier b.guard.variable.ident in
    let v = guarded_body u b.guard t.node in
    branch_keeps k (made (λ p. p.0) t) (in_turn b.body v) (made_keeps (λ (p : TypedExpr × TypeRef). E k p.0) (E k) (λ p. p.0) t (test_keeps k u s b.guard) (λ p h. h))
    (turn_keeps k v (guarded_stands k u s o (type_if t.node)) b.body g)

with_branches_keep : (k : Map) (u : Around) → Stands k u → (bs : List GuardedBody) → AllByRecursion (λ (b : GuardedBody). AreJudging k b.body) bs → Keeps (AllByRecursion (BranchOk k)) (with_branches u bs)
with_branches_keep k u s [] g = tt
with_branches_keep k u s (b ∷ bs) g =
    let B = BranchOk k in
    then_keeps (λ (p : TypedBranch × List TypedBranch). B p.0 × AllByRecursion B p.1) (AllByRecursion B) (both (with_branch u b) (with_branches u bs)) (λ p. sound (p.0 ∷ p.1))
    (both_keep B (AllByRecursion B) (with_branch u b) (with_branches u bs) (with_branch_keeps k u s b g.0) (with_branches_keep k u s bs g.1)) (λ p h. h)

with_s : (k : Map) (bs : List TypedBranch) (o : Option (List TypedStmt)) (at : Pos) → AllByRecursion (BranchOk k) bs → IfThere (AreOk k) o → S k (stmt.With bs o at)
with_s k bs None at g i = named_s k _ (With (branches_view bs) NoElse at) (view_with_none bs at) (branches_seen k bs g, tt)
with_s k bs (Some body) at g i = named_s k _ (With (branches_view bs) (Else (stmts_view body)) at) (view_with_some bs body at) (branches_seen k bs g, stmts_seen k body i)

pub with_keeps : (k : Map) (at : Pos) (bs : List GuardedBody) (o : Option (List Judging)) → AllByRecursion (λ (b : GuardedBody). AreJudging k b.body) bs → IfThere (AreJudging k) o → JudgingOk k (with_statement at bs o)
with_keeps k at bs o g h u s =
    then_keeps (λ (p : List TypedBranch × Option (List TypedStmt)). AllByRecursion (BranchOk k) p.0 × IfThere (AreOk k) p.1) (AreOk k) (both (with_branches u bs) (in_turn_if o u)) _
    (both_keep (AllByRecursion (BranchOk k)) (IfThere (AreOk k)) (with_branches u bs) (in_turn_if o u) (with_branches_keep k u s bs g) (turn_if_keeps k u s o h))
    (λ p q. (with_s k p.0 p.1 at q.0 q.1, tt))
