-- FOR and WITH name variables that are there, and FOR has steps other than 0.
use Rattle.std.proofs.Common.{◌≡◌, zero, suc, false, List, [], ◌∷◌, Option, Some, None}
use Rattle.std.specs.Prelude.{ℤ, pos, negsuc}
use Rattle.std.specs.Ordering.{int_eq}
use Rattle.std.specs.List.{AllByRecursion}
use Rattle.ob_tree.specs.declared.pos.Pos.{Pos}
use Rattle.ob_tree.specs.declared.names.QName.{QName}
use Rattle.ob_tree.specs.declared.ident.Ident.{Ident}
use Rattle.ob_tree.specs.declared.stmt.Guard.{Guard}
use Rattle.ob_types.specs.declared.types.TypeRef.{TypeRef}
use Rattle.ob_types.specs.declared.value.Value.{Value}
use Rattle.ob_types.specs.declared.value.Value.TheVariants as literal
use Rattle.ob_types.specs.declared.typed.Variable.{Variable}
use Rattle.ob_types.specs.declared.typed.Guarded.{Guarded}
use Rattle.ob_types.specs.declared.typed.Guarded.TheVariants as guarded
use Rattle.ob_types.specs.declared.typed.TypedExpr.{TypedExpr}
use Rattle.ob_types.specs.declared.typed.TypedExpr.TheVariants as e
use Rattle.ob_types.specs.declared.typed.TypedStmt.{TypedStmt}
use Rattle.ob_types.specs.declared.typed.TypedStmt.TheVariants as stmt
use Rattle.ob_types.specs.declared.typed.TypedBranch.{TypedBranch}
use Rattle.ob_types.specs.TypedSyntax.{With, NoElse, Else, ValueOf, IsPointer, IsRecord}
use Rattle.ob_types.specs.TypedView.{designator_view, expr_view, stmts_view, branches_view}
use Rattle.ob_types.proofs.TypedViews.{view_value_of, view_is_pointer, view_is_record, view_for, view_with_none, view_with_some}
use Rattle.ob_scheme.specs.Context.{Context}
use Rattle.ob_rules.specs.declared.entity.Entity.{Entity}
use Rattle.ob_rules.specs.declared.entity.Known.{Known}
use Rattle.ob_rules.specs.declared.entity.Entity.TheVariants as entity
use Rattle.ob_rules.specs.declared.values.Place.{Place}
use Rattle.ob_rules.specs.declared.values.Valued.{Valued}
use Rattle.ob_rules.specs.declared.meant.Meant.{Meant}
use Rattle.ob_rules.specs.declared.meant.Meant.TheVariants as means
use Rattle.ob_rules.specs.declared.meant.Where.TheVariants.{InExpression}
use Rattle.ob_rules.specs.declared.broken.Rule.TheVariants as rule
use Rattle.ob_rules.specs.Judged.{Judged, sound, both, made, ◌▷◌}
use Rattle.ob_rules.specs.Shapes.{Map}
use Rattle.ob_rules.specs.Names.{Around, map_of, named, find_name, type_named}
use Rattle.ob_rules.specs.Values.{tree, fits}
use Rattle.ob_rules.specs.Phrases.{Phrase, Dot}
use Rattle.ob_rules.specs.Designators.{variable_named, guard_of}
use Rattle.ob_rules.specs.Expressions.{constant_value}
use Rattle.ob_rules.specs.Types.{first_of}
use Rattle.ob_rules.specs.Statements as rules
use Rattle.ob_rules.specs.Statements.{Judging, in_turn, in_turn_if, for_variable, integer_place, for_bound, bound_if, for_with, step_value, for_step, with_module, with_named, with_qualified_by, with_qualified, with_meant, with_place, with_guard, guard_test, variable_meant, guarded_around, type_if, guarded_body, GuardedBody, tested, with_variable, with_test, with_branch, with_branches, with_statement}
use Rattle.law_image_code.specs.Fits.{StepFits}
use Rattle.law_program_scope.proofs.Setting.{E, S, Stands, EntityOk, PlaceOk, ValuedOk, MeantOk, Keeps, any_keeps, then_keeps, both_keep, made_keeps, unless_so, wants_keeps, named_e, tree_ok}
use Rattle.law_program_scope.proofs.Calls.{PhraseOk}
use Rattle.law_program_scope.proofs.Functions.{named_s}
use Rattle.law_program_scope.proofs.Designators.{variable_keeps, named_keeps, designates_keeps}
use Rattle.law_program_scope.proofs.Statements.{AreOk, JudgingOk, AreJudging, BranchOk, stmts_named, turn_keeps, turn_if_keeps, branch_keeps, branches_named}
use Rattle.law_lists.proofs.Lists.{Anything, IfThere}

-- ---- FOR

for_variable_keeps : (k : Context) (u : Around) → Stands k u → (at : Pos) (x : Ident) (e : Entity) → EntityOk k e → Keeps (PlaceOk k) (for_variable u at x e)
for_variable_keeps k u s at x (entity.Variable v t) h = then_keeps (PlaceOk k) (PlaceOk k) (variable_named u x.pos v t false) (λ p. integer_place (map_of u) at p) (variable_keeps k u x.pos v t false h) (λ p q. wants_keeps (PlaceOk k) _ rule.UnfitFor at p q)
for_variable_keeps k u s at x (entity.TypeName t) h = tt
for_variable_keeps k u s at x (entity.Module m) h = tt
for_variable_keeps k u s at x e h = tt

bound_keeps : (k : Context) (map : Map) (at : Pos) (p : Place) (j : Judged Valued) → Keeps (ValuedOk k) j → Keeps (E k) (bound_if map at (Some p) j)
bound_keeps k map at p j h = then_keeps (ValuedOk k) (E k) j (for_bound map at p) h (λ x q. wants_keeps (E k) (fits map p.of x) rule.UnfitFor at (tree x) (tree_ok k x q))

-- a step that is 0 breaks a rule
step_fits : (z : ℤ) → int_eq z (pos 0) ≡ false → StepFits z
step_fits (pos zero) e = absurd cc
step_fits (pos (suc n)) e = tt
step_fits (negsuc n) e = tt

step_keeps : (at : Pos) (v : Value) → Keeps StepFits (step_value at v)
step_keeps at (literal.Int z) = unless_so StepFits (int_eq z (pos 0)) rule.UnfitFor at z (step_fits z)
step_keeps at (literal.Bool b) = tt
step_keeps at (literal.Char c) = tt
step_keeps at (literal.Set n) = tt
step_keeps at (literal.Str text) = tt
step_keeps at literal.Nil = tt

for_step_keeps : (u : Around) (at : Pos) (o : Option Phrase) → Keeps StepFits (for_step u at o)
for_step_keeps u at None = tt
for_step_keeps u at (Some x) = then_keeps Anything StepFits (constant_value u x) (step_value at) (any_keeps (constant_value u x)) (λ v h. step_keeps at v)

for_with_keeps : (k : Context) (map : Map) (at : Pos) (o : Option Place) (a b : Judged Valued) (step : Judged ℤ) (body : Judged (List TypedStmt)) → IfThere (PlaceOk k) o → Keeps (ValuedOk k) a → Keeps (ValuedOk k) b → Keeps StepFits step → Keeps (AreOk k) body → Keeps (AreOk k) (for_with map at o a b step body)
for_with_keeps k map at None a b step body h x y s z = tt
for_with_keeps k map at (Some p) a b step body h x y s z =
    let bounds = both (bound_if map at (Some p) a) (bound_if map at (Some p) b) in
    then_keeps (λ (q : (TypedExpr × TypedExpr) × (ℤ × List TypedStmt)). (E k q.0.0 × E k q.0.1) × (StepFits q.1.0 × AreOk k q.1.1)) (AreOk k) (both bounds (both step body)) _
    (both_keep (λ (q : TypedExpr × TypedExpr). E k q.0 × E k q.1) (λ (q : ℤ × List TypedStmt). StepFits q.0 × AreOk k q.1) bounds (both step body) (both_keep (E k) (E k) (bound_if map at (Some p) a) (bound_if map at (Some p) b) (bound_keeps k map at p a x) (bound_keeps k map at p b y)) (both_keep StepFits (AreOk k) step body s z))
    (λ q r. (named_s k _ _ (view_for p.root _ q.0.0 q.0.1 q.1.0 q.1.1 at) (h.1, (r.0.0, (r.0.1, (r.1.0, stmts_named k q.1.1 r.1.1)))), tt))

pub for_keeps : (k : Context) (u : Around) → Stands k u → (at : Pos) (x : Ident) (a b : Phrase) (step : Option Phrase) (body : List Judging) → PhraseOk k a → PhraseOk k b → AreJudging k body → Keeps (AreOk k) (rules.for u at x a b step body)
for_keeps k u s at x a b step body g h i =
    let j = named u x ▷ for_variable u at x in
    let p : IfThere (PlaceOk k) j.node = then_keeps (EntityOk k) (PlaceOk k) (named u x) (for_variable u at x) (named_keeps k u s x) (λ e q. for_variable_keeps k u s at x e q) in
    for_with_keeps k (map_of u) at j.node (a.value u) (b.value u) (for_step u at step) (in_turn body u) p (g.0 u s) (h.0 u s) (for_step_keeps u at step) (turn_keeps k u s body i)

-- ---- WITH

with_module_keeps : (k : Context) (u : Around) → Stands k u → (m x : Ident) (e : Entity) → Keeps (MeantOk k) (with_module u m x e)
with_module_keeps k u s m x (entity.Module n) = designates_keeps k u s InExpression m (Dot x.pos x ∷ []) (tt, tt)
with_module_keeps k u s m x e = tt

with_named_keeps : (k : Context) (u : Around) → Stands k u → (m x : Ident) → Keeps (MeantOk k) (with_named u m x)
with_named_keeps k u s m x = then_keeps Anything (MeantOk k) (named u m) (with_module u m x) (any_keeps (named u m)) (λ e h. with_module_keeps k u s m x e)

qualified_by_keeps : (k : Context) (u : Around) → Stands k u → (m x : Ident) (e : Entity) → Keeps (MeantOk k) (with_qualified_by u m x e)
qualified_by_keeps k u s m x (entity.Variable v t) = tt
qualified_by_keeps k u s m x e = with_named_keeps k u s m x

qualified_keeps : (k : Context) (u : Around) → Stands k u → (m x : Ident) (o : Option Known) → Keeps (MeantOk k) (with_qualified u m x o)
qualified_keeps k u s m x None = tt
qualified_keeps k u s m x (Some y) = qualified_by_keeps k u s m x y.what

with_meant_keeps : (k : Context) (u : Around) → Stands k u → (o : Option Ident) (x : Ident) → Keeps (MeantOk k) (with_meant u o x)
with_meant_keeps k u s None x = designates_keeps k u s InExpression x [] tt
with_meant_keeps k u s (Some m) x = qualified_keeps k u s m x (find_name u.known m.name)

with_place_keeps : (k : Context) (map : Map) (at : Pos) (m : Meant) → MeantOk k m → Keeps (PlaceOk k) (with_place map at m)
with_place_keeps k map at (means.Place p) h = wants_keeps (PlaceOk k) _ rule.UnfitWith at p h
with_place_keeps k map at m h = tt

guard_test_ok : (k : Context) (p : Place) (g : Guarded) (q : QName) → PlaceOk k p → E k (guard_test p g q)
guard_test_ok k p guarded.Pointer q h = named_e k _ (IsPointer (expr_view (e.Designator p.designator.inner)) q) (view_is_pointer (e.Designator p.designator.inner) q) (named_e k (e.Designator p.designator.inner) (ValueOf (designator_view p.designator.inner)) (view_value_of p.designator.inner) h.0)
guard_test_ok k p guarded.Record q h = named_e k _ (IsRecord (designator_view p.designator.inner) q) (view_is_record p.designator.inner q) h.0

with_guard_keeps : (k : Context) (at : Pos) (p : Place) (o : Option (Guarded × QName)) (t : TypeRef) → PlaceOk k p → Keeps (λ (q : Place × (Guarded × QName)). PlaceOk k q.0) (with_guard at p o t)
with_guard_keeps k at p None t h = tt
with_guard_keeps k at p (Some g) t h = h

test_keeps : (k : Context) (u : Around) → Stands k u → (g : Guard) → Keeps (λ (p : TypedExpr × TypeRef). E k p.0) (with_test u g)
test_keeps k u s g =
    then_keeps (λ (p : Place × TypeRef). PlaceOk k p.0 × Unit {0}) (λ (p : TypedExpr × TypeRef). E k p.0) (both (with_variable u g) (type_named u g.target)) (λ p. tested (map_of u) (first_of g.variable) p.0 p.1)
    (both_keep (PlaceOk k) Anything (with_variable u g) (type_named u g.target) (then_keeps (MeantOk k) (PlaceOk k) (with_meant u g.variable.qualifier g.variable.ident) (with_place (map_of u) (first_of g.variable)) (with_meant_keeps k u s g.variable.qualifier g.variable.ident) (λ m h. with_place_keeps k (map_of u) (first_of g.variable) m h)) (any_keeps (type_named u g.target)))
    (λ p h. then_keeps (λ (q : Place × (Guarded × QName)). PlaceOk k q.0) (λ (q : TypedExpr × TypeRef). E k q.0) (with_guard (first_of g.variable) p.0 (guard_of (map_of u) p.0 p.1) p.1) _ (with_guard_keeps k (first_of g.variable) p.0 (guard_of (map_of u) p.0 p.1) p.1 h.0) (λ q r. guard_test_ok k q.0 q.1.0 q.1.1 r))

guarded_stands : (k : Context) (u : Around) → Stands k u → (o : Option Variable) (t : Option TypeRef) → Stands k (guarded_around u o t)
guarded_stands k u s None t = s
guarded_stands k u s (Some v) t = record { known = s.known }

with_branch_keeps : (k : Context) (u : Around) → Stands k u → (b : GuardedBody) → AreJudging k b.body → Keeps (BranchOk k) (with_branch u b)
with_branch_keeps k u s b g =
    let t = with_test u b.guard in
    let v = guarded_body u b.guard t.node in
    branch_keeps k (made (λ p. p.0) t) (in_turn b.body v) (made_keeps (λ (p : TypedExpr × TypeRef). E k p.0) (E k) (λ p. p.0) t (test_keeps k u s b.guard) (λ p h. h))
    (turn_keeps k v (guarded_stands k u s (variable_meant u b.guard.variable.qualifier b.guard.variable.ident) (type_if t.node)) b.body g)

with_branches_keep : (k : Context) (u : Around) → Stands k u → (bs : List GuardedBody) → AllByRecursion (λ (b : GuardedBody). AreJudging k b.body) bs → Keeps (AllByRecursion (BranchOk k)) (with_branches u bs)
with_branches_keep k u s [] g = tt
with_branches_keep k u s (b ∷ bs) g =
    then_keeps (λ (p : TypedBranch × List TypedBranch). BranchOk k p.0 × AllByRecursion (BranchOk k) p.1) (AllByRecursion (BranchOk k)) (both (with_branch u b) (with_branches u bs)) (λ p. sound (p.0 ∷ p.1))
    (both_keep (BranchOk k) (AllByRecursion (BranchOk k)) (with_branch u b) (with_branches u bs) (with_branch_keeps k u s b g.0) (with_branches_keep k u s bs g.1)) (λ p h. h)

with_s : (k : Context) (bs : List TypedBranch) (o : Option (List TypedStmt)) (at : Pos) → AllByRecursion (BranchOk k) bs → IfThere (AreOk k) o → S k (stmt.With bs o at)
with_s k bs None at g i = named_s k _ (With (branches_view bs) NoElse at) (view_with_none bs at) (branches_named k bs g, tt)
with_s k bs (Some body) at g i = named_s k _ (With (branches_view bs) (Else (stmts_view body)) at) (view_with_some bs body at) (branches_named k bs g, stmts_named k body i)

pub with_keeps : (k : Context) (at : Pos) (bs : List GuardedBody) (o : Option (List Judging)) → AllByRecursion (λ (b : GuardedBody). AreJudging k b.body) bs → IfThere (AreJudging k) o → JudgingOk k (with_statement at bs o)
with_keeps k at bs o g h u s =
    then_keeps (λ (p : List TypedBranch × Option (List TypedStmt)). AllByRecursion (BranchOk k) p.0 × IfThere (AreOk k) p.1) (AreOk k) (both (with_branches u bs) (in_turn_if o u)) _
    (both_keep (AllByRecursion (BranchOk k)) (IfThere (AreOk k)) (with_branches u bs) (in_turn_if o u) (with_branches_keep k u s bs g) (turn_if_keeps k u s o h))
    (λ p q. (with_s k p.0 p.1 at q.0 q.1, tt))
