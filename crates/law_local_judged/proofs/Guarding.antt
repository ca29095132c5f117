-- IF, loops and WITH, with other interfaces around.
use Rattle.std.proofs.Common.{◌≡◌, refl, sym, ap, ◌∙◌, subst, List, [], ◌∷◌, Option, Some, None}
use Rattle.std.specs.Prelude.{◌||◌, is_some}
use Rattle.std.specs.List.{AllByRecursion}
use Rattle.ob_tree.specs.declared.pos.Pos.{Pos}
use Rattle.ob_tree.specs.declared.names.QName.{QName}
use Rattle.ob_tree.specs.declared.ident.Ident.{Ident}
use Rattle.ob_tree.specs.declared.stmt.Guard.{Guard}
use Rattle.ob_types.specs.declared.types.TypeRef.{TypeRef}
use Rattle.ob_types.specs.declared.desc.Desc.{Desc}
use Rattle.ob_types.specs.declared.typed.Guarded.{Guarded}
use Rattle.ob_types.specs.declared.typed.Guarded.TheVariants as guarded
use Rattle.ob_types.specs.declared.typed.Variable.{Variable}
use Rattle.ob_types.specs.declared.typed.TypedExpr.{TypedExpr}
use Rattle.ob_types.specs.declared.typed.TypedExpr.TheVariants as typed
use Rattle.ob_types.specs.declared.typed.TypedBranch.{TypedBranch, roll-TypedBranch}
use Rattle.ob_types.specs.declared.typed.TypedStmt.{TypedStmt}
use Rattle.ob_types.specs.declared.typed.TypedStmt.TheVariants as stmt
use Rattle.ob_rules.specs.declared.entity.Entity.{Entity}
use Rattle.ob_rules.specs.declared.entity.Entity.TheVariants as entity
use Rattle.ob_rules.specs.declared.entity.Known.{Known}
use Rattle.ob_rules.specs.declared.meant.Meant.{Meant}
use Rattle.ob_rules.specs.declared.meant.Meant.TheVariants as means
use Rattle.ob_rules.specs.declared.meant.Where.TheVariants.{InExpression}
use Rattle.ob_rules.specs.declared.values.Place.{Place}
use Rattle.ob_rules.specs.declared.broken.Rule.TheVariants as rule
use Rattle.ob_rules.specs.Judged.{Judged, sound, breaks, both, made, ◌▷◌}
use Rattle.ob_rules.specs.Shapes.{is_pointer}
use Rattle.ob_rules.specs.Names.{Around, map_of, named, type_named, find_name}
use Rattle.ob_rules.specs.Phrases.{Phrase, Dot}
use Rattle.ob_rules.specs.Designators.{guard_of}
use Rattle.ob_rules.specs.Types.{first_of}
use Rattle.ob_rules.specs.Statements.{Judging, in_turn, in_turn_if, condition, branch_of, empty_if_none, with_module, with_named, with_qualified_by, with_qualified, with_meant, with_place, with_guard, guard_test, variable_meant, guarded_around, type_if, guarded_body, GuardedBody, tested, with_variable, with_test, with_branch, Conditional, in_loop, conditional, conditionals, with_branches, if_statement, while_statement, repeat_statement, loop_statement, with_statement}
use Rattle.law_local_judged.specs.Agreement.{IsIn, Agree}
use Rattle.law_local_judged.specs.Said.{SaidIn, ExprIn, StmtIn, PlaceIn, PlaceTied, MeantIn, MeantTied}
use Rattle.law_local_judged.specs.Followed.{beside, EntityIn, TypeIn, Agrees, Follows}
use Rattle.law_local_judged.proofs.Tests.{pointed_same}
use Rattle.law_local_judged.proofs.Following.{said_left, follows_none, follows_sound, follows_to, follows_wants, follows_then, follows_made, follows_both, follows_weaker, made_node, both_node, front_said}
use Rattle.law_local_judged.proofs.Mentioned.{value_of_mentions, is_pointer_mentions, is_record_mentions}
use Rattle.law_local_judged.proofs.Names.{maps_agree, named_follows, type_named_follows}
use Rattle.law_local_judged.proofs.Selecting.{guard_of_same}
use Rattle.law_local_judged.proofs.Actuals.{PhraseFollows}
use Rattle.law_local_judged.proofs.Fronts.{designates_follows}
use Rattle.law_local_judged.proofs.Bodies.{SF, BF, StmtsIn, BranchIn, IfIn, BodyFollows, IfFollows, in_turn_follows, in_turn_if_follows, two_made, branch_follows, branch_mentions, if_mentions, while_mentions, repeat_mentions, loop_mentions, with_mentions}
use Rattle.law_local_judged.proofs.Simple.{condition_follows}
use Rattle.law_lists.proofs.Lists.{all_last, some_same}

module _ (P : QName → Type 0) where
  -- ---- what stands around a body

  pub agrees_in_loop : (u : Around) (s : QName → Option Desc) → Agrees P u s → Agrees P (in_loop u) s
  agrees_in_loop u s a = record { same = a.same; near = a.near; out = a.out; own = a.own; known = a.known; guards = a.guards; receiver = a.receiver; result = a.result }

  pub agrees_guarded : (u : Around) (s : QName → Option Desc) (o : Option Variable) (t : Option TypeRef) → Agrees P u s → TypeIn P t → Agrees P (guarded_around u o t) s
  agrees_guarded u s None t a h = a
  agrees_guarded u s (Some w) t a h = record { same = a.same; near = a.near; out = a.out; own = a.own; known = a.known; guards = all_last (λ g. TypeIn P g.1) u.guards (w, t) a.guards h; receiver = a.receiver; result = a.result }

  guarded_beside : (u : Around) (s : QName → Option Desc) (o : Option Variable) (t : Option TypeRef) → guarded_around (beside u s) o t ≡ beside (guarded_around u o t) s
  guarded_beside u s None t = refl
  guarded_beside u s (Some w) t = refl

  module _ (u : Around) (s : QName → Option Desc) (a : Agrees P u s) where
    abbrev v : Around
    v = beside u s

    abbrev maps : Agree P (map_of u) (map_of v)
    maps = maps_agree P u s a

    abbrev Ph : Phrase → Type 0
    Ph p = PhraseFollows P u s a p

    -- ---- IF and loops

    conditionals_follow : (bs : List Conditional) → AllByRecursion (λ b. Ph b.test × BodyFollows P b.body) bs → Follows P (λ x. Unit {0}) (AllByRecursion (BranchIn P)) (Unit {0}) (conditionals u bs) (conditionals v bs)
    conditionals_follow [] h = follows_sound P (λ x. Unit {0}) (AllByRecursion (BranchIn P)) (Unit {0}) [] tt (λ m. tt)
    conditionals_follow (b ∷ bs) h =
        two_made P (λ b. Unit {0}) (BranchIn P) (λ x. Unit {0}) (AllByRecursion (BranchIn P)) (λ x. Unit {0}) (AllByRecursion (BranchIn P)) (λ p. p.0 ∷ p.1) (conditional u b) (conditional v b) (conditionals u bs) (conditionals v bs)
        (branch_follows P (condition u b.test) (condition v b.test) (in_turn b.body u) (in_turn b.body v) (condition_follows P u s a b.test h.0.0) (in_turn_follows P b.body h.0.1 u s a)) (conditionals_follow bs h.1) (λ p t. tt) (λ p m. m)

    empty_in : (o : Option (List TypedStmt)) → StmtsIn P (empty_if_none o) → IfIn P o
    empty_in None h = tt
    empty_in (Some ys) h = h

    pub if_follows : (bs : List Conditional) (o : Option (List Judging)) → AllByRecursion (λ b. Ph b.test × BodyFollows P b.body) bs → IfFollows P o → SF P (Unit {0}) (if_statement bs o u) (if_statement bs o v)
    if_follows bs o h k =
        two_made P (λ x. Unit {0}) (AllByRecursion (BranchIn P)) (λ o. Unit {0}) (IfIn P) (λ ys. Unit {0}) (AllByRecursion (StmtIn P)) (λ p. stmt.If p.0 (empty_if_none p.1) ∷ []) (conditionals u bs) (conditionals v bs) (in_turn_if o u) (in_turn_if o v)
        (conditionals_follow bs h) (in_turn_if_follows P o k u s a) (λ p t. tt) (λ p m. let r = if_mentions P p.0 (empty_if_none p.1) m.0 in (r.0, empty_in p.1 r.1))

    pub while_follows : (at : Pos) (x : Phrase) (body : List Judging) → Ph x → BodyFollows P body → SF P (Unit {0}) (while_statement at x body u) (while_statement at x body v)
    while_follows at x body h k =
        two_made P (λ x. Unit {0}) (ExprIn P) (λ ys. Unit {0}) (AllByRecursion (StmtIn P)) (λ ys. Unit {0}) (AllByRecursion (StmtIn P)) (λ p. stmt.While p.0 p.1 at ∷ []) (condition u x) (condition v x) (in_turn body u) (in_turn body v)
        (condition_follows P u s a x h) (in_turn_follows P body k u s a) (λ p t. tt) (λ p m. while_mentions P p.0 p.1 at m.0)

    pub repeat_follows : (at : Pos) (body : List Judging) (x : Phrase) → Ph x → BodyFollows P body → SF P (Unit {0}) (repeat_statement at body x u) (repeat_statement at body x v)
    repeat_follows at body x h k =
        two_made P (λ ys. Unit {0}) (AllByRecursion (StmtIn P)) (λ x. Unit {0}) (ExprIn P) (λ ys. Unit {0}) (AllByRecursion (StmtIn P)) (λ p. stmt.Repeat p.0 p.1 at ∷ []) (in_turn body u) (in_turn body v) (condition u x) (condition v x)
        (in_turn_follows P body k u s a) (condition_follows P u s a x h) (λ p t. tt) (λ p m. repeat_mentions P p.0 p.1 at m.0)

    pub loop_follows : (at : Pos) (body : List Judging) → BodyFollows P body → SF P (Unit {0}) (loop_statement at body u) (loop_statement at body v)
    loop_follows at body k = follows_made P (λ ys. Unit {0}) (AllByRecursion (StmtIn P)) (λ ys. Unit {0}) (AllByRecursion (StmtIn P)) (Unit {0}) (λ b. stmt.Loop b at ∷ []) (in_turn body (in_loop u)) (in_turn body (in_loop v)) (in_turn_follows P body k (in_loop u) s (agrees_in_loop u s a)) (λ b t. tt) (λ b t m. loop_mentions P b at m.0)

    -- ---- WITH

    abbrev MF : Judged Meant → Judged Meant → Type 0
    MF i j = Follows P (MeantTied P) (MeantIn P) (Unit {0}) i j

    meant_none : (i j : Judged Meant) → i.node ≡ None → MF i j
    meant_none i j e = follows_none P (MeantTied P) (MeantIn P) (Unit {0}) i j e

    module_follows : (m x : Ident) (e : Entity) → MF (with_module u m x e) (with_module v m x e)
    module_follows m x (entity.Module n) = designates_follows P u s a InExpression m (Dot x.pos x ∷ []) (tt, tt)
    module_follows m x (entity.Variable w t) = meant_none (breaks rule.WrongKind m.pos) (breaks rule.WrongKind m.pos) refl
    module_follows m x (entity.TypeName t) = meant_none (breaks rule.WrongKind m.pos) (breaks rule.WrongKind m.pos) refl
    module_follows m x (entity.Constant c) = meant_none (breaks rule.WrongKind m.pos) (breaks rule.WrongKind m.pos) refl
    module_follows m x (entity.Procedure n g) = meant_none (breaks rule.WrongKind m.pos) (breaks rule.WrongKind m.pos) refl
    module_follows m x (entity.Forward n g) = meant_none (breaks rule.WrongKind m.pos) (breaks rule.WrongKind m.pos) refl
    module_follows m x (entity.Predeclared f) = meant_none (breaks rule.WrongKind m.pos) (breaks rule.WrongKind m.pos) refl
    module_follows m x entity.LeftOut = meant_none (breaks rule.WrongKind m.pos) (breaks rule.WrongKind m.pos) refl
    module_follows m x entity.Unsound = meant_none (breaks rule.WrongKind m.pos) (breaks rule.WrongKind m.pos) refl

    with_named_follows : (m x : Ident) → MF (with_named u m x) (with_named v m x)
    with_named_follows m x = follows_then P (EntityIn P) (λ e. Unit {0}) (MeantTied P) (MeantIn P) (Unit {0}) (named u m) (named v m) (with_module u m x) (with_module v m x) (named_follows P u s a m) (λ e h. module_follows m x e)

    qualified_by_follows : (m x : Ident) (e : Entity) → MF (with_qualified_by u m x e) (with_qualified_by v m x e)
    qualified_by_follows m x (entity.Variable w t) = meant_none (breaks rule.WrongKind m.pos) (breaks rule.WrongKind m.pos) refl
    qualified_by_follows m x (entity.Module n) = with_named_follows m x
    qualified_by_follows m x (entity.TypeName t) = with_named_follows m x
    qualified_by_follows m x (entity.Constant c) = with_named_follows m x
    qualified_by_follows m x (entity.Procedure n g) = with_named_follows m x
    qualified_by_follows m x (entity.Forward n g) = with_named_follows m x
    qualified_by_follows m x (entity.Predeclared f) = with_named_follows m x
    qualified_by_follows m x entity.LeftOut = with_named_follows m x
    qualified_by_follows m x entity.Unsound = with_named_follows m x

    qualified_follows : (m x : Ident) (o : Option Known) → MF (with_qualified u m x o) (with_qualified v m x o)
    qualified_follows m x None = meant_none (breaks rule.NotDeclared m.pos) (breaks rule.NotDeclared m.pos) refl
    qualified_follows m x (Some k) = qualified_by_follows m x k.what

    with_meant_follows : (o : Option Ident) (x : Ident) → MF (with_meant u o x) (with_meant v o x)
    with_meant_follows None x = designates_follows P u s a InExpression x [] tt
    with_meant_follows (Some m) x = qualified_follows m x (find_name u.known m.name)

    abbrev PF : Type 0 → Judged Place → Judged Place → Type 0
    PF R i j = Follows P (PlaceTied P) (PlaceIn P) R i j

    place_none : (R : Type 0) (i j : Judged Place) → i.node ≡ None → PF R i j
    place_none R i j e = follows_none P (PlaceTied P) (PlaceIn P) R i j e

    pointer_same : (t : TypeRef) → IsIn P t → is_pointer (map_of v) t ≡ is_pointer (map_of u) t
    pointer_same t h = ap (λ o. is_some o) (pointed_same P (map_of u) (map_of v) maps t h)

    with_place_follows : (at : Pos) (m : Meant) → MeantTied P m → PF (MeantIn P m) (with_place (map_of u) at m) (with_place (map_of v) at m)
    with_place_follows at (means.Place p) t = follows_wants P (PlaceTied P) (PlaceIn P) (PlaceIn P p) (is_pointer (map_of u) p.of || p.var_record) (is_pointer (map_of v) p.of || p.var_record) rule.UnfitWith at p t (λ m. m) (λ r. ap (λ b. b || p.var_record) (pointer_same p.of (t r)))
    with_place_follows at (means.Constant c) t = place_none (Unit {0}) (breaks rule.UnfitWith at) (breaks rule.UnfitWith at) refl
    with_place_follows at (means.Procedure q g) t = place_none (Unit {0}) (breaks rule.UnfitWith at) (breaks rule.UnfitWith at) refl
    with_place_follows at (means.Bound c) t = place_none (PlaceIn P c.receiver) (breaks rule.UnfitWith at) (breaks rule.UnfitWith at) refl
    with_place_follows at (means.Out o) t = place_none (Unit {0}) (breaks rule.UnfitWith at) (breaks rule.UnfitWith at) refl
    with_place_follows at (means.Predeclared f) t = place_none (Unit {0}) (breaks rule.UnfitWith at) (breaks rule.UnfitWith at) refl
    with_place_follows at (means.Call x) t = place_none (MeantIn P (means.Call x)) (breaks rule.UnfitWith at) (breaks rule.UnfitWith at) refl
    with_place_follows at (means.Statement x) t = place_none (MeantIn P (means.Statement x)) (breaks rule.UnfitWith at) (breaks rule.UnfitWith at) refl

    variable_follows : (g : Guard) → PF (Unit {0}) (with_variable u g) (with_variable v g)
    variable_follows g =
        follows_then P (MeantTied P) (MeantIn P) (PlaceTied P) (PlaceIn P) (Unit {0}) (with_meant u g.variable.qualifier g.variable.ident) (with_meant v g.variable.qualifier g.variable.ident) (with_place (map_of u) (first_of g.variable)) (with_place (map_of v) (first_of g.variable))
        (with_meant_follows g.variable.qualifier g.variable.ident) (λ m t. with_place_follows (first_of g.variable) m t)

    -- a test, and the type that is tested for
    abbrev TestTied : TypedExpr × TypeRef → Type 0
    TestTied p = IsIn P p.1

    abbrev TestIn : TypedExpr × TypeRef → Type 0
    TestIn p = ExprIn P p.0

    test_mentions : (p : Place) (k : Guarded) (q : QName) → ExprIn P (guard_test p k q) → PlaceIn P p
    test_mentions p guarded.Pointer q h = value_of_mentions P p.designator.inner (is_pointer_mentions P (typed.Designator p.designator.inner) q h).0
    test_mentions p guarded.Record q h = (is_record_mentions P p.designator.inner q h).0

    tested_self : (at : Pos) (p : Place) (o : Option (Guarded × QName)) (t : TypeRef) → IsIn P t → Follows P TestTied TestIn (PlaceIn P p) (with_guard at p o t ▷ λ q. sound (guard_test q.0 q.1.0 q.1.1, t)) (with_guard at p o t ▷ λ q. sound (guard_test q.0 q.1.0 q.1.1, t))
    tested_self at p None t h = follows_none P TestTied TestIn (PlaceIn P p) (with_guard at p None t ▷ λ q. sound (guard_test q.0 q.1.0 q.1.1, t)) (with_guard at p None t ▷ λ q. sound (guard_test q.0 q.1.0 q.1.1, t)) refl
    tested_self at p (Some k) t h = record {
      keeps = λ x e said. subst TestTied (some_same e) h;
      same = λ x e said m. (test_mentions p k.0 k.1 (subst TestIn (sym (some_same e)) m), refl);
    }

    tested_follows : (at : Pos) (p : Place) (t : TypeRef) → PlaceTied P p → IsIn P t → Follows P TestTied TestIn (PlaceIn P p × Unit {0}) (tested (map_of u) at p t) (tested (map_of v) at p t)
    tested_follows at p t h i =
        follows_weaker P TestTied TestIn (PlaceIn P p) (PlaceIn P p × Unit {0}) (tested (map_of u) at p t) (tested (map_of v) at p t) (λ r. (r, tt))
        (follows_to P TestTied TestIn (PlaceIn P p) (tested (map_of u) at p t) (tested (map_of v) at p t) (tested_self at p (guard_of (map_of u) p t) t i)
        (λ r. ap (λ o. with_guard at p o t ▷ λ q. sound (guard_test q.0 q.1.0 q.1.1, t)) (guard_of_same P (map_of u) (map_of v) maps p t (h r) i)))

    with_test_follows : (g : Guard) → Follows P TestTied TestIn (Unit {0} × Unit {0}) (with_test u g) (with_test v g)
    with_test_follows g =
        follows_then P (λ (p : Place × TypeRef). PlaceTied P p.0 × IsIn P p.1) (λ p. PlaceIn P p.0 × Unit {0}) TestTied TestIn (Unit {0} × Unit {0}) (both (with_variable u g) (type_named u g.target)) (both (with_variable v g) (type_named v g.target))
        (λ p. tested (map_of u) (first_of g.variable) p.0 p.1) (λ p. tested (map_of v) (first_of g.variable) p.0 p.1)
        (follows_both P (PlaceTied P) (PlaceIn P) (IsIn P) (λ t. Unit {0}) (Unit {0}) (Unit {0}) (with_variable u g) (with_variable v g) (type_named u g.target) (type_named v g.target) (variable_follows g) (type_named_follows P u s a g.target))
        (λ p t. tested_follows (first_of g.variable) p.0 p.1 t.0 t.1)

    test_made : (i j : Judged (TypedExpr × TypeRef)) → Follows P TestTied TestIn (Unit {0}) i j → Follows P (λ x. Unit {0}) (ExprIn P) (Unit {0}) (made (λ (p : TypedExpr × TypeRef). p.0) i) (made (λ (p : TypedExpr × TypeRef). p.0) j)
    test_made i j h = follows_made P TestTied TestIn (λ x. Unit {0}) (ExprIn P) (Unit {0}) (λ (p : TypedExpr × TypeRef). p.0) i j h (λ p t. tt) (λ p t m. m)

    -- the body is judged once the test is
    branch_in : (g : Guard) (body : List Judging) (o : Option (TypedExpr × TypeRef)) → BodyFollows P body → TypeIn P (type_if o) → SF P (Unit {0}) (in_turn body (guarded_body u g o)) (in_turn body (guarded_body v g o))
    branch_in g body o h t =
        let w = variable_meant u g.variable.qualifier g.variable.ident in
        subst (λ z. SF P (Unit {0}) (in_turn body (guarded_around u w (type_if o))) (in_turn body z)) (sym (guarded_beside u s w (type_if o))) (in_turn_follows P body h (guarded_around u w (type_if o)) s (agrees_guarded u s w (type_if o) a t))

    type_there : (o : Option (TypedExpr × TypeRef)) (z : TypedExpr × TypeRef) → o ≡ Some z → IsIn P z.1 → TypeIn P (type_if o)
    type_there o z e h = subst (λ o. TypeIn P (type_if o)) (sym e) h

    with_branch_follows : (b : GuardedBody) → BodyFollows P b.body → BF P (with_branch u b) (with_branch v b)
    with_branch_follows b h = record { keeps = λ x e said. tt; same = λ x e said m. (tt, by x e said m) }
      where
        by : (x : TypedBranch) → (with_branch u b).node ≡ Some x → SaidIn P (with_branch u b).notes → BranchIn P x → with_branch v b ≡ with_branch u b
        by x e said m =
            let i : Judged (TypedExpr × TypeRef) = with_test u b.guard in
            let j : Judged (TypedExpr × TypeRef) = with_test v b.guard in
            let c : Judged TypedExpr = made (λ (p : TypedExpr × TypeRef). p.0) i in
            let k : Judged (List TypedStmt) = in_turn b.body (guarded_body u b.guard i.node) in
            let r = made_node (λ (p : TypedExpr × List TypedStmt). roll-TypedBranch (record { test = p.0; body = p.1 })) (both c k) x e in
            let q = both_node c k r.0 r.1.0 in
            let z = made_node (λ (p : TypedExpr × TypeRef). p.0) i r.0.0 q.0 in
            let t = front_said P i (λ p. sound p.0) (said_left P c.notes k.notes (front_said P (both c k) (λ p. sound (roll-TypedBranch (record { test = p.0; body = p.1 }))) said)) in
            let f = with_test_follows b.guard in
            let y = f.keeps z.0 z.1.0 t in
            let w = subst (ExprIn P) (sym z.1.1) (branch_mentions P r.0.0 r.0.1 (subst (BranchIn P) (sym r.1.1) m)).0 in
            let same = (f.same z.0 z.1.0 t w).1 in
            let parts = branch_follows P c (made (λ (p : TypedExpr × TypeRef). p.0) j) k (in_turn b.body (guarded_body v b.guard i.node)) (test_made i j (follows_weaker P TestTied TestIn (Unit {0} × Unit {0}) (Unit {0}) i j (λ r. tt) f)) (branch_in b.guard b.body i.node h (type_there i.node z.0 z.1.0 y)) in
            ap (λ (o : Judged (TypedExpr × TypeRef)). branch_of (made (λ (p : TypedExpr × TypeRef). p.0) j) (in_turn b.body (guarded_body v b.guard o.node))) same ∙ (parts.same x e said m).1

    with_branches_follow : (bs : List GuardedBody) → AllByRecursion (λ b. BodyFollows P b.body) bs → Follows P (λ x. Unit {0}) (AllByRecursion (BranchIn P)) (Unit {0}) (with_branches u bs) (with_branches v bs)
    with_branches_follow [] h = follows_sound P (λ x. Unit {0}) (AllByRecursion (BranchIn P)) (Unit {0}) [] tt (λ m. tt)
    with_branches_follow (b ∷ bs) h =
        two_made P (λ b. Unit {0}) (BranchIn P) (λ x. Unit {0}) (AllByRecursion (BranchIn P)) (λ x. Unit {0}) (AllByRecursion (BranchIn P)) (λ p. p.0 ∷ p.1) (with_branch u b) (with_branch v b) (with_branches u bs) (with_branches v bs)
        (with_branch_follows b h.0) (with_branches_follow bs h.1) (λ p t. tt) (λ p m. m)

    pub with_follows : (at : Pos) (bs : List GuardedBody) (o : Option (List Judging)) → AllByRecursion (λ b. BodyFollows P b.body) bs → IfFollows P o → SF P (Unit {0}) (with_statement at bs o u) (with_statement at bs o v)
    with_follows at bs o h k =
        two_made P (λ x. Unit {0}) (AllByRecursion (BranchIn P)) (λ o. Unit {0}) (IfIn P) (λ ys. Unit {0}) (AllByRecursion (StmtIn P)) (λ p. stmt.With p.0 p.1 at ∷ []) (with_branches u bs) (with_branches v bs) (in_turn_if o u) (in_turn_if o v)
        (with_branches_follow bs h) (in_turn_if_follows P o k u s a) (λ p t. tt) (λ p m. with_mentions P p.0 p.1 at m.0)
