-- IF, CASE and WITH are well typed.
use Rattle.std.proofs.Common.{◌≡◌, inl, inr, refl, sym, subst, ℕ, List, [], ◌∷◌, ◌++◌, Option, Some, None, Bool, true, false}
use Rattle.std.specs.Prelude.{◌||◌, is_some}
use Rattle.std.specs.List.{AllByRecursion}
use Rattle.ob_tree.specs.declared.pos.Pos.{Pos}
use Rattle.ob_tree.specs.declared.names.QName.{QName}
use Rattle.ob_tree.specs.declared.ident.Ident.{Ident}
use Rattle.ob_tree.specs.declared.stmt.Guard.{Guard}
use Rattle.ob_types.specs.declared.types.Basic.TheVariants as basic
use Rattle.ob_types.specs.declared.types.TypeRef.{TypeRef}
use Rattle.ob_types.specs.declared.typed.Width.{Width}
use Rattle.ob_types.specs.declared.typed.Width.TheVariants as width
use Rattle.ob_types.specs.declared.typed.Guarded.{Guarded}
use Rattle.ob_types.specs.declared.typed.Label.{Label}
use Rattle.ob_types.specs.declared.typed.Variable.{Variable}
use Rattle.ob_types.specs.declared.typed.TypedExpr.{TypedExpr}
use Rattle.ob_types.specs.declared.typed.TypedStmt.{TypedStmt}
use Rattle.ob_types.specs.declared.typed.TypedStmt.TheVariants as stmt
use Rattle.ob_types.specs.declared.typed.TypedBranch.{TypedBranch, roll-TypedBranch}
use Rattle.ob_types.specs.declared.typed.TypedCase.{TypedCase, roll-TypedCase}
use Rattle.ob_types.specs.declared.typed.TypedStmt.TheFolds.{fold-roll-TypedBranch, fold-roll-TypedCase}
use Rattle.ob_types.specs.TypedSyntax.{Stmt}
use Rattle.ob_types.specs.TypedView.{OneBranch, LabelledBody, stmt_layer, branch_layer, case_layer, expr_view, stmt_view, stmts_view, branch_view, branches_view, case_view, cases_view}
use Rattle.ob_types.proofs.TypedViews.{view_if, view_case_none, view_case_some, view_with_none, view_with_some}
use Rattle.ob_meaning.specs.Values.{Program, Formals, Held}
use Rattle.law_simulation_relation.specs.Typed as typed
use Rattle.law_simulation_relation.specs.Typed.{longint, char, boolean}
use Rattle.ob_rules.specs.declared.entity.Entity.{Entity}
use Rattle.ob_rules.specs.declared.entity.Entity.TheVariants as entity
use Rattle.ob_rules.specs.declared.entity.Known.{Known}
use Rattle.ob_rules.specs.declared.meant.Meant.{Meant}
use Rattle.ob_rules.specs.declared.meant.Meant.TheVariants as means
use Rattle.ob_rules.specs.declared.meant.Selects.{Selects}
use Rattle.ob_rules.specs.declared.meant.Where.TheVariants.{InExpression}
use Rattle.ob_rules.specs.declared.values.Place.{Place}
use Rattle.ob_rules.specs.declared.values.Valued.{Valued}
use Rattle.ob_rules.specs.declared.broken.Rule.TheVariants as rule
use Rattle.ob_rules.specs.Judged.{Judged, sound, both, made, ◌▷◌}
use Rattle.ob_rules.specs.Shapes.{is_pointer}
use Rattle.ob_rules.specs.Names.{Around, map_of, named, find_name, type_named}
use Rattle.ob_rules.specs.Values.{is, width as width_in, tree}
use Rattle.ob_rules.specs.Phrases.{Phrase, Dot}
use Rattle.ob_rules.specs.Types.{first_of}
use Rattle.ob_rules.specs.Designators.{guard_of}
use Rattle.ob_rules.specs.Statements.{Judging, in_turn, in_turn_if, one, branch_of, empty_if_none, condition, selects_by, selects, case_value, Labelled, labels, case_of, cases, selects_if, case_judged, case, with_module, with_named, with_qualified_by, with_qualified, with_meant, with_place, with_guard, guard_test, variable_meant, guarded_around, type_if, guarded_body, GuardedBody, tested, with_variable, with_test, with_branch, Conditional, conditional, conditionals, with_branches, if_statement, with_statement}
use Rattle.law_typing.specs.Makes.{IfThere, Makes}
use Rattle.law_typing.specs.Forms.{IsKnown}
use Rattle.law_typing.specs.Known.{IsScoped}
use Rattle.law_typing.specs.Kept.{PlaceIs, ValuedIs}
use Rattle.law_typing.specs.Meant.{MeantIs, PhraseIs}
use Rattle.law_typing.specs.Bodies.{AreStatements, AreJudging, ConditionalIs}
use Rattle.law_typing.proofs.Makes.{makes_then, makes_made, makes_both, makes_wants}
use Rattle.law_typing.proofs.Values.{basic_fits, width_fits}
use Rattle.law_typing.proofs.Basics.{not_true, within_long}
use Rattle.law_typing.proofs.Types.{type_named_is, guard_test_is}
use Rattle.law_typing.proofs.Predeclared.{makes_any}
use Rattle.law_typing.proofs.Fronts.{EntityIs, named_is, designates_is}
use Rattle.law_typing.proofs.Bodies.{scoped_with, stmts_ok, in_turn_is, otherwise_is}
use Rattle.law_typing.proofs.Simple.{condition_is}
use Rattle.law_lists.proofs.Lists.{all_both}

module _ (program : Program) (Has : Formals → QName → Type 0) (unit : List ℕ) (held : List Held) (result : Option TypeRef) where
  abbrev Ss : Bool → List TypedStmt → Type 0
  Ss l xs = AreStatements program Has unit held result l xs

  abbrev Cond : TypedExpr → Type 0
  Cond t = typed.ExprOk program Has unit held result (expr_view t) boolean

  -- BRANCHES

  abbrev OneOk : Bool → OneBranch → Type 0
  OneOk l b = typed.ExprOk program Has unit held result b.test boolean × typed.StmtsOk program Has unit held result b.body l

  abbrev BranchIs : Bool → TypedBranch → Type 0
  BranchIs l b = OneOk l (branch_view b)

  branches_ok : (l : Bool) (bs : List TypedBranch) → AllByRecursion (BranchIs l) bs → typed.BranchesOk program Has unit held result (branches_view bs) l
  branches_ok l [] h = tt
  branches_ok l (b ∷ bs) h = (h.0.0, (h.0.1, branches_ok l bs h.1))

  branch_made : (l : Bool) (t : TypedExpr) (xs : List TypedStmt) → Cond t → Ss l xs → BranchIs l (roll-TypedBranch (record { test = t; body = xs }))
  branch_made l t xs h k = subst (OneOk l) (sym (fold-roll-TypedBranch Stmt OneBranch LabelledBody stmt_layer branch_layer case_layer (record { test = t; body = xs }))) (h, stmts_ok program Has unit held result l xs k)

  branch_there : (l : Bool) (c : Judged TypedExpr) (b : Judged (List TypedStmt)) → Makes Cond c → Makes (Ss l) b → Makes (BranchIs l) (branch_of c b)
  branch_there l c b h k = makes_made (λ p. Cond p.0 × Ss l p.1) (BranchIs l) (both c b) (λ p. roll-TypedBranch (record { test = p.0; body = p.1 })) (makes_both Cond (Ss l) c b h k) (λ p q. branch_made l p.0 p.1 q.0 q.1)

  else_ok : (l : Bool) (o : Option (List TypedStmt)) → IfThere (Ss l) o → typed.StmtsOk program Has unit held result (stmts_view (empty_if_none o)) l
  else_ok l None h = tt
  else_ok l (Some xs) h = stmts_ok program Has unit held result l xs h

  module _ (u : Around) (s : IsScoped program Has unit held result u) where
    abbrev Is : Valued → Type 0
    Is x = ValuedIs program Has unit held result (map_of u) x

    abbrev Ok : Stmt → Type 0
    Ok x = typed.StmtOk program Has unit held result x u.in_loop

    -- IF

    conditional_is : (b : Conditional) → ConditionalIs program Has unit held result b → Makes (BranchIs u.in_loop) (conditional u b)
    conditional_is b h = branch_there u.in_loop (condition u b.test) (in_turn b.body u) (condition_is program Has unit held result u s b.test h.test) (in_turn_is program Has unit held result u s b.body h.body)

    conditionals_are : (bs : List Conditional) → AllByRecursion (ConditionalIs program Has unit held result) bs → Makes (AllByRecursion (BranchIs u.in_loop)) (conditionals u bs)
    conditionals_are [] h = record { node = tt }
    conditionals_are (b ∷ bs) h =
        makes_then (λ p. BranchIs u.in_loop p.0 × AllByRecursion (BranchIs u.in_loop) p.1) (AllByRecursion (BranchIs u.in_loop)) (both (conditional u b) (conditionals u bs)) (λ p. sound (p.0 ∷ p.1))
        (makes_both (BranchIs u.in_loop) (AllByRecursion (BranchIs u.in_loop)) (conditional u b) (conditionals u bs) (conditional_is b h.0) (conditionals_are bs h.1)) (λ p k. record { node = k })

    pub if_is : (bs : List Conditional) (o : Option (List Judging)) → AllByRecursion (ConditionalIs program Has unit held result) bs → IfThere (AreJudging program Has unit held result) o → Makes (Ss u.in_loop) (if_statement bs o u)
    if_is bs o h k =
        makes_then (λ p. AllByRecursion (BranchIs u.in_loop) p.0 × IfThere (Ss u.in_loop) p.1) (Ss u.in_loop) (both (conditionals u bs) (in_turn_if o u)) (λ p. one (stmt.If p.0 (empty_if_none p.1)))
        (makes_both (AllByRecursion (BranchIs u.in_loop)) (IfThere (Ss u.in_loop)) (conditionals u bs) (in_turn_if o u) (conditionals_are bs h) (otherwise_is program Has unit held result u s o k))
        (λ p q. record { node = (subst Ok (sym (view_if p.0 (empty_if_none p.1))) (branches_ok u.in_loop p.0 q.0, else_ok u.in_loop p.1 q.1), tt) })

    -- CASE

    abbrev Chosen : Valued → Type 0
    Chosen x = typed.CaseOk program Has unit held result (expr_view (tree x))

    chosen_is : (x : Valued) → Is x → is_some (selects (map_of u) x) ≡ true → Chosen x
    chosen_is x h e = by (is (map_of u) basic.Char x) (width_in (map_of u) x) refl refl e
      where
        by : (b : Bool) (o : Option Width) → is (map_of u) basic.Char x ≡ b → width_in (map_of u) x ≡ o → is_some (selects_by b o) ≡ true → Chosen x
        by true o f g k = inr (basic_fits program Has unit held result (map_of u) s.forms x basic.Char refl h f)
        by false (Some w) f g k = inl (width_fits program Has unit held result (map_of u) s.forms x w width.LongInt h g (within_long w))
        by false None f g k = not_true k

    judged_is : (x : Phrase) → PhraseIs program Has unit held result x → Makes Chosen (case_judged u x)
    judged_is x h = makes_then Is Chosen (x.value u) (case_value (map_of u) x.start) (h.value u s) (λ v k. makes_wants Chosen (is_some (selects (map_of u) v)) rule.UnfitCase x.start v (λ e. chosen_is v k e))

    abbrev CaseIs : TypedCase → Type 0
    CaseIs c = typed.StmtsOk program Has unit held result (case_view c).body u.in_loop

    cases_ok : (cs : List TypedCase) → AllByRecursion CaseIs cs → typed.CasesOk program Has unit held result (cases_view cs) u.in_loop
    cases_ok [] h = tt
    cases_ok (c ∷ cs) h = (h.0, cases_ok cs h.1)

    case_made : (ls : List Label) (xs : List TypedStmt) → Ss u.in_loop xs → CaseIs (roll-TypedCase (record { labels = ls; body = xs }))
    case_made ls xs h = subst (λ (c : LabelledBody). typed.StmtsOk program Has unit held result c.body u.in_loop) (sym (fold-roll-TypedCase Stmt OneBranch LabelledBody stmt_layer branch_layer case_layer (record { labels = ls; body = xs }))) (stmts_ok program Has unit held result u.in_loop xs h)

    case_there : (ls : Judged (List Label)) (b : Judged (List TypedStmt)) → Makes (Ss u.in_loop) b → Makes CaseIs (case_of ls b)
    case_there ls b h = makes_made (λ p. Unit {0} × Ss u.in_loop p.1) CaseIs (both ls b) (λ p. roll-TypedCase (record { labels = p.0; body = p.1 })) (makes_both (λ x. Unit {0}) (Ss u.in_loop) ls b (makes_any ls) h) (λ p k. case_made p.0 p.1 k.1)

    abbrev LabelledIs : Labelled → Type 0
    LabelledIs c = AreJudging program Has unit held result c.body

    cases_are : (o : Option Selects) (before : List Label) (cs : List Labelled) → AllByRecursion LabelledIs cs → Makes (AllByRecursion CaseIs) (cases u o before cs)
    cases_are o before [] h = record { node = tt }
    cases_are o before (c ∷ cs) h =
        let ls = labels u o before c.labels in
        makes_then (λ p. CaseIs p.0 × AllByRecursion CaseIs p.1) (AllByRecursion CaseIs) (both (case_of ls.found (in_turn c.body u)) (cases u o ls.before cs)) (λ p. sound (p.0 ∷ p.1))
        (makes_both CaseIs (AllByRecursion CaseIs) (case_of ls.found (in_turn c.body u)) (cases u o ls.before cs) (case_there ls.found (in_turn c.body u) (in_turn_is program Has unit held result u s c.body h.0)) (cases_are o ls.before cs h.1)) (λ p k. record { node = k })

    case_seen : (x : TypedExpr) (cs : List TypedCase) (o : Option (List TypedStmt)) (at : Pos) → typed.CaseOk program Has unit held result (expr_view x) → typed.HiddenOk program Has unit held result at → AllByRecursion CaseIs cs → IfThere (Ss u.in_loop) o → Ok (stmt_view (stmt.Case x cs o at))
    case_seen x cs None at h k c o = subst Ok (sym (view_case_none x cs at)) (h, (k, (cases_ok cs c, tt)))
    case_seen x cs (Some body) at h k c o = subst Ok (sym (view_case_some x cs body at)) (h, (k, (cases_ok cs c, stmts_ok program Has unit held result u.in_loop body o)))

    pub case_is : (at : Pos) (x : Phrase) (cs : List Labelled) (o : Option (List Judging)) → PhraseIs program Has unit held result x → AllByRecursion LabelledIs cs → IfThere (AreJudging program Has unit held result) o → typed.HiddenOk program Has unit held result at → Makes (Ss u.in_loop) (case u at x cs o)
    case_is at x cs o h k l m =
        let j = case_judged u x in
        let rest = both (cases u (selects_if (map_of u) j.node) [] cs) (in_turn_if o u) in
        makes_then (λ p. Chosen p.0 × (AllByRecursion CaseIs p.1.0 × IfThere (Ss u.in_loop) p.1.1)) (Ss u.in_loop) (both j rest) (λ p. one (stmt.Case (tree p.0) p.1.0 p.1.1 at))
        (makes_both Chosen (λ p. AllByRecursion CaseIs p.0 × IfThere (Ss u.in_loop) p.1) j rest (judged_is x h)
        (makes_both (AllByRecursion CaseIs) (IfThere (Ss u.in_loop)) (cases u (selects_if (map_of u) j.node) [] cs) (in_turn_if o u) (cases_are (selects_if (map_of u) j.node) [] cs k) (otherwise_is program Has unit held result u s o l)))
        (λ p q. record { node = (case_seen (tree p.0) p.1.0 p.1.1 at q.0 m q.1.0 q.1.1, tt) })

    -- WITH

    abbrev M : Meant → Type 0
    M m = MeantIs program Has unit held result (map_of u) u.receiver InExpression m

    abbrev P : Place → Type 0
    P p = PlaceIs program Has unit held result (map_of u) p

    in_module : (m x : Ident) (e : Entity) → Makes M (with_module u m x e)
    in_module m x (entity.Module n) = designates_is program Has unit held result u s InExpression m (Dot x.pos x ∷ []) (tt, tt)
    in_module m x (entity.Constant c) = record { node = tt }
    in_module m x (entity.TypeName t) = record { node = tt }
    in_module m x (entity.Variable v t) = record { node = tt }
    in_module m x (entity.Procedure q t) = record { node = tt }
    in_module m x (entity.Forward q t) = record { node = tt }
    in_module m x (entity.Predeclared f) = record { node = tt }
    in_module m x entity.LeftOut = record { node = tt }
    in_module m x entity.Unsound = record { node = tt }

    by_name : (m x : Ident) → Makes M (with_named u m x)
    by_name m x = makes_then (EntityIs program Has unit held result u s m) M (named u m) (with_module u m x) (named_is program Has unit held result u s m) (λ e k. in_module m x e)

    by_entity : (m x : Ident) (e : Entity) → Makes M (with_qualified_by u m x e)
    by_entity m x (entity.Variable v t) = record { node = tt }
    by_entity m x (entity.Module n) = by_name m x
    by_entity m x (entity.Constant c) = by_name m x
    by_entity m x (entity.TypeName t) = by_name m x
    by_entity m x (entity.Procedure q t) = by_name m x
    by_entity m x (entity.Forward q t) = by_name m x
    by_entity m x (entity.Predeclared f) = by_name m x
    by_entity m x entity.LeftOut = by_name m x
    by_entity m x entity.Unsound = by_name m x

    by_known : (m x : Ident) (o : Option Known) → Makes M (with_qualified u m x o)
    by_known m x None = record { node = tt }
    by_known m x (Some k) = by_entity m x k.what

    meant_is : (o : Option Ident) (x : Ident) → Makes M (with_meant u o x)
    meant_is None x = designates_is program Has unit held result u s InExpression x [] tt
    meant_is (Some m) x = by_known m x (find_name u.known m.name)

    place_is : (at : Pos) (m : Meant) → M m → Makes P (with_place (map_of u) at m)
    place_is at (means.Place p) h = makes_wants P (is_pointer (map_of u) p.of || p.var_record) rule.UnfitWith at p (λ e. h.0)
    place_is at (means.Constant c) h = record { node = tt }
    place_is at (means.Procedure q t) h = record { node = tt }
    place_is at (means.Bound c) h = record { node = tt }
    place_is at (means.Out o) h = record { node = tt }
    place_is at (means.Predeclared f) h = record { node = tt }
    place_is at (means.Call c) h = record { node = tt }
    place_is at (means.Statement c) h = record { node = tt }

    abbrev TestIs : TypedExpr × TypeRef → Type 0
    TestIs r = Cond r.0 × IsKnown (map_of u) r.1

    guard_there : (at : Pos) (p : Place) (t : TypeRef) (o : Option (Guarded × QName)) → P p → IsKnown (map_of u) t → guard_of (map_of u) p t ≡ o → Makes TestIs (with_guard at p o t ▷ λ q. sound (guard_test q.0 q.1.0 q.1.1, t))
    guard_there at p t None h d e = record { node = tt }
    guard_there at p t (Some g) h d e = record { node = (guard_test_is program Has unit held result (map_of u) s.forms p t g h e, d) }

    test_there : (g : Guard) → Makes TestIs (with_test u g)
    test_there g =
        makes_then (λ p. P p.0 × IsKnown (map_of u) p.1) TestIs (both (with_variable u g) (type_named u g.target)) (λ p. tested (map_of u) (first_of g.variable) p.0 p.1)
        (makes_both P (IsKnown (map_of u)) (with_variable u g) (type_named u g.target) (makes_then M P (with_meant u g.variable.qualifier g.variable.ident) (with_place (map_of u) (first_of g.variable)) (meant_is g.variable.qualifier g.variable.ident) (λ m k. place_is (first_of g.variable) m k)) (type_named_is program Has unit held result u s g.target))
        (λ p k. guard_there (first_of g.variable) p.0 p.1 (guard_of (map_of u) p.0 p.1) k.0 k.1 refl)

    known_if : (o : Option (TypedExpr × TypeRef)) → IfThere TestIs o → IfThere (IsKnown (map_of u)) (type_if o)
    known_if None h = tt
    known_if (Some p) h = h.1

    -- the body stands where the name has the guard
    body_scoped : (o : Option Variable) (t : Option TypeRef) → IfThere (IsKnown (map_of u)) t → IsScoped program Has unit held result (guarded_around u o t)
    body_scoped None t h = s
    body_scoped (Some v) t h = scoped_with program Has unit held result u (u.guards ++ (v, t) ∷ []) u.in_loop s (all_both (λ (g : Variable × Option TypeRef). IfThere (IsKnown (map_of u)) g.1) u.guards ((v, t) ∷ []) s.guards (h, tt))

    same_loop : (o : Option Variable) (t : Option TypeRef) → (guarded_around u o t).in_loop ≡ u.in_loop
    same_loop None t = refl
    same_loop (Some v) t = refl

    branch_is : (b : GuardedBody) → AreJudging program Has unit held result b.body → Makes (BranchIs u.in_loop) (with_branch u b)
    branch_is b h =
        let t = with_test u b.guard in
        let v = variable_meant u b.guard.variable.qualifier b.guard.variable.ident in
        let k = test_there b.guard in
        let c = body_scoped v (type_if t.node) (known_if t.node k.node) in
        branch_there u.in_loop (made (λ p. p.0) t) (in_turn b.body (guarded_body u b.guard t.node)) (makes_made TestIs Cond t (λ p. p.0) k (λ p q. q.0))
        (subst (λ l. Makes (Ss l) (in_turn b.body (guarded_body u b.guard t.node))) (same_loop v (type_if t.node)) (in_turn_is program Has unit held result (guarded_body u b.guard t.node) c b.body h))

    abbrev GuardedIs : GuardedBody → Type 0
    GuardedIs b = AreJudging program Has unit held result b.body

    with_are : (bs : List GuardedBody) → AllByRecursion GuardedIs bs → Makes (AllByRecursion (BranchIs u.in_loop)) (with_branches u bs)
    with_are [] h = record { node = tt }
    with_are (b ∷ bs) h =
        makes_then (λ p. BranchIs u.in_loop p.0 × AllByRecursion (BranchIs u.in_loop) p.1) (AllByRecursion (BranchIs u.in_loop)) (both (with_branch u b) (with_branches u bs)) (λ p. sound (p.0 ∷ p.1))
        (makes_both (BranchIs u.in_loop) (AllByRecursion (BranchIs u.in_loop)) (with_branch u b) (with_branches u bs) (branch_is b h.0) (with_are bs h.1)) (λ p k. record { node = k })

    with_seen : (bs : List TypedBranch) (o : Option (List TypedStmt)) (at : Pos) → AllByRecursion (BranchIs u.in_loop) bs → IfThere (Ss u.in_loop) o → Ok (stmt_view (stmt.With bs o at))
    with_seen bs None at h k = subst Ok (sym (view_with_none bs at)) (branches_ok u.in_loop bs h, tt)
    with_seen bs (Some body) at h k = subst Ok (sym (view_with_some bs body at)) (branches_ok u.in_loop bs h, stmts_ok program Has unit held result u.in_loop body k)

    pub with_is : (at : Pos) (bs : List GuardedBody) (o : Option (List Judging)) → AllByRecursion GuardedIs bs → IfThere (AreJudging program Has unit held result) o → Makes (Ss u.in_loop) (with_statement at bs o u)
    with_is at bs o h k =
        makes_then (λ p. AllByRecursion (BranchIs u.in_loop) p.0 × IfThere (Ss u.in_loop) p.1) (Ss u.in_loop) (both (with_branches u bs) (in_turn_if o u)) (λ p. one (stmt.With p.0 p.1 at))
        (makes_both (AllByRecursion (BranchIs u.in_loop)) (IfThere (Ss u.in_loop)) (with_branches u bs) (in_turn_if o u) (with_are bs h) (otherwise_is program Has unit held result u s o k))
        (λ p q. record { node = (with_seen p.0 p.1 at q.0 q.1, tt) })
