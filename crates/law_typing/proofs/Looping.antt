-- WHILE, REPEAT, LOOP and FOR are well typed.
use Rattle.std.proofs.Common.{◌≡◌, ◌⊎◌, inl, inr, ⊎_elim, refl, sym, ap, ◌∙◌, subst, ℕ, List, ◌∷◌, Option, Some, None, Bool, true, false}
use Rattle.std.specs.Prelude.{is_some, ℤ, pos}
use Rattle.std.specs.Ordering.{int_eq}
use Rattle.std.specs.List.{AllByRecursion}
use Rattle.ob_tree.specs.declared.pos.Pos.{Pos}
use Rattle.ob_tree.specs.declared.names.QName.{QName}
use Rattle.ob_tree.specs.declared.ident.Ident.{Ident}
use Rattle.ob_types.specs.declared.types.Basic.{Basic}
use Rattle.ob_types.specs.declared.types.Basic.TheVariants as basic
use Rattle.ob_types.specs.declared.types.TypeRef.{TypeRef}
use Rattle.ob_types.specs.declared.value.Value.{Value as Literal}
use Rattle.ob_types.specs.declared.value.Value.TheVariants as literal
use Rattle.ob_types.specs.declared.typed.Width.{Width}
use Rattle.ob_types.specs.declared.typed.Width.TheVariants as width
use Rattle.ob_types.specs.declared.typed.Guarded.{Guarded}
use Rattle.ob_types.specs.declared.typed.Guarded.TheVariants as guarded
use Rattle.ob_types.specs.declared.typed.Variable.{Variable}
use Rattle.ob_types.specs.declared.typed.ExprType.{ExprType}
use Rattle.ob_types.specs.declared.typed.ExprType.TheVariants as kind
use Rattle.ob_types.specs.declared.typed.TypedExpr.{TypedExpr}
use Rattle.ob_types.specs.declared.typed.TypedStmt.{TypedStmt}
use Rattle.ob_types.specs.declared.typed.TypedStmt.TheVariants as stmt
use Rattle.ob_types.specs.TypedSyntax.{Expr, Stmt}
use Rattle.ob_types.specs.TypedView.{designator_view, expr_view, stmt_view}
use Rattle.ob_types.proofs.TypedViews.{view_while, view_repeat, view_loop, view_for}
use Rattle.ob_meaning.specs.Values.{Program, Form, BasicForm, PointerForm, ProcedureForm, RecordForm, form_in, Formals, Held}
use Rattle.ob_types.specs.Numbers.{is_in}
use Rattle.law_simulation_relation.specs.Relation.{Scalar}
use Rattle.law_simulation_relation.specs.Passed.{IsPassed}
use Rattle.law_simulation_relation.specs.Typed as typed
use Rattle.law_simulation_relation.specs.Typed.{Within, integer, longint, boolean}
use Rattle.ob_rules.specs.declared.entity.Entity.{Entity}
use Rattle.ob_rules.specs.declared.entity.Entity.TheVariants as entity
use Rattle.ob_rules.specs.declared.values.Place.{Place}
use Rattle.ob_rules.specs.declared.values.Valued.{Valued}
use Rattle.ob_rules.specs.declared.values.Valued.TheVariants as valued
use Rattle.ob_rules.specs.declared.broken.Rule.TheVariants as rule
use Rattle.ob_rules.specs.Judged.{Judged, sound, both, is_quiet, ◌▷◌}
use Rattle.ob_rules.specs.Shapes.{Map, basic_of, width_of, pointed_record, record_of}
use Rattle.ob_rules.specs.Names.{Around, map_of, named}
use Rattle.ob_rules.specs.Values.{tree, constant_in, fits, takes_value_of}
use Rattle.ob_rules.specs.Phrases.{Phrase}
use Rattle.ob_rules.specs.Designators.{variable_at, guard_of, guard_kind, on_record, guarded_by, with_guards, variable_named}
use Rattle.ob_rules.specs.Expressions.{constant_of, constant_if, constant_value}
use Rattle.ob_rules.specs.Statements.{Judging, in_turn, one, condition, while_statement, repeat_statement, in_loop, loop_statement, integer_place, for_variable, for_bound, step_value, for_step, width_or_long, for_made, bound_if, for_with, for}
use Rattle.law_typing.specs.Makes.{IfThere, Makes}
use Rattle.law_typing.specs.Forms.{IsKnown, Forms}
use Rattle.law_typing.specs.Known.{ConstantIs, VariableIs, IsScoped}
use Rattle.law_typing.specs.Kept.{PlaceIs, NodeIs, ValuedIs}
use Rattle.law_typing.specs.Meant.{PhraseIs}
use Rattle.law_typing.specs.Bodies.{AreStatements, AreJudging}
use Rattle.law_typing.proofs.Makes.{makes_then, makes_both, makes_wants, makes_unless}
use Rattle.law_typing.proofs.Basics.{not_true, width_back, within_long}
use Rattle.law_typing.proofs.Values.{Fits, W, place_fits, shown_place, shown_constant, integer_form}
use Rattle.law_typing.proofs.Roots.{guards_keep}
use Rattle.law_typing.proofs.Designators.{pointed_is, extends_is, variable_is, guarded_is}
use Rattle.law_typing.proofs.Assignable.{basic_there, constant_scalar, procedure_taken, scalar_fits}
use Rattle.law_typing.proofs.Fronts.{EntityIs, named_is}
use Rattle.law_typing.proofs.Bodies.{scoped_with, stmts_ok, in_turn_is}
use Rattle.law_typing.proofs.Simple.{condition_is}
use Rattle.law_lists.proofs.Lists.{none_some}

module _ (program : Program) (Has : Formals → QName → Type 0) (unit : List ℕ) (held : List Held) (result : Option TypeRef) where
  abbrev Ss : Bool → List TypedStmt → Type 0
  Ss l xs = AreStatements program Has unit held result l xs

  abbrev Ex : Expr → Form → Type 0
  Ex x t = Fits program Has unit held result x t

  module _ (u : Around) (s : IsScoped program Has unit held result u) where
    abbrev Ok : Stmt → Type 0
    Ok x = typed.StmtOk program Has unit held result x u.in_loop

    abbrev Cond : TypedExpr → Type 0
    Cond t = Ex (expr_view t) boolean

    pub while_is : (at : Pos) (x : Phrase) (body : List Judging) → PhraseIs program Has unit held result x → AreJudging program Has unit held result body → Makes (Ss u.in_loop) (while_statement at x body u)
    while_is at x body h k =
        makes_then (λ p. Cond p.0 × Ss u.in_loop p.1) (Ss u.in_loop) (both (condition u x) (in_turn body u)) (λ p. one (stmt.While p.0 p.1 at)) (makes_both Cond (Ss u.in_loop) (condition u x) (in_turn body u) (condition_is program Has unit held result u s x h) (in_turn_is program Has unit held result u s body k))
        (λ p q. record { node = (subst Ok (sym (view_while p.0 p.1 at)) (q.0, stmts_ok program Has unit held result u.in_loop p.1 q.1), tt) })

    pub repeat_is : (at : Pos) (body : List Judging) (x : Phrase) → PhraseIs program Has unit held result x → AreJudging program Has unit held result body → Makes (Ss u.in_loop) (repeat_statement at body x u)
    repeat_is at body x h k =
        makes_then (λ p. Ss u.in_loop p.0 × Cond p.1) (Ss u.in_loop) (both (in_turn body u) (condition u x)) (λ p. one (stmt.Repeat p.0 p.1 at)) (makes_both (Ss u.in_loop) Cond (in_turn body u) (condition u x) (in_turn_is program Has unit held result u s body k) (condition_is program Has unit held result u s x h))
        (λ p q. record { node = (subst Ok (sym (view_repeat p.0 p.1 at)) (stmts_ok program Has unit held result u.in_loop p.0 q.0, q.1), tt) })

    pub loop_is : (at : Pos) (body : List Judging) → AreJudging program Has unit held result body → Makes (Ss u.in_loop) (loop_statement at body u)
    loop_is at body k =
        makes_then (Ss true) (Ss u.in_loop) (in_turn body (in_loop u)) (λ b. one (stmt.Loop b at)) (in_turn_is program Has unit held result (in_loop u) (scoped_with program Has unit held result u u.guards true s s.guards) body k)
        (λ b q. record { node = (subst Ok (sym (view_loop b at)) (stmts_ok program Has unit held result true b q), tt) })

  -- FOR

  module _ (map : Map) (forms : Forms program Has unit held result map) where
    abbrev Is : Valued → Type 0
    Is x = ValuedIs program Has unit held result map x

    -- what widens to an integer type is one
    widens_from : (t v : Form) (w : Width) → W program Has unit held result t v → v ≡ integer w → (k : Width) × (t ≡ integer k)
    widens_from _ _ w typed.itself e = (w, e)
    widens_from _ _ w (typed.integers k l m) e = (k, refl)
    widens_from _ _ w (typed.pointers a b f g) e = none_some (ap basic_there e)
    widens_from _ _ w (typed.procedures a b f) e = none_some (ap basic_there e)

    no_width : {B : Type 0} (w : Width) (b : Basic) → width_of (Some b) ≡ None → integer w ≡ BasicForm b → B
    no_width {B} w b n e = none_some {B = B} (sym n ∙ sym (ap width_of (ap basic_there e)) ∙ width_back w)

    constant_long : (c : Literal) (w : Width) → ConstantIs c → typed.ConstantOk program Has unit held result c (integer w) → typed.ConstantOk program Has unit held result c longint
    constant_long (literal.Int z) w h k = (width.LongInt, h, refl)
    constant_long (literal.Bool b) w h k = no_width w basic.Boolean refl k
    constant_long (literal.Char c) w h k = no_width w basic.Char refl k.1
    constant_long (literal.Set n) w h k = no_width w basic.Set refl k.1
    constant_long (literal.Str text) w h k = absurd k
    constant_long literal.Nil w h k = ⊎_elim (λ p. none_some (sym (ap basic_there p.1))) (λ p. none_some (sym (ap basic_there p.1))) k

    -- what is assignable to an integer variable is of LONGINT too
    long_is : (v : TypeRef) (w : Width) (x : Valued) → IsKnown map v → form_in program v ≡ integer w → Is x → fits map v x ≡ true → Ex (expr_view (tree x)) longint
    long_is v w (valued.Constant c) d e h f =
        let k = constant_scalar program Has unit held result map forms v c d.0 h f (subst Scalar (sym e) tt) in
        shown_constant program Has unit held result map forms c longint (constant_long c w h (subst (typed.ConstantOk program Has unit held result c) e k))
    long_is v w (valued.Place p) d e h f =
        let k = forms.scalars v p.of f (subst Scalar (sym e) tt) in
        let i = widens_from (form_in program p.of) (form_in program v) w k.1 e in
        shown_place program Has unit held result map forms p longint (place_fits program Has unit held result map forms (designator_view p.designator.inner) p.of p.var_record (integer i.0) longint h i.1 tt (typed.integers i.0 width.LongInt (within_long i.0)))
    long_is v w (valued.Node n) d e h f = by n.of h f
      where
        by : (k : ExprType) → NodeIs program Has unit held result map (expr_view n.tree.inner) k → takes_value_of map v k ≡ true → Ex (expr_view n.tree.inner) longint
        by (kind.Of t) h f =
            let k = forms.scalars v t f (subst Scalar (sym e) tt) in
            let i = widens_from (form_in program t) (form_in program v) w k.1 e in
            h.2 longint (subst (λ z. W program Has unit held result z longint) (sym i.1) (typed.integers i.0 width.LongInt (within_long i.0)))
        by (kind.Procedure t) h f = let p = procedure_taken program Has unit held result map forms (expr_view n.tree.inner) v t h f in absurd (not_procedure p.0 (sym e ∙ p.1))
          where
            not_procedure : (z : Formals) → integer w ≡ ProcedureForm z → ⊥
            not_procedure z e = absurd cc
        by kind.Str h f = absurd h
        by kind.Nil h f = absurd h
        by kind.Nothing h f = absurd h

    -- a guard's type is no integer type
    no_integer : (t : TypeRef) (f : Form) → form_in program t ≡ f → ((b : Basic) → f ≡ BasicForm b → ⊥) → width_of (basic_of map t) ≡ None
    no_integer t f e n = by (basic_of map t) refl
      where
        by : (o : Option Basic) → basic_of map t ≡ o → width_of o ≡ None
        by None g = refl
        by (Some b) g = absurd (n b (sym e ∙ forms.basics t b g))

    guard_type : (p : Place) (t : TypeRef) (g : Guarded × QName) → guard_of map p t ≡ Some g → width_of (basic_of map t) ≡ None
    guard_type p t g e = go (pointed_record map p.of) e
      where
        on : (b : Bool) → on_record b map p t ≡ Some g → width_of (basic_of map t) ≡ None
        on false k = none_some k
        on true k =
            let i = extends_is map guarded.Record (record_of map p.of) (record_of map t) g k in
            let r = forms.records t g.1 i.2 in
            no_integer t (RecordForm (g.1 ∷ r.1.0) _) (r.0 ∙ r.1.1) (λ b q. absurd cc)

        go : (o : Option QName) → guard_kind map p t o ≡ Some g → width_of (basic_of map t) ≡ None
        go None k = on p.var_record k
        go (Some a) k =
            let i = extends_is map guarded.Pointer (Some a) (pointed_record map t) g k in
            let q = pointed_is map t g.1 i.2 in
            no_integer t (PointerForm q.0) (forms.pointers t q.0 q.1).0 (λ b q. absurd cc)

    -- the variable of FOR: with no guard where its type is an integer type
    pub record CounterIs (v : Variable) (t : TypeRef) (p : Place) : Type 0 where
      pub place : PlaceIs program Has unit held result map p
      pub root : p.root ≡ v
      pub plain : (p.of ≡ t) ⊎ (width_of (basic_of map p.of) ≡ None)

    counter_kept : (v : Variable) (t : TypeRef) (p : Place) (r : TypeRef) (g : Guarded × QName) (at : Pos) → CounterIs v t p → IsKnown map r → guard_of map p r ≡ Some g → CounterIs v t (guarded_by p g r at false)
    counter_kept v t p r g at h k e = record { place = guarded_is program Has unit held result map forms p g r at false h.place k e; root = h.root; plain = inr (guard_type p r g e) }

    counter_there : (at : Pos) (v : Variable) (t : TypeRef) (gs : List (Variable × Option TypeRef)) → VariableIs program Has unit held result map v t → AllByRecursion (λ (g : Variable × Option TypeRef). IfThere (IsKnown map) g.1) gs → Makes (CounterIs v t) (with_guards map at v gs (sound (variable_at v t false)))
    counter_there at v t gs h k = guards_keep map (CounterIs v t) (IsKnown map) (counter_kept v t) at v gs (sound (variable_at v t false)) (record { node = record { place = variable_is program Has unit held result map forms v t false h; root = refl; plain = inl refl } }) k

    -- an integer variable by its name
    pub record CountsIn (p : Place) : Type 0 where
      pub w : Width
      pub width : width_of (basic_of map p.of) ≡ Some w
      pub form : form_in program p.of ≡ integer w
      pub known : IsKnown map p.of
      pub variable : typed.VariableOk program Has unit held result p.root (integer w) × IsPassed p.root (integer w)

    counts : (v : Variable) (t : TypeRef) (p : Place) → VariableIs program Has unit held result map v t → CounterIs v t p → is_some (width_of (basic_of map p.of)) ≡ true → CountsIn p
    counts v t p h k e = go (width_of (basic_of map p.of)) refl e
      where
        go : (o : Option Width) → width_of (basic_of map p.of) ≡ o → is_some o ≡ true → CountsIn p
        go None f g = not_true g
        go (Some w) f g =
            let i = integer_form program Has unit held result map forms p.of w f in
            ⊎_elim (λ (q : p.of ≡ t). record { w = w; width = f; form = i; known = k.place.declared; variable = subst (λ z. typed.VariableOk program Has unit held result z (integer w) × IsPassed z (integer w)) (sym k.root) (subst (λ f. typed.VariableOk program Has unit held result v f × IsPassed v f) (ap (form_in program) (sym q) ∙ i) (h.fits, h.passed)) }) (λ q. none_some (sym q ∙ f)) k.plain

  module _ (u : Around) (s : IsScoped program Has unit held result u) where
    abbrev Counts : Place → Type 0
    Counts p = CountsIn (map_of u) s.forms p

    counter_is : (x : Ident) (v : Variable) (t : TypeRef) (at : Pos) → VariableIs program Has unit held result (map_of u) v t → Makes Counts (variable_named u x.pos v t false ▷ λ p. integer_place (map_of u) at p)
    counter_is x v t at h =
        makes_then (CounterIs (map_of u) s.forms v t) Counts (variable_named u x.pos v t false) (λ p. integer_place (map_of u) at p) (counter_there (map_of u) s.forms x.pos v t u.guards h s.guards)
        (λ p k. makes_wants Counts (is_some (width_of (basic_of (map_of u) p.of))) rule.UnfitFor at p (λ e. counts (map_of u) s.forms v t p h k e))

    for_there : (at : Pos) (x : Ident) (e : Entity) → EntityIs program Has unit held result u s x e → Makes Counts (for_variable u at x e)
    for_there at x (entity.Variable v t) h = counter_is x v t at (s.variables x.name h.k v t h.known h.is (h.near v t refl))
    for_there at x (entity.TypeName t) h = record { node = tt }
    for_there at x (entity.Module m) h = record { node = tt }
    for_there at x (entity.Constant c) h = record { node = tt }
    for_there at x (entity.Procedure q t) h = record { node = tt }
    for_there at x (entity.Forward q t) h = record { node = tt }
    for_there at x (entity.Predeclared f) h = record { node = tt }
    for_there at x entity.LeftOut h = record { node = tt }
    for_there at x entity.Unsound h = record { node = tt }

    -- a bound is of the variable's type, and of LONGINT
    abbrev Bounds : Place → TypedExpr → Type 0
    Bounds p t = Ex (expr_view t) (form_in program p.of) × Ex (expr_view t) longint

    bound_there : (at : Pos) (p : Place) (x : Phrase) → Counts p → PhraseIs program Has unit held result x → Makes (Bounds p) (x.value u ▷ for_bound (map_of u) at p)
    bound_there at p x h k =
        makes_then (ValuedIs program Has unit held result (map_of u)) (Bounds p) (x.value u) (for_bound (map_of u) at p) (k.value u s) λ v l.
        makes_wants (Bounds p) (fits (map_of u) p.of v) rule.UnfitFor at (tree v) λ f.
        (scalar_fits program Has unit held result (map_of u) s.forms p.of v h.known.0 l f (subst Scalar (sym h.form) tt), long_is (map_of u) s.forms p.of h.w v h.known h.form l f)

    abbrev IsStep : ℤ → Type 0
    IsStep z = is_in width.LongInt z ≡ true

    step_there : (at : Pos) (c : Literal) → ConstantIs c → Makes IsStep (step_value at c)
    step_there at (literal.Int z) h = makes_unless IsStep (int_eq z (pos 0)) rule.UnfitFor at z (λ e. h)
    step_there at (literal.Bool b) h = record { node = tt }
    step_there at (literal.Char c) h = record { node = tt }
    step_there at (literal.Set n) h = record { node = tt }
    step_there at (literal.Str text) h = record { node = tt }
    step_there at literal.Nil h = record { node = tt }

    constant_there : (start : Pos) (x : Valued) → ValuedIs program Has unit held result (map_of u) x → IfThere ConstantIs (constant_of start (constant_in x)).node
    constant_there start (valued.Constant c) h = h
    constant_there start (valued.Place p) h = tt
    constant_there start (valued.Node n) h = tt

    constant_node : (start : Pos) (o : Option Valued) (q : Bool) → IfThere (ValuedIs program Has unit held result (map_of u)) o → IfThere ConstantIs (constant_if start o q).node
    constant_node start (Some x) q h = constant_there start x h
    constant_node start None true h = tt
    constant_node start None false h = tt

    constant_is : (x : Phrase) → PhraseIs program Has unit held result x → Makes ConstantIs (constant_value u x)
    constant_is x h = record { node = constant_node x.start (x.value u).node (is_quiet (x.value u).notes.broken) (h.value u s).node }

    step_is : (at : Pos) (o : Option Phrase) → IfThere (PhraseIs program Has unit held result) o → Makes IsStep (for_step u at o)
    step_is at None h = record { node = refl }
    step_is at (Some x) h = makes_then ConstantIs IsStep (constant_value u x) (step_value at) (constant_is x h) (λ c k. step_there at c k)

    abbrev Parts : Place → (TypedExpr × TypedExpr) × (ℤ × List TypedStmt) → Type 0
    Parts p q = (Bounds p q.0.0 × Bounds p q.0.1) × (IsStep q.1.0 × Ss u.in_loop q.1.1)

    for_ok : (at : Pos) (p : Place) (q : (TypedExpr × TypedExpr) × (ℤ × List TypedStmt)) → Counts p → typed.HiddenOk program Has unit held result at → Parts p q → typed.StmtOk program Has unit held result (stmt_view (for_made (map_of u) at p q.0 q.1.0 q.1.1)) u.in_loop
    for_ok at p q h m k =
        let w = width_or_long (width_of (basic_of (map_of u) p.of)) in
        let e : h.w ≡ w = ap width_or_long (sym h.width) in
        subst (λ z. typed.StmtOk program Has unit held result z u.in_loop) (sym (view_for p.root w q.0.0 q.0.1 q.1.0 q.1.1 at))
        (subst (λ z. typed.VariableOk program Has unit held result p.root (integer z) × IsPassed p.root (integer z)) e h.variable, (subst (λ z. Ex (expr_view q.0.0) z) (h.form ∙ ap (λ z. integer z) e) k.0.0.0, (k.0.1.1, (m, (k.1.0, stmts_ok program Has unit held result u.in_loop q.1.1 k.1.1)))))

    with_variable_is : (at : Pos) (o : Option Place) (a b : Phrase) (step : Judged ℤ) (body : Judged (List TypedStmt)) → IfThere Counts o → typed.HiddenOk program Has unit held result at → PhraseIs program Has unit held result a → PhraseIs program Has unit held result b → Makes IsStep step → Makes (Ss u.in_loop) body → Makes (Ss u.in_loop) (for_with (map_of u) at o (a.value u) (b.value u) step body)
    with_variable_is at None a b step body h m k l x y = record { node = tt }
    with_variable_is at (Some p) a b step body h m k l x y =
        let lo = bound_if (map_of u) at (Some p) (a.value u) in
        let hi = bound_if (map_of u) at (Some p) (b.value u) in
        makes_then (Parts p) (Ss u.in_loop) (both (both lo hi) (both step body)) (λ q. one (for_made (map_of u) at p q.0 q.1.0 q.1.1))
        (makes_both (λ q. Bounds p q.0 × Bounds p q.1) (λ q. IsStep q.0 × Ss u.in_loop q.1) (both lo hi) (both step body) (makes_both (Bounds p) (Bounds p) lo hi (bound_there at p a h k) (bound_there at p b h l)) (makes_both IsStep (Ss u.in_loop) step body x y))
        (λ q z. record { node = (for_ok at p q h m z, tt) })

    pub for_is : (at : Pos) (x : Ident) (a b : Phrase) (step : Option Phrase) (body : List Judging) → PhraseIs program Has unit held result a → PhraseIs program Has unit held result b → IfThere (PhraseIs program Has unit held result) step → AreJudging program Has unit held result body → typed.HiddenOk program Has unit held result at → Makes (Ss u.in_loop) (for u at x a b step body)
    for_is at x a b step body h k l m n =
        let v = makes_then (EntityIs program Has unit held result u s x) Counts (named u x) (for_variable u at x) (named_is program Has unit held result u s x) (λ e q. for_there at x e q) in
        record { node = (with_variable_is at (named u x ▷ for_variable u at x).node a b (for_step u at step) (in_turn body u) v.node n h k (step_is at step l) (in_turn_is program Has unit held result u s body m)).node }
