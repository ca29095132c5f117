-- The name of a type names one of the program; tests for types.
use Rattle.std.proofs.Common.{◌≡◌, refl, sym, ap, ◌∙◌, subst, ℕ, List, Option, Some, None, Bool, true, false}
use Rattle.std.specs.Prelude.{◌&&◌, bytes_eq, codes, IsTrue, MatchOption}
use Rattle.ob_tree.specs.declared.pos.Pos.{Pos}
use Rattle.ob_tree.specs.declared.names.QName.{QName}
use Rattle.ob_tree.specs.declared.ident.Ident.{Ident}
use Rattle.ob_tree.specs.declared.ident.Qualident.{Qualident}
use Rattle.ob_types.specs.declared.types.Basic.{Basic}
use Rattle.ob_types.specs.declared.types.Basic.TheVariants as basic
use Rattle.ob_types.specs.declared.types.TypeRef.{TypeRef}
use Rattle.ob_types.specs.declared.types.TypeRef.TheVariants as ref
use Rattle.ob_types.specs.declared.desc.Desc.{Desc}
use Rattle.ob_types.specs.declared.desc.Desc.TheVariants as desc
use Rattle.ob_types.specs.declared.typed.Guarded.{Guarded}
use Rattle.ob_types.specs.declared.typed.Guarded.TheVariants as guarded
use Rattle.ob_types.specs.declared.typed.OutProcedure.{OutProcedure}
use Rattle.ob_types.specs.declared.typed.TypedExpr.TheVariants as e
use Rattle.ob_types.specs.Maps.{is_type}
use Rattle.ob_types.specs.TypedSyntax.{Desig, Expr, IsPointer, IsRecord}
use Rattle.ob_types.specs.TypedKinds.{of_basic}
use Rattle.ob_types.specs.TypedView.{designator_view, expr_view}
use Rattle.ob_types.proofs.TypedViews.{view_is_pointer, view_is_record}
use Rattle.ob_meaning.specs.Values.{Program, Form, BasicForm, form_in, record_in, Formals, Held}
use Rattle.law_simulation_relation.specs.Relation.{Sub}
use Rattle.law_simulation_relation.specs.Typed as typed
use Rattle.law_simulation_relation.specs.Typed.{TestOk}
use Rattle.ob_rules.specs.declared.entity.Entity.{Entity}
use Rattle.ob_rules.specs.declared.entity.Entity.TheVariants as entity
use Rattle.ob_rules.specs.declared.entity.Known.{Known}
use Rattle.ob_rules.specs.declared.values.Place.{Place}
use Rattle.ob_rules.specs.declared.values.Valued.{Valued}
use Rattle.ob_rules.specs.declared.values.Valued.TheVariants as valued
use Rattle.ob_rules.specs.declared.broken.Rule.TheVariants as rule
use Rattle.ob_rules.specs.Judged.{◌▷◌}
use Rattle.ob_rules.specs.Shapes.{Map, same_name, pointed, pointed_record, record_of, extends_record}
use Rattle.ob_rules.specs.Names.{Around, map_of, type_desc, out_string, find_name, is_out, shown_of, export_known, out_procedure, type_of_desc, out_type, type_in, type_of_entity, type_behind, unless_variable_is, unless_variable, type_by, type_named}
use Rattle.ob_rules.specs.Values as values
use Rattle.ob_rules.specs.Values.{tree, type, place_in}
use Rattle.ob_rules.specs.Designators.{if_extends, on_record, guard_kind, guard_of}
use Rattle.ob_rules.specs.Statements.{guard_test}
use Rattle.ob_rules.specs.Expressions.{record_if, record_test, pointer_test, test_record, test_of, test, bracketed}
use Rattle.law_typing.specs.Makes.{IfThere, Makes}
use Rattle.law_typing.specs.Forms.{IsKnown, Forms}
use Rattle.law_typing.specs.Known.{IsScoped}
use Rattle.law_typing.specs.Kept.{DesignatorIs, PlaceIs, NodeIs, ValuedIs}
use Rattle.law_typing.proofs.Makes.{makes_found}
use Rattle.law_typing.proofs.Basics.{form_basic, not_true}
use Rattle.law_typing.proofs.Values.{Fits, W, basic_node}
use Rattle.law_typing.proofs.Designators.{pointed_is, extends_is, form_is}
use Rattle.law_typing.proofs.Relations.{pointer_fits}
use Rattle.law_typing.proofs.Shown.{shown_is}
use Rattle.law_lists.proofs.Lists.{none_some, some_same}

module _ (program : Program) (Has : Formals → QName → Type 0) (unit : List ℕ) (held : List Held) (result : Option TypeRef) where
  -- NAMES OF TYPES

  module _ (u : Around) (scoped : IsScoped program Has unit held result u) where
    entity_type : (x : Ident) (k : Known) (w : Entity) → find_name u.known x.name ≡ Some k → k.what ≡ w → Makes (IsKnown (map_of u)) (unless_variable_is u x k w (type_of_entity x.pos))
    entity_type x k (entity.Constant v) f e = record { node = tt }
    entity_type x k (entity.TypeName t) f e = record { node = scoped.types x.name k t f e }
    entity_type x k (entity.Variable v t) f e = record { node = tt }
    entity_type x k (entity.Procedure q s) f e = record { node = tt }
    entity_type x k (entity.Forward q s) f e = record { node = tt }
    entity_type x k (entity.Module m) f e = record { node = tt }
    entity_type x k (entity.Predeclared p) f e = record { node = tt }
    entity_type x k entity.LeftOut f e = record { node = tt }
    entity_type x k entity.Unsound f e = record { node = tt }

    -- a type that another module shows
    imported_type : (n : List ℕ) (x : Ident) (d : Desc) → is_out n ≡ false → bytes_eq n u.unit ≡ false → u.shown (record { «module» = n; object = x.name }) ≡ Some d → IsTrue (is_type d) → IsKnown (map_of u) (ref.Named (record { «module» = n; object = x.name }))
    imported_type n x d e f g k =
        let q : QName = record { «module» = n; object = x.name } in
        let s : same_name q out_string ≡ false = ap (λ b. b && bytes_eq x.name (codes "String(1")) e in
        let m : map_of u q ≡ Some d = ap (λ b. type_desc b (same_name q out_string) u q) f ∙ ap (λ b. type_desc false b u q) s ∙ g in
        (s, subst (λ o. MatchOption o ⊥ (λ d. IsTrue (is_type d))) (sym m) k)

    desc_type : (n : List ℕ) (x : Ident) (d : Desc) → is_out n ≡ false → bytes_eq n u.unit ≡ false → u.shown (record { «module» = n; object = x.name }) ≡ Some d → Makes (IsKnown (map_of u)) (type_of_desc x.pos (record { «module» = n; object = x.name }) d)
    desc_type n x (desc.Const v) e f g = record { node = tt }
    desc_type n x (desc.Var m t) e f g = record { node = tt }
    desc_type n x (desc.Proc s) e f g = record { node = tt }
    desc_type n x (desc.Alias m t) e f g = record { node = imported_type n x (desc.Alias m t) e f g refl }
    desc_type n x (desc.Array m k t) e f g = record { node = imported_type n x (desc.Array m k t) e f g refl }
    desc_type n x (desc.OpenArray m t) e f g = record { node = imported_type n x (desc.OpenArray m t) e f g refl }
    desc_type n x (desc.Pointer m t) e f g = record { node = imported_type n x (desc.Pointer m t) e f g refl }
    desc_type n x (desc.ProcType m s) e f g = record { node = imported_type n x (desc.ProcType m s) e f g refl }
    desc_type n x (desc.Record r) e f g = record { node = imported_type n x (desc.Record r) e f g refl }

    out_is : (at : Pos) (o : Option OutProcedure) → Makes (IsKnown (map_of u)) (out_type at o)
    out_is at None = record { node = tt }
    out_is at (Some p) = record { node = tt }

    shown_type : (n : List ℕ) (x : Ident) (o : Option Desc) → is_out n ≡ false → bytes_eq n u.unit ≡ false → shown_of (u.shown (record { «module» = n; object = x.name })) ≡ o → Makes (IsKnown (map_of u)) (export_known (record { «module» = n; object = x.name }) x.pos o ▷ λ e. type_of_desc x.pos e.0 e.1)
    shown_type n x None e f g = record { node = tt }
    shown_type n x (Some d) e f g = record { node = (desc_type n x d e f (shown_is (u.shown (record { «module» = n; object = x.name })) d g)).node }

    module_type : (b : Bool) (n : List ℕ) (x : Ident) → is_out n ≡ b → bytes_eq n u.unit ≡ false → Makes (IsKnown (map_of u)) (type_in b u n x)
    module_type true n x e f = out_is x.pos (out_procedure x.name)
    module_type false n x e f = shown_type n x (shown_of (u.shown (record { «module» = n; object = x.name }))) e f refl

    behind_type : (m x : Ident) (k : Known) (w : Entity) → find_name u.known m.name ≡ Some k → k.what ≡ w → Makes (IsKnown (map_of u)) (unless_variable_is u m k w (type_behind u m x))
    behind_type m x k (entity.Constant v) f e = record { node = tt }
    behind_type m x k (entity.TypeName t) f e = record { node = tt }
    behind_type m x k (entity.Variable v t) f e = record { node = tt }
    behind_type m x k (entity.Procedure q s) f e = record { node = tt }
    behind_type m x k (entity.Forward q s) f e = record { node = tt }
    behind_type m x k (entity.Module n) f e = record { node = (module_type (is_out n) n x refl (scoped.imports m.name k n f e)).node }
    behind_type m x k (entity.Predeclared p) f e = record { node = tt }
    behind_type m x k entity.LeftOut f e = record { node = tt }
    behind_type m x k entity.Unsound f e = record { node = tt }

    own_type : (x : Ident) (o : Option Known) → find_name u.known x.name ≡ o → Makes (IsKnown (map_of u)) (unless_variable u x o (type_of_entity x.pos))
    own_type x None e = record { node = tt }
    own_type x (Some k) e = entity_type x k k.what e refl

    qualified_type : (m x : Ident) (o : Option Known) → find_name u.known m.name ≡ o → Makes (IsKnown (map_of u)) (unless_variable u m o (type_behind u m x))
    qualified_type m x None f = record { node = tt }
    qualified_type m x (Some k) f = behind_type m x k k.what f refl

    by_qualifier : (o : Option Ident) (x : Ident) → Makes (IsKnown (map_of u)) (type_by u o x)
    by_qualifier None x = own_type x (find_name u.known x.name) refl
    by_qualifier (Some m) x = qualified_type m x (find_name u.known m.name) refl

    pub type_named_is : (q : Qualident) → Makes (IsKnown (map_of u)) (type_named u q)
    type_named_is q = by_qualifier q.qualifier q.ident

  -- TESTS

  module _ (map : Map) (forms : Forms program Has unit held result map) where
    abbrev Ex : Expr → Form → Type 0
    Ex x t = Fits program Has unit held result x t

    abbrev Is : Valued → Type 0
    Is x = ValuedIs program Has unit held result map x

    -- a record type that extends another, as what a pointer points to
    pub test_ok : (t u : TypeRef) (a q : QName) → record_of map t ≡ Some a → record_of map u ≡ Some q → extends_record map q a ≡ true → TestOk program q (form_in program t)
    test_ok t u a q e f g = let k = forms.records u q f in (k.1, subst (λ x. Sub (record_in program q) x) (sym (forms.records t a e).0) (forms.extensions q a t e g))

    pointer_node : (x : Valued) (s r : TypeRef) (q : QName) → Is x → values.type_in (type x) ≡ Some s → pointed map s ≡ Some r → TestOk program q (form_in program r) → NodeIs program Has unit held result map (expr_view (e.IsPointer (tree x) q)) (of_basic basic.Boolean)
    pointer_node x s r q h f g k =
        let y = IsPointer (expr_view (tree x)) q in
        subst (λ y. NodeIs program Has unit held result map y (of_basic basic.Boolean)) (sym (view_is_pointer (tree x) q))
        (basic_node program Has unit held result map forms y basic.Boolean (λ v w. ((r, pointer_fits program Has unit held result map forms x s r h f g, k), w)))

    pointer_test_is : (x : Valued) (t : TypeRef) (s : TypeRef) (a : QName) → Is x → values.type_in (type x) ≡ Some s → pointed_record map s ≡ Some a → IfThere Is (pointer_test x (if_extends map guarded.Pointer (Some a) (pointed_record map t)))
    pointer_test_is x t s a h f g = go (if_extends map guarded.Pointer (Some a) (pointed_record map t)) refl
      where
        go : (o : Option (Guarded × QName)) → if_extends map guarded.Pointer (Some a) (pointed_record map t) ≡ o → IfThere Is (pointer_test x o)
        go None e = tt
        go (Some k) e =
            let i = extends_is map guarded.Pointer (Some a) (pointed_record map t) k e in
            let p = pointed_is map s a g in
            let q = pointed_is map t k.1 i.2 in
            pointer_node x s p.0 k.1 h f p.1 (test_ok p.0 q.0 a k.1 p.2 q.2 (subst (λ b. extends_record map k.1 b ≡ true) (sym (some_same i.1)) i.4))

    record_node : (d : Desig) (s t : TypeRef) (a q : QName) → DesignatorIs program Has unit held result map d s true → record_of map s ≡ Some a → record_of map t ≡ Some q → extends_record map q a ≡ true → NodeIs program Has unit held result map (IsRecord d q) (of_basic basic.Boolean)
    record_node d s t a q h e f g =
        basic_node program Has unit held result map forms (IsRecord d q) basic.Boolean (λ v w. (h.fits, ((h.is_parameter refl).0, (subst (TestOk program q) (sym (form_is program Has unit held result map forms d s true h)) (test_ok s t a q e f g), w))))

    -- what is no pointer to a record is tested as a record parameter by VAR
    record_test_is : (p : Place) (t : TypeRef) → PlaceIs program Has unit held result map p → pointed_record map p.of ≡ None → IfThere Is (record_test p (guard_of map p t))
    record_test_is p t h n = go (guard_of map p t) (sym (ap (guard_kind map p t) n))
      where
        on : (b : Bool) (g : Guarded × QName) → p.var_record ≡ b → on_record b map p t ≡ Some g → NodeIs program Has unit held result map (IsRecord (designator_view p.designator.inner) g.1) (of_basic basic.Boolean)
        on false g v f = none_some f
        on true g v f =
            let i = extends_is map guarded.Record (record_of map p.of) (record_of map t) g f in
            record_node (designator_view p.designator.inner) p.of t i.0 g.1 (subst (λ b. DesignatorIs program Has unit held result map (designator_view p.designator.inner) p.of b) v h) i.1 i.2 i.4

        go : (o : Option (Guarded × QName)) → on_record p.var_record map p t ≡ o → IfThere Is (record_test p o)
        go None f = tt
        go (Some g) f = subst (λ y. NodeIs program Has unit held result map y (of_basic basic.Boolean)) (sym (view_is_record p.designator.inner g.1)) (on p.var_record g refl f)

    test_of_is : (x : Valued) (t : TypeRef) → Is x → IfThere Is (test_of map x t (record_if map (values.type_in (type x))))
    test_of_is x t h = typed_as (values.type_in (type x)) refl
      where
        by_place : (y : Valued) → x ≡ y → record_if map (values.type_in (type y)) ≡ None → Is y → IfThere Is (test_record map (place_in y) t)
        by_place (valued.Constant c) e f k = tt
        by_place (valued.Place p) e f k = record_test_is p t k f
        by_place (valued.Node n) e f k = tt

        pointing : (o : Option QName) (s : TypeRef) → values.type_in (type x) ≡ Some s → pointed_record map s ≡ o → IfThere Is (test_of map x t o)
        pointing None s e f = by_place x refl (ap (record_if map) e ∙ f) h
        pointing (Some a) s e f = pointer_test_is x t s a h e f

        typed_as : (o : Option TypeRef) → values.type_in (type x) ≡ o → IfThere Is (test_of map x t (record_if map o))
        typed_as None e = by_place x refl (ap (record_if map) e) h
        typed_as (Some s) e = pointing (pointed_record map s) s e refl

    pub test_is : (at : Pos) (x : Valued) (t : TypeRef) → Is x → Makes Is (test map at x t)
    test_is at x t h = makes_found Is rule.UnfitTypeTest at (test_of map x t (record_if map (values.type_in (type x)))) (test_of_is x t h)

    -- in round brackets
    pub bracketed_is : (x : Valued) → Is x → Is (bracketed x)
    bracketed_is (valued.Constant c) h = h
    bracketed_is (valued.Place p) h = record { fits = h.fits; of_type = h.of_type; declared = h.declared; is_parameter = λ e. not_true e }
    bracketed_is (valued.Node n) h = h

    -- a node of a basic type is of that type
    pub node_of : (y : Expr) (b : Basic) → NodeIs program Has unit held result map y (of_basic b) → Ex y (BasicForm b)
    node_of y b h = h.2 (BasicForm b) (subst (λ f. W program Has unit held result f (BasicForm b)) (sym (form_basic program b)) typed.itself)

    -- the test of a guard
    pub guard_test_is : (p : Place) (t : TypeRef) (g : Guarded × QName) → PlaceIs program Has unit held result map p → guard_of map p t ≡ Some g → Ex (expr_view (guard_test p g.0 g.1)) (BasicForm basic.Boolean)
    guard_test_is p t g h w = go (pointed_record map p.of) refl w
      where
        on : (b : Bool) → p.var_record ≡ b → on_record b map p t ≡ Some g → Ex (expr_view (guard_test p g.0 g.1)) (BasicForm basic.Boolean)
        on false v f = none_some f
        on true v f =
            let i = extends_is map guarded.Record (record_of map p.of) (record_of map t) g f in
            let n = record_node (designator_view p.designator.inner) p.of t i.0 g.1 (subst (λ b. DesignatorIs program Has unit held result map (designator_view p.designator.inner) p.of b) v h) i.1 i.2 i.4 in
            subst (λ k. Ex (expr_view (guard_test p k g.1)) (BasicForm basic.Boolean)) (sym i.3) (subst (λ y. Ex y (BasicForm basic.Boolean)) (sym (view_is_record p.designator.inner g.1)) (node_of (IsRecord (designator_view p.designator.inner) g.1) basic.Boolean n))

        go : (o : Option QName) → pointed_record map p.of ≡ o → guard_kind map p t o ≡ Some g → Ex (expr_view (guard_test p g.0 g.1)) (BasicForm basic.Boolean)
        go None f k = on p.var_record refl k
        go (Some a) f k =
            let i = extends_is map guarded.Pointer (Some a) (pointed_record map t) g k in
            let r = pointed_is map p.of a f in
            let q = pointed_is map t g.1 i.2 in
            let n = pointer_node (valued.Place p) p.of r.0 g.1 h refl r.1 (test_ok r.0 q.0 a g.1 r.2 q.2 (subst (λ b. extends_record map g.1 b ≡ true) (sym (some_same i.1)) i.4)) in
            subst (λ k. Ex (expr_view (guard_test p k g.1)) (BasicForm basic.Boolean)) (sym i.3) (node_of (expr_view (e.IsPointer (tree (valued.Place p)) g.1)) basic.Boolean n)
