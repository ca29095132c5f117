-- Assignments, calls, EXIT and RETURN are well typed.
use Rattle.std.proofs.Common.{◌≡◌, refl, sym, subst, ℕ, List, [], ◌∷◌, Option, Some, None, Bool}
use Rattle.std.specs.Option.{option_map}
use Rattle.ob_tree.specs.declared.pos.Pos.{Pos}
use Rattle.ob_tree.specs.declared.names.QName.{QName}
use Rattle.ob_types.specs.declared.types.Basic.TheVariants as basic
use Rattle.ob_types.specs.declared.types.TypeRef.{TypeRef}
use Rattle.ob_types.specs.declared.types.Signature.{Signature}
use Rattle.ob_types.specs.declared.typed.TypedExpr.{TypedExpr}
use Rattle.ob_types.specs.declared.typed.TypedStmt.{TypedStmt}
use Rattle.ob_types.specs.declared.typed.TypedStmt.TheVariants as stmt
use Rattle.ob_types.specs.TypedView.{expr_view, stmt_view}
use Rattle.ob_types.proofs.TypedViews.{view_call_proper, view_exit, view_return}
use Rattle.ob_meaning.specs.Values.{Program, Formals, Held}
use Rattle.law_simulation_relation.specs.Typed as typed
use Rattle.law_simulation_relation.specs.Typed.{boolean}
use Rattle.ob_rules.specs.declared.meant.Meant.{Meant}
use Rattle.ob_rules.specs.declared.meant.Meant.TheVariants as means
use Rattle.ob_rules.specs.declared.meant.Where.{Where}
use Rattle.ob_rules.specs.declared.meant.Where.TheVariants.{AsStatement, Elsewhere}
use Rattle.ob_rules.specs.declared.values.Place.{Place}
use Rattle.ob_rules.specs.declared.values.Valued.{Valued}
use Rattle.ob_rules.specs.declared.broken.Rule.TheVariants as rule
use Rattle.ob_rules.specs.Judged.{both, wants, ◌▷◌}
use Rattle.ob_rules.specs.Shapes.{signature_at}
use Rattle.ob_rules.specs.Names.{Around, map_of}
use Rattle.ob_rules.specs.Values.{is, tree, fits}
use Rattle.ob_rules.specs.Calls.{call_variable}
use Rattle.ob_rules.specs.Phrases.{Phrase}
use Rattle.ob_rules.specs.Designators.{call_meant}
use Rattle.ob_rules.specs.Expressions.{Named, meant_by}
use Rattle.ob_rules.specs.Statements.{target, assigns, assignment, call_value, done, place_called, called, call_statement, condition, exit, returned, return_none, return}
use Rattle.law_typing.specs.Makes.{IfThere, Makes}
use Rattle.law_typing.specs.Forms.{ResultIs}
use Rattle.law_typing.specs.Known.{IsScoped}
use Rattle.law_typing.specs.Kept.{PlaceIs, ValuedIs}
use Rattle.law_typing.specs.Meant.{CalledIs, MeantIs, PhraseIs, NamedIs}
use Rattle.law_typing.specs.Bodies.{AreStatements}
use Rattle.law_typing.proofs.Makes.{makes_then, makes_both, makes_wants, makes_unless}
use Rattle.law_typing.proofs.Values.{basic_fits}
use Rattle.law_typing.proofs.Assignable.{scalar_fits}
use Rattle.law_typing.proofs.Calls.{call_variable_is}
use Rattle.law_typing.proofs.Selectors.{call_meant_is}
use Rattle.law_typing.proofs.Fronts.{designates_is}
use Rattle.law_typing.proofs.Assigning.{assigns_is}

module _ (program : Program) (Has : Formals → QName → Type 0) (unit : List ℕ) (held : List Held) (result : Option TypeRef) where
  abbrev Ss : Bool → List TypedStmt → Type 0
  Ss l xs = AreStatements program Has unit held result l xs

  abbrev Ok : TypedStmt → Bool → Type 0
  Ok s l = typed.StmtOk program Has unit held result (stmt_view s) l

  module _ (u : Around) (s : IsScoped program Has unit held result u) where
    abbrev Is : Valued → Type 0
    Is x = ValuedIs program Has unit held result (map_of u) x

    abbrev M : Where → Meant → Type 0
    M w m = MeantIs program Has unit held result (map_of u) u.receiver w m

    abbrev P : Place → Type 0
    P p = PlaceIs program Has unit held result (map_of u) p

    -- ASSIGNMENTS

    target_is : (start : Pos) (m : Meant) → M Elsewhere m → Makes P (target start m)
    target_is start (means.Place p) h = makes_unless P p.read_only rule.NotChangeable start p (λ e. h.0)
    target_is start (means.Constant c) h = record { node = tt }
    target_is start (means.Procedure q t) h = record { node = tt }
    target_is start (means.Bound c) h = record { node = tt }
    target_is start (means.Out o) h = record { node = tt }
    target_is start (means.Predeclared f) h = record { node = tt }
    target_is start (means.Call c) h = record { node = tt }
    target_is start (means.Statement c) h = record { node = tt }

    pub assignment_is : (n : Named) (at : Pos) (x : Phrase) → NamedIs program Has unit held result n → PhraseIs program Has unit held result x → Makes (Ss u.in_loop) (assignment u n at x)
    assignment_is n at x h k =
        makes_then (λ p. P p.0 × Is p.1) (Ss u.in_loop) (both (meant_by Elsewhere n u ▷ target n.ident.pos) (x.value u)) (λ p. assigns (map_of u) at p.0 p.1)
        (makes_both P Is (meant_by Elsewhere n u ▷ target n.ident.pos) (x.value u) (makes_then (M Elsewhere) P (meant_by Elsewhere n u) (target n.ident.pos) (designates_is program Has unit held result u s Elsewhere n.ident n.behind h) (λ m l. target_is n.ident.pos m l)) (k.value u s))
        (λ p l. assigns_is program Has unit held result (map_of u) s.forms u.in_loop at p.0 p.1 l.0 l.1)

    -- CALLS

    called_there : (x : Valued) → typed.ProperOk program Has unit held result (expr_view (tree x)) → Makes (Ss u.in_loop) (call_value x)
    called_there x h = record { node = (subst (λ y. typed.StmtOk program Has unit held result y u.in_loop) (sym (view_call_proper (tree x))) h, tt) }

    done_is : (m : Meant) → M AsStatement m → Makes (Ss u.in_loop) (done m)
    done_is (means.Call x) h = called_there x h
    done_is (means.Statement t) h = record { node = (h u.in_loop, tt) }
    done_is (means.Place p) h = record { node = tt }
    done_is (means.Constant c) h = record { node = tt }
    done_is (means.Procedure q t) h = record { node = tt }
    done_is (means.Bound c) h = record { node = tt }
    done_is (means.Out o) h = record { node = tt }
    done_is (means.Predeclared f) h = record { node = tt }

    place_called_is : (start : Pos) (p : Place) (o : Option Signature) → P p → signature_at (map_of u) p.of ≡ o → Makes (Ss u.in_loop) (place_called u start p o)
    place_called_is start p None h e = record { node = tt }
    place_called_is start p (Some t) h e = makes_then (CalledIs program Has unit held result (map_of u) AsStatement) (Ss u.in_loop) (call_variable u AsStatement start p t []) call_value (call_variable_is program Has unit held result u s AsStatement start p t [] h e tt) (λ x k. called_there x k)

    meant_done : (n : Named) (m : Meant) → M AsStatement m → Makes (Ss u.in_loop) (call_meant u AsStatement n.ident.pos m [] ▷ done)
    meant_done n m h = makes_then (M AsStatement) (Ss u.in_loop) (call_meant u AsStatement n.ident.pos m []) done (call_meant_is program Has unit held result u s AsStatement AsStatement n.ident.pos m [] h tt) (λ m k. done_is m k)

    called_is : (n : Named) (m : Meant) → M AsStatement m → Makes (Ss u.in_loop) (called u n m)
    called_is n (means.Place p) h = place_called_is n.ident.pos p (signature_at (map_of u) p.of) h.0 refl
    called_is n (means.Constant c) h = record { node = tt }
    called_is n (means.Call x) h = called_there x h
    called_is n (means.Statement t) h = record { node = (h u.in_loop, tt) }
    called_is n (means.Procedure q t) h = meant_done n (means.Procedure q t) h
    called_is n (means.Bound c) h = meant_done n (means.Bound c) h
    called_is n (means.Out o) h = meant_done n (means.Out o) h
    called_is n (means.Predeclared f) h = meant_done n (means.Predeclared f) h

    pub call_statement_is : (n : Named) → NamedIs program Has unit held result n → Makes (Ss u.in_loop) (call_statement n u)
    call_statement_is n h = makes_then (M AsStatement) (Ss u.in_loop) (meant_by AsStatement n u) (called u n) (designates_is program Has unit held result u s AsStatement n.ident n.behind h) (λ m k. called_is n m k)

    -- CONDITIONS

    abbrev pub IsCondition : TypedExpr → Type 0
    IsCondition t = typed.ExprOk program Has unit held result (expr_view t) boolean

    pub condition_is : (x : Phrase) → PhraseIs program Has unit held result x → Makes IsCondition (condition u x)
    condition_is x h = makes_then Is IsCondition (x.value u) (λ v. wants (is (map_of u) basic.Boolean v) rule.NotBoolean x.start (tree v)) (h.value u s) (λ v k. makes_wants IsCondition (is (map_of u) basic.Boolean v) rule.NotBoolean x.start (tree v) (λ e. basic_fits program Has unit held result (map_of u) s.forms v basic.Boolean refl k e))

    -- EXIT AND RETURN

    pub exit_is : (at : Pos) → Makes (Ss u.in_loop) (exit u at)
    exit_is at = makes_wants (Ss u.in_loop) u.in_loop rule.MisplacedExit at (stmt.Exit ∷ []) (λ e. (subst (λ y. typed.StmtOk program Has unit held result y u.in_loop) (sym view_exit) e, tt))

    returned_ok : (o : Option TypedExpr) → typed.ReturnOk program Has unit held result (option_map expr_view o) result → Ok (stmt.Return o) u.in_loop
    returned_ok o h = subst (λ y. typed.StmtOk program Has unit held result y u.in_loop) (sym (view_return o)) h

    nothing_returned : (at : Pos) (r : Option TypeRef) → r ≡ result → Makes (Ss u.in_loop) (return_none at r)
    nothing_returned at None e = record { node = (returned_ok None (subst (typed.ReturnOk program Has unit held result None) e tt), tt) }
    nothing_returned at (Some t) e = record { node = tt }

    value_returned : (at : Pos) (r : Option TypeRef) (x : Valued) → r ≡ result → ResultIs program r → Is x → Makes (Ss u.in_loop) (returned (map_of u) at r x)
    value_returned at None x e d h = record { node = tt }
    value_returned at (Some t) x e d h = makes_wants (Ss u.in_loop) (fits (map_of u) t x) rule.UnfitReturn at (stmt.Return (Some (tree x)) ∷ []) (λ f. (returned_ok (Some (tree x)) (subst (typed.ReturnOk program Has unit held result (Some (expr_view (tree x)))) e (scalar_fits program Has unit held result (map_of u) s.forms t x d.0 h f d.1, d.1)), tt))

    pub return_is : (at : Pos) (o : Option Phrase) → IfThere (PhraseIs program Has unit held result) o → Makes (Ss u.in_loop) (return u at o)
    return_is at None h = nothing_returned at u.result s.result_is
    return_is at (Some x) h = makes_then Is (Ss u.in_loop) (x.value u) (returned (map_of u) at u.result) (h.value u s) (λ v k. value_returned at u.result v s.result_is (subst (ResultIs program) (sym s.result_is) s.result_plain) k)
