-- Statements without others inside have no places of FOR and CASE.
use Rattle.std.proofs.Common.{◌≡◌, refl, sym, ap, ◌∙◌, Bool, true, false, List, [], ◌∷◌, ◌++◌, Option, Some, None, append_assoc}
use Rattle.std.specs.Option.{option_map}
use Rattle.ob_tree.specs.declared.pos.Pos.{Pos}
use Rattle.ob_types.specs.declared.types.Signature.{Signature}
use Rattle.ob_types.specs.declared.types.TypeRef.{TypeRef}
use Rattle.ob_types.specs.declared.typed.TypedExpr.{TypedExpr}
use Rattle.ob_types.specs.declared.typed.TypedStmt.{TypedStmt}
use Rattle.ob_types.specs.declared.typed.TypedStmt.TheVariants as stmt
use Rattle.ob_types.specs.TypedSyntax as syntax
use Rattle.ob_types.specs.TypedView.{designator_view, expr_view, stmt_view, stmts_view}
use Rattle.ob_types.proofs.TypedViews.{view_assign, view_call_proper, view_exit, view_return}
use Rattle.ob_meaning.specs.Calls.{hidden_of, hidden_of_all}
use Rattle.ob_rules.specs.declared.meant.Meant.{Meant}
use Rattle.ob_rules.specs.declared.meant.Meant.TheVariants as means
use Rattle.ob_rules.specs.declared.meant.Where.TheVariants.{AsStatement, Elsewhere}
use Rattle.ob_rules.specs.declared.values.Place.{Place}
use Rattle.ob_rules.specs.declared.values.Valued.{Valued}
use Rattle.ob_rules.specs.declared.broken.Rule.{Rule}
use Rattle.ob_rules.specs.declared.broken.Rule.TheVariants as rule
use Rattle.ob_rules.specs.Judged.{wants, both, ◌▷◌}
use Rattle.ob_rules.specs.Shapes.{Map, is_array, signature_at}
use Rattle.ob_rules.specs.Names.{Around, map_of}
use Rattle.ob_rules.specs.Calls.{call_variable}
use Rattle.ob_rules.specs.Designators.{call_meant}
use Rattle.ob_rules.specs.Expressions.{Named, meant_by}
use Rattle.ob_rules.specs.Values.{fits, tree}
use Rattle.ob_rules.specs.Phrases.{Phrase}
use Rattle.ob_rules.specs.Statements.{target, assignment_of, assigned_tree, assigns, assignment, call_value, done, place_called, called, exit, returned, return_none, return, call_statement}
use Rattle.law_methods_described.proofs.Nodes.{Has, any_then, then_has}
use Rattle.law_builds_bodies.proofs.built_laws.Predeclared.{IsQuiet}
use Rattle.law_builds_bodies.proofs.built_laws.Calls.{call_quiet, meant_quiet}

-- these are just those
abbrev pub Holds : List Pos → List Pos → Type 0
Holds ps qs = qs ≡ ps

pub holds_joined : (a b c d : List Pos) → Holds a b → Holds c d → Holds (a ++ c) (b ++ d)
holds_joined a b c d f g = ap (λ l. l ++ d) f ∙ ap (λ l. a ++ l) g

pub holds_front : (p : Pos) (a b : List Pos) → Holds a b → Holds (p ∷ a) (p ∷ b)
holds_front p a b f = ap (λ l. p ∷ l) f

abbrev pub Keeps : List Pos → List TypedStmt → Type 0
Keeps ps ys = Holds ps (hidden_of_all (stmts_view ys))

append_none : (ps : List Pos) → ps ++ [] ≡ ps
append_none [] = refl
append_none (p ∷ ps) = ap (λ l. p ∷ l) (append_none ps)

pub one_keeps : (ps : List Pos) (s : TypedStmt) (x : syntax.Stmt) → stmt_view s ≡ x → Holds ps (hidden_of x) → Keeps ps (s ∷ [])
one_keeps ps s x e h = append_none (hidden_of (stmt_view s)) ∙ ap hidden_of e ∙ h

both_hidden : (ys zs : List TypedStmt) → hidden_of_all (stmts_view (ys ++ zs)) ≡ hidden_of_all (stmts_view ys) ++ hidden_of_all (stmts_view zs)
both_hidden [] zs = refl
both_hidden (y ∷ ys) zs = ap (λ l. hidden_of (stmt_view y) ++ l) (both_hidden ys zs) ∙ sym (append_assoc (hidden_of (stmt_view y)) (hidden_of_all (stmts_view ys)) (hidden_of_all (stmts_view zs)))

pub two_keep : (ps qs : List Pos) (ys zs : List TypedStmt) → Keeps ps ys → Keeps qs zs → Keeps (ps ++ qs) (ys ++ zs)
two_keep ps qs ys zs f g = both_hidden ys zs ∙ holds_joined ps (hidden_of_all (stmts_view ys)) qs (hidden_of_all (stmts_view zs)) f g

-- ---- what has no places

call_has : (x : Valued) → Keeps [] (stmt.Call (tree x) ∷ [])
call_has x = one_keeps [] (stmt.Call (tree x)) (syntax.CallProper (expr_view (tree x))) (view_call_proper (tree x)) refl

done_has : (m : Meant) → IsQuiet m → Has (Keeps []) (done m)
done_has (means.Call x) h = call_has x
done_has (means.Statement s) h = one_keeps [] s.inner (stmt_view s.inner) refl h
done_has m h = tt

place_has : (u : Around) (at : Pos) (p : Place) (o : Option Signature) → Has (Keeps []) (place_called u at p o)
place_has u at p None = tt
place_has u at p (Some s) = any_then (Keeps []) (call_variable u AsStatement at p s []) call_value (λ x. call_has x)

called_has : (u : Around) (n : Named) (m : Meant) → IsQuiet m → Has (Keeps []) (called u n m)
called_has u n (means.Place p) h = place_has u n.ident.pos p (signature_at (map_of u) p.of)
called_has u n (means.Constant v) h = tt
called_has u n (means.Call x) h = call_has x
called_has u n (means.Statement s) h = one_keeps [] s.inner (stmt_view s.inner) refl h
called_has u n (means.Procedure q s) h = then_has IsQuiet (Keeps []) (call_meant u AsStatement n.ident.pos (means.Procedure q s) []) done (call_quiet u AsStatement n.ident.pos (means.Procedure q s) []) done_has
called_has u n (means.Bound c) h = then_has IsQuiet (Keeps []) (call_meant u AsStatement n.ident.pos (means.Bound c) []) done (call_quiet u AsStatement n.ident.pos (means.Bound c) []) done_has
called_has u n (means.Out p) h = then_has IsQuiet (Keeps []) (call_meant u AsStatement n.ident.pos (means.Out p) []) done (call_quiet u AsStatement n.ident.pos (means.Out p) []) done_has
called_has u n (means.Predeclared f) h = then_has IsQuiet (Keeps []) (call_meant u AsStatement n.ident.pos (means.Predeclared f) []) done (call_quiet u AsStatement n.ident.pos (means.Predeclared f) []) done_has

pub call_statement_has : (n : Named) (u : Around) → Has (Keeps []) (call_statement n u)
call_statement_has n u = then_has IsQuiet (Keeps []) (meant_by AsStatement n u) (called u n) (meant_quiet u AsStatement n) (λ m h. called_has u n m h)

wants_has : {A : Type 0} (P : A → Type 0) (b : Bool) (which : Rule) (at : Pos) (x : A) → P x → Has P (wants b which at x)
wants_has P true which at x h = h
wants_has P false which at x h = tt

assigns_has : (map_ : Map) (at : Pos) (p : Place) (x : Valued) → Has (Keeps []) (assigns map_ at p x)
assigns_has map_ at p x =
    let how = assignment_of map_ p x in
    let y = assigned_tree (is_array map_ p.of) x in
    wants_has (Keeps []) (fits map_ p.of x) rule.NotAssignable at (stmt.Assign p.designator.inner how y at ∷ []) (one_keeps [] (stmt.Assign p.designator.inner how y at) (syntax.Assign (designator_view p.designator.inner) how (expr_view y) at) (view_assign p.designator.inner how y at) refl)

pub assignment_has : (u : Around) (n : Named) (at : Pos) (x : Phrase) → Has (Keeps []) (assignment u n at x)
assignment_has u n at x = any_then (Keeps []) (both (meant_by Elsewhere n u ▷ target n.ident.pos) (x.value u)) (λ p. assigns (map_of u) at p.0 p.1) (λ p. assigns_has (map_of u) at p.0 p.1)

pub exit_has : (u : Around) (at : Pos) → Has (Keeps []) (exit u at)
exit_has u at = wants_has (Keeps []) u.in_loop rule.MisplacedExit at (stmt.Exit ∷ []) (one_keeps [] stmt.Exit syntax.Exit view_exit refl)

returns_keep : (x : Option TypedExpr) → Keeps [] (stmt.Return x ∷ [])
returns_keep x = one_keeps [] (stmt.Return x) (syntax.Return (option_map expr_view x)) (view_return x) refl

return_none_has : (at : Pos) (o : Option TypeRef) → Has (Keeps []) (return_none at o)
return_none_has at None = returns_keep None
return_none_has at (Some t) = tt

returned_has : (map_ : Map) (at : Pos) (o : Option TypeRef) (x : Valued) → Has (Keeps []) (returned map_ at o x)
returned_has map_ at None x = tt
returned_has map_ at (Some t) x = wants_has (Keeps []) (fits map_ t x) rule.UnfitReturn at (stmt.Return (Some (tree x)) ∷ []) (returns_keep (Some (tree x)))

pub return_has : (u : Around) (at : Pos) (o : Option Phrase) → Has (Keeps []) (return u at o)
return_has u at None = return_none_has at u.result
return_has u at (Some x) = any_then (Keeps []) (x.value u) (returned (map_of u) at u.result) (λ v. returned_has (map_of u) at u.result v)
