-- Checked modules name members that are there, in the view from the module that is laid out.
use Rattle.std.proofs.Common.{◌≡◌, ℕ, List, [], ◌∷◌, map as each, Option, Some, None, refl, sym, subst}
use Rattle.std.specs.List.{AllByRecursion}
use Rattle.ob_types.specs.declared.desc.Method.{Method}
use Rattle.ob_types.specs.declared.typed.Binding.{Binding}
use Rattle.ob_types.specs.declared.typed.TypedProcedure.{TypedProcedure}
use Rattle.ob_types.specs.declared.typed.TypedType.{TypedType}
use Rattle.ob_types.specs.declared.typed.TypedStmt.{TypedStmt}
use Rattle.ob_types.specs.declared.typed.TypedModule.{TypedModule}
use Rattle.ob_types.specs.TypedView.{stmts_view, procedure_view, module_view}
use Rattle.ob_layout.specs.LaidOut.{viewed, laid_out}
use Rattle.ob_env.specs.Faces.{Face, described}
use Rattle.ob_env.specs.Shown.{shown}
use Rattle.ob_rules.specs.Shapes.{Map}
use Rattle.ob_rules.specs.Names.{map_of}
use Rattle.ob_rules.specs.Statements.{judging, in_turn}
use Rattle.ob_rules.specs.Declarations.{Contents, stmts_in}
use Rattle.law_typing.specs.Known.{ConstantIs}
use Rattle.law_body_context.specs.Judged.{IsJudged, ProcedureIsJudged, BodiesAreJudged, IsMade, IsTold}
use Rattle.law_names_distinct.specs.Distinct.{AreDistinct}
use Rattle.law_typing_forms.specs.Whole.{Different}
use Rattle.law_methods_introduced.specs.Families.{view, IsFamily}
use Rattle.law_builds_seen.specs.Seen.{StmtsSeen, BindingSeen, FamilySeen, ProcedureSeen, ModuleSeen}
use Rattle.law_builds_seen.proofs.Whole.{statements_are_seen}
use Rattle.law_builds_seen.proofs.Members.{found_named, keeps_members, method_kept}
use Rattle.law_builds_seen.proofs.Views.{map_has, view_has}

-- what statements come to, or nothing
come_to : (k : Map) (o : Option (List TypedStmt)) → ((ys : List TypedStmt) → o ≡ Some ys → StmtsSeen k (stmts_view ys)) → StmtsSeen k (stmts_view (stmts_in o))
come_to k None h = tt
come_to k (Some ys) h = h ys refl

different : (ts : List TypedType) → AreDistinct (λ t. t.name) ts → Different (λ t. t.name) ts
different [] h = tt
different (t ∷ ts) h = (h.0, different ts h.1)

module _ (faces : List (Face (List ℕ))) (m : TypedModule) (distinct : AreDistinct (λ t. t.name) m.types) where
  abbrev V : Map
  V = viewed (described faces) (laid_out (described faces) (module_view m))

  -- a body that is judged in the module
  body_seen : (content : Contents) → ((t : TypedType) → IsMade content t → IsTold m.types t) → (p : Option TypedProcedure) (body : List TypedStmt) → IsJudged ConstantIs (shown faces) m content p body → StmtsSeen V (stmts_view body)
  body_seen content told p body j =
      let u = j.u in
      let w = j.stands.within in
      let keeps = keeps_members V (map_of u) (map_has faces m distinct u w.unit_is w.shown_is (λ t i. told t (w.own t i))) in
      subst (λ (b : List TypedStmt). StmtsSeen V (stmts_view b)) (sym j.is) (come_to V (in_turn (each judging j.xs) u).node (λ ys e. statements_are_seen V u keeps j.xs ys e))

  -- what a procedure is bound to
  family_seen : (b : Binding) → IsFamily (view (shown faces) m) m.name b → FamilySeen V b.family
  family_seen b f =
      let i = f.introduced in
      method_kept V (view (shown faces) m) (view_has faces m distinct) b.family.owner i.r b.family.name i.is (found_named (λ (k : Method). k.name) b.family.name i.r.methods i.m i.found)

  binding_seen : (o : Option Binding) → ((b : Binding) → o ≡ Some b → IsFamily (view (shown faces) m) m.name b) → BindingSeen V o
  binding_seen None h = tt
  binding_seen (Some b) h = family_seen b (h b refl)

  procedures_seen : (content : Contents) → ((t : TypedType) → IsMade content t → IsTold m.types t) → (ps : List TypedProcedure) → AllByRecursion (ProcedureIsJudged ConstantIs (shown faces) m content) ps → AllByRecursion (λ p. (b : Binding) → p.binding ≡ Some b → IsFamily (view (shown faces) m) m.name b) ps → AllByRecursion (ProcedureSeen V) (each procedure_view ps)
  procedures_seen content told [] h g = tt
  procedures_seen content told (p ∷ ps) h g = (record { binding = binding_seen p.binding g.0; body = body_seen content told (Some p) p.body h.0.body }, procedures_seen content told ps h.1 g.1)

  -- A MODULE whose bodies are judged, and whose bound procedures are introduced
  pub module_seen : BodiesAreJudged ConstantIs (shown faces) m → AllByRecursion (λ p. (b : Binding) → p.binding ≡ Some b → IsFamily (view (shown faces) m) m.name b) m.procedures → ModuleSeen V (laid_out (described faces) (module_view m))
  module_seen j g =
      let told = j.told (different m.types distinct) in
      record { procedures = procedures_seen j.content told m.procedures j.procedures g; body = body_seen j.content told None m.body j.body }
