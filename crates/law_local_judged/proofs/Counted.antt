-- What counts in a checked module is what its notes and its statements mention.
use Rattle.std.proofs.Common.{List, [], ◌∷◌, ◌++◌, map as each, Option}
use Rattle.std.specs.List.{flat_map, AllByRecursion}
use Rattle.ob_tree.specs.declared.names.QName.{QName}
use Rattle.ob_types.specs.declared.types.TypeRef.TheVariants as ref
use Rattle.ob_types.specs.declared.desc.Desc.{Desc}
use Rattle.ob_types.specs.declared.typed.Designator.{Designator}
use Rattle.ob_types.specs.declared.typed.TypedProcedure.{TypedProcedure}
use Rattle.ob_types.specs.declared.typed.TypedModule.{TypedModule}
use Rattle.ob_types.specs.Maps.{listed}
use Rattle.ob_types.specs.TypedView.{designator_view, stmts_view, procedure_view, module_view}
use Rattle.ob_uses_roots.specs.Counts.{Count, Shapes, Layouts, shapes, counts_of_designator, counts_of_all, counts_of_type, counts_of_variable, counts_of_parameter, counts_of_binding, counts_of_procedure, counts_of_mentioned, counts_of_module}
use Rattle.ob_uses_roots.specs.Noted.{names_of, shape_starts}
use Rattle.law_local_judged.specs.Said.{CountsIn, DesignatorIn, StmtIn, ModuleIn}
use Rattle.law_local_judged.proofs.Mentioned.{counts_left, counts_right, shapes_in}
use Rattle.law_local_judged.proofs.Bodies.{stmts_in}

module _ (P : QName → Type 0) where
  pub starts_in : (cs : List Count) → AllByRecursion P (names_of (shape_starts cs)) → CountsIn P cs
  starts_in [] h = tt
  starts_in (Shapes (ref.Basic b) ∷ cs) h = (tt, starts_in cs h)
  starts_in (Shapes (ref.Named q) ∷ cs) h = (h.0, starts_in cs h.1)
  starts_in (Layouts t ∷ cs) h = starts_in cs h

  objects_in : (qs : List QName) → CountsIn P (each (λ q. Shapes (ref.Named q)) qs) → AllByRecursion P qs
  objects_in [] h = tt
  objects_in (q ∷ qs) h = (h.0, objects_in qs h.1)

  lengths_in : (ds : List Designator) → CountsIn P (flat_map counts_of_designator (each designator_view ds)) → AllByRecursion (DesignatorIn P) ds
  lengths_in [] h = tt
  lengths_in (x ∷ ds) h = (counts_left P (counts_of_designator (designator_view x)) (flat_map counts_of_designator (each designator_view ds)) h, lengths_in ds (counts_right P (counts_of_designator (designator_view x)) (flat_map counts_of_designator (each designator_view ds)) h))

  body_in : (map : QName → Option Desc) (p : TypedProcedure) → CountsIn P (counts_of_procedure map (procedure_view p)) → AllByRecursion (StmtIn P) p.body
  body_in map p h = stmts_in P p.body (counts_right P (flat_map counts_of_parameter p.parameters ++ shapes (listed p.result) ++ flat_map counts_of_variable p.locals ++ counts_of_binding map p.binding) (counts_of_all (stmts_view p.body)) h)

  bodies_in : (map : QName → Option Desc) (ps : List TypedProcedure) → CountsIn P (flat_map (counts_of_procedure map) (each procedure_view ps)) → AllByRecursion (λ (p : TypedProcedure). AllByRecursion (StmtIn P) p.body) ps
  bodies_in map [] h = tt
  bodies_in map (p ∷ ps) h = (
    body_in map p (counts_left P (counts_of_procedure map (procedure_view p)) (flat_map (counts_of_procedure map) (each procedure_view ps)) h),
    bodies_in map ps (counts_right P (counts_of_procedure map (procedure_view p)) (flat_map (counts_of_procedure map) (each procedure_view ps)) h),
  )

  -- WHAT COUNTS IN A MODULE
  pub module_in : (map : QName → Option Desc) (m : TypedModule) → CountsIn P (counts_of_module map (module_view m)) → ModuleIn P m
  module_in map m h =
      let v = module_view m in
      let named = each (λ q. Shapes (ref.Named q)) m.mentioned.objects in
      let lengths = flat_map counts_of_designator (each designator_view m.mentioned.lengths) in
      let mentioned = counts_of_mentioned v in
      let types = flat_map (counts_of_type v) m.types in
      let variables = flat_map counts_of_variable m.variables in
      let procedures = flat_map (counts_of_procedure map) (each procedure_view m.procedures) in
      let body = counts_of_all (stmts_view m.body) in
      let front = counts_left P (mentioned ++ types ++ variables ++ procedures) body h in
      let said = counts_left P mentioned types (counts_left P (mentioned ++ types) variables (counts_left P (mentioned ++ types ++ variables) procedures front)) in
      let first = counts_left P (named ++ shapes m.mentioned.types) lengths said in
      record {
        objects = objects_in m.mentioned.objects (counts_left P named (shapes m.mentioned.types) first);
        types = shapes_in P m.mentioned.types (counts_right P named (shapes m.mentioned.types) first);
        lengths = lengths_in m.mentioned.lengths (counts_right P (named ++ shapes m.mentioned.types) lengths said);
        bodies = bodies_in map m.procedures (counts_right P (mentioned ++ types ++ variables) procedures front);
        body = stmts_in P m.body (counts_right P (mentioned ++ types ++ variables ++ procedures) body h);
      }
