-- What the bound procedures of a module's records take and give counts for its uses, as the procedures do.
use Rattle.std.proofs.Common.{sym, subst, ℕ, suc, List, [], ◌∷◌, ◌++◌, map as each, Option, inl, inr}
use Rattle.std.specs.List.{AllByRecursion, flat_map}
use Rattle.ob_tree.specs.declared.names.QName.{QName}
use Rattle.ob_types.specs.declared.types.Mode.{Mode}
use Rattle.ob_types.specs.declared.types.Mode.TheVariants as mode
use Rattle.ob_types.specs.declared.types.TypeRef.{TypeRef}
use Rattle.ob_types.specs.declared.types.Signature.{Signature}
use Rattle.ob_types.specs.declared.desc.Desc.{Desc}
use Rattle.ob_types.specs.declared.desc.Desc.TheVariants as desc
use Rattle.ob_types.specs.declared.desc.Method.{Method}
use Rattle.ob_types.specs.declared.typed.TypedType.{TypedType}
use Rattle.ob_types.specs.declared.typed.TypedParameter.{TypedParameter}
use Rattle.ob_types.specs.declared.typed.TypedProcedure.{TypedProcedure}
use Rattle.ob_types.specs.declared.typed.TypedModule.{TypedModule}
use Rattle.ob_types.specs.Maps.{listed, signature_types}
use Rattle.ob_types.specs.TypedSyntax.{Module}
use Rattle.ob_types.specs.TypedView.{stmts_view, procedure_view, module_view}
use Rattle.ob_layout.specs.LaidOut.{base_of, numbered, laid_desc, laid_type, laid_out, words_in, procedures_in}
use Rattle.ob_uses_roots.specs.Counts.{Count, Shapes, Layouts, shapes, mode_of, formal_counts, counts_of_type, counts_of_variable, counts_of_parameter, counts_of_binding, counts_of_procedure, counts_of_mentioned, counts_of_all, counts_of_module}
use Rattle.ob_uses_roots.specs.Noted.{shape_starts}
use Rattle.ob_uses.specs.Reaching.{first}
use Rattle.law_local_files.specs.Agreeing.{Map, IsNear, On}
use Rattle.law_local_files.proofs.Told.{all_on}
use Rattle.law_typing_forms.specs.Said.{IsOneOf}
use Rattle.law_body_context.specs.Judged.{AreOf}
use Rattle.law_methods_bound.specs.Bound.{methods_of, IsThere}
use Rattle.law_builds_ruled.specs.ruled_laws.Ruled.{bound_types}
use Rattle.law_lists.proofs.Lists.{all_back, all_both, all_front}

module _ (P : QName → Type 0) where
  abbrev Starts : List Count → Type 0
  Starts cs = AllByRecursion (On P) (shape_starts cs)

  starts_front : (cs ds : List Count) → Starts (cs ++ ds) → Starts cs
  starts_front [] ds h = tt
  starts_front (Shapes t ∷ cs) ds h = (h.0, starts_front cs ds h.1)
  starts_front (Layouts t ∷ cs) ds h = starts_front cs ds h

  starts_back : (cs ds : List Count) → Starts (cs ++ ds) → Starts ds
  starts_back [] ds h = h
  starts_back (Shapes t ∷ cs) ds h = starts_back cs ds h.1
  starts_back (Layouts t ∷ cs) ds h = starts_back cs ds h

  -- ---- a procedure

  formal_on : (m : Mode) (t : TypeRef) → Starts (formal_counts (m, t)) → On P t
  formal_on mode.Value t h = h.0
  formal_on mode.Var t h = h.0

  parameters_on : (xs : List TypedParameter) → Starts (flat_map counts_of_parameter xs) → AllByRecursion (λ x. On P x.of) xs
  parameters_on [] h = tt
  parameters_on (x ∷ xs) h = (formal_on (mode_of x.passing) x.of (starts_front (counts_of_parameter x) (flat_map counts_of_parameter xs) h), parameters_on xs (starts_back (counts_of_parameter x) (flat_map counts_of_parameter xs) h))

  shapes_on : (ts : List TypeRef) → Starts (shapes ts) → AllByRecursion (On P) ts
  shapes_on [] h = tt
  shapes_on (t ∷ ts) h = (h.0, shapes_on ts h.1)

  params_on : (xs : List TypedParameter) (ks : List (Mode × TypeRef)) → AreOf xs ks → AllByRecursion (λ x. On P x.of) xs → AllByRecursion (On P) (each (λ k. k.1) ks)
  params_on [] [] a h = tt
  params_on [] (k ∷ ks) a h = absurd a
  params_on (x ∷ xs) [] a h = absurd a
  params_on (x ∷ xs) (k ∷ ks) a h = (subst (On P) a.0.0 h.0, params_on xs ks a.1 h.1)

  module _ (types : Map) where
    procedure_of : (ps : List TypedProcedure) → Starts (flat_map (counts_of_procedure types) (each procedure_view ps)) → (p : TypedProcedure) → IsOneOf ps p → Starts (counts_of_procedure types (procedure_view p))
    procedure_of [] h p i = absurd i
    procedure_of (x ∷ ps) h p (inl e) = subst (λ y. Starts (counts_of_procedure types (procedure_view y))) e (starts_front (counts_of_procedure types (procedure_view x)) (flat_map (counts_of_procedure types) (each procedure_view ps)) h)
    procedure_of (x ∷ ps) h p (inr i) = procedure_of ps (starts_back (counts_of_procedure types (procedure_view x)) (flat_map (counts_of_procedure types) (each procedure_view ps)) h) p i

    method_on : (ps : List TypedProcedure) → Starts (flat_map (counts_of_procedure types) (each procedure_view ps)) → (t : TypedType) (k : Method) → IsThere ps t k → AllByRecursion (On P) (signature_types k.signature)
    method_on ps h t k (inl e) = subst (λ (s : Signature). AllByRecursion (On P) (signature_types s)) (sym e) tt
    method_on ps h t k (inr r) =
        let a = flat_map counts_of_parameter r.p.parameters in
        let b = shapes (listed r.p.result) in
        let c = flat_map counts_of_variable r.p.locals in
        let d = counts_of_binding types r.p.binding in
        let all = procedure_of ps h r.p r.there in
        let ab = starts_front (a ++ b) c (starts_front (a ++ b ++ c) d (starts_front (a ++ b ++ c ++ d) (counts_of_all (stmts_view r.p.body)) all)) in
        let xs = subst (AllByRecursion (λ x. On P x.of)) r.parameters (parameters_on r.p.parameters (starts_front a b ab)) in
        let res = subst (λ (o : Option TypeRef). AllByRecursion (On P) (listed o)) r.result (shapes_on (listed r.p.result) (starts_back a b ab)) in
        all_both (On P) (each (λ k. k.1) k.signature.params) (listed k.signature.result) (params_on r.rest k.signature.params r.are (all_back (λ x. On P x.of) r.self r.rest xs)) res

    methods_on : (ps : List TypedProcedure) → Starts (flat_map (counts_of_procedure types) (each procedure_view ps)) → (t : TypedType) (ks : List Method) → AllByRecursion (IsThere ps t) ks → AllByRecursion (On P) (flat_map (λ k. signature_types k.signature) ks)
    methods_on ps h t [] g = tt
    methods_on ps h t (k ∷ ks) g = all_both (On P) (signature_types k.signature) (flat_map (λ k. signature_types k.signature) ks) (method_on ps h t k g.0) (methods_on ps h t ks g.1)

  -- ---- laid out

  numbered_on : (n : ℕ) (ks : List Method) → AllByRecursion (On P) (flat_map (λ k. signature_types k.signature) ks) → AllByRecursion (On P) (flat_map (λ k. signature_types k.signature) (numbered n ks))
  numbered_on n [] h = tt
  numbered_on n (k ∷ ks) h = all_both (On P) (signature_types k.signature) (flat_map (λ k. signature_types k.signature) (numbered (suc n) ks)) (all_front (On P) (signature_types k.signature) (flat_map (λ k. signature_types k.signature) ks) h) (numbered_on (suc n) ks (all_back (On P) (signature_types k.signature) (flat_map (λ k. signature_types k.signature) ks) h))

  laid_on : (w p : TypeRef → ℕ) (q : QName) (d : Desc) → AllByRecursion (On P) (flat_map (λ k. signature_types k.signature) (methods_of d)) → AllByRecursion (On P) (bound_types (laid_desc w p q d))
  laid_on w p q (desc.Record r) h = numbered_on (base_of p r.base) r.methods h
  laid_on w p q (desc.Const v) h = tt
  laid_on w p q (desc.Var m t) h = tt
  laid_on w p q (desc.Proc s) h = tt
  laid_on w p q (desc.Alias m t) h = tt
  laid_on w p q (desc.Array m n t) h = tt
  laid_on w p q (desc.OpenArray m t) h = tt
  laid_on w p q (desc.Pointer m t) h = tt
  laid_on w p q (desc.ProcType m s) h = tt

module _ (map : Map) (m : TypedModule) (view : Map) where
  abbrev laid : Module
  laid = laid_out map (module_view m)

  abbrev Near : QName → Type 0
  Near = IsNear view laid

  procedures_count : AllByRecursion (On Near) (shape_starts (flat_map (counts_of_procedure view) (each procedure_view m.procedures)))
  procedures_count =
      let all = all_on Near (shape_starts (counts_of_module view laid)) (λ q i. first i) in
      let c = counts_of_mentioned laid ++ flat_map (counts_of_type laid) laid.types ++ flat_map counts_of_variable laid.variables in
      let ps = flat_map (counts_of_procedure view) laid.procedures in
      starts_back Near c ps (starts_front Near (c ++ ps) (counts_of_all laid.body) all)

  types_bound : (ts : List TypedType) → AllByRecursion (λ t. AllByRecursion (IsThere m.procedures t) (methods_of t.desc)) ts → AllByRecursion (λ t. AllByRecursion (On Near) (bound_types t.desc)) (each (laid_type map (module_view m)) ts)
  types_bound [] h = tt
  types_bound (t ∷ ts) h = (laid_on Near (words_in map (module_view m)) (procedures_in map (module_view m)) (record { «module» = m.name; object = t.name }) t.desc (methods_on Near view m.procedures procedures_count t (methods_of t.desc) h.0), types_bound ts h.1)

  pub bound_near : AllByRecursion (λ t. AllByRecursion (IsThere m.procedures t) (methods_of t.desc)) m.types → AllByRecursion (λ t. AllByRecursion (On Near) (bound_types t.desc)) laid.types
  bound_near h = types_bound m.types h
