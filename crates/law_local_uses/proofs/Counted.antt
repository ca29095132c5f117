-- What counts in a module that is held is held.
use Rattle.std.proofs.Common.{◌≡◌, ℕ, zero, suc, List, [], ◌∷◌, ◌++◌, Bool, true, false, cond, Option, Some, None, map as each, refl}
use Rattle.std.specs.Prelude.{bytes_eq}
use Rattle.std.specs.List.{AllByRecursion, flat_map}
use Rattle.ob_tree.specs.declared.names.QName.{QName}
use Rattle.ob_types.specs.declared.types.Mode.{Mode}
use Rattle.ob_types.specs.declared.types.Mode.TheVariants as mode
use Rattle.ob_types.specs.declared.types.TypeRef.{TypeRef}
use Rattle.ob_types.specs.declared.types.TypeRef.TheVariants as ref
use Rattle.ob_types.specs.declared.desc.Desc.{Desc}
use Rattle.ob_types.specs.declared.desc.Desc.TheVariants as desc
use Rattle.ob_types.specs.declared.desc.Field.{Field}
use Rattle.ob_types.specs.declared.desc.Method.{Method}
use Rattle.ob_types.specs.declared.typed.Binding.{Binding}
use Rattle.ob_types.specs.declared.typed.Designator.{Designator}
use Rattle.ob_types.specs.declared.typed.TypedType.{TypedType}
use Rattle.ob_types.specs.declared.typed.TypedParameter.{TypedParameter}
use Rattle.ob_types.specs.declared.typed.TypedVariable.{TypedVariable}
use Rattle.ob_types.specs.declared.typed.TypedProcedure.{TypedProcedure}
use Rattle.ob_types.specs.declared.typed.TypedModule.{TypedModule}
use Rattle.ob_types.specs.TypedSyntax.{Module}
use Rattle.ob_types.specs.TypedView.{designator_view, stmts_view, procedure_view, module_view}
use Rattle.ob_types.specs.Maps.{listed, signature_types}
use Rattle.ob_layout.specs.Lists.{or_else}
use Rattle.ob_layout.specs.Members.{method_named, method_in_record, from_base, nearest_in, nearest, method_in}
use Rattle.ob_uses_roots.specs.Counts.{Count, Shapes, Layouts, shapes, both, mode_of, counts_of_designator, formal_counts, counts_of_desc, counts_of_type, counts_of_variable, counts_of_parameter, counts_of_method, counts_of_binding, counts_of_procedure, counts_of_mentioned, counts_of_all, counts_of_module}
use Rattle.law_local_judged.specs.Agreement.{IsIn, AreIn}
use Rattle.law_local_judged.specs.Said.{CountsIn, DesignatorIn}
use Rattle.law_local_judged.proofs.Near.{left_in, right_in}
use Rattle.law_local_uses.specs.Settled.{NamesIn}
use Rattle.law_local_uses.specs.Held.{ProcedureHeld, ModuleHeld}
use Rattle.law_lists.proofs.Lists.{IfThere}

module _ (P : QName → Type 0) where
  abbrev In : TypeRef → Type 0
  In t = IsIn P t

  abbrev C : List Count → Type 0
  C cs = CountsIn P cs

  join : (cs ds : List Count) → C cs → C ds → C (cs ++ ds)
  join [] ds h g = g
  join (Shapes t ∷ cs) ds h g = (h.0, join cs ds h.1 g)
  join (Layouts t ∷ cs) ds h g = join cs ds h g

  shapes_count : (ts : List TypeRef) → AreIn P ts → C (shapes ts)
  shapes_count [] h = tt
  shapes_count (t ∷ ts) h = (h.0, shapes_count ts h.1)

  all_count : {A : Type 0} (Q : A → Type 0) (f : A → List Count) → ((x : A) → Q x → C (f x)) → (xs : List A) → AllByRecursion Q xs → C (flat_map f xs)
  all_count Q f g [] h = tt
  all_count Q f g (x ∷ xs) h = join (f x) (flat_map f xs) (g x h.0) (all_count Q f g xs h.1)

  formal_count : (m : Mode) (t : TypeRef) → In t → C (formal_counts (m, t))
  formal_count mode.Value t h = (h, tt)
  formal_count mode.Var t h = (h, tt)

  params_count : (ps : List (Mode × TypeRef)) → AreIn P (each (λ p. p.1) ps) → C (flat_map formal_counts ps)
  params_count [] h = tt
  params_count (p ∷ ps) h = join (formal_counts p) (flat_map formal_counts ps) (formal_count p.0 p.1 h.0) (params_count ps h.1)

  fields_count : (fs : List Field) → AreIn P (each (λ f. f.of) fs) → C (flat_map (λ f. both f.of) fs)
  fields_count [] h = tt
  fields_count (f ∷ fs) h = join (both f.of) (flat_map (λ f. both f.of) fs) (h.0, tt) (fields_count fs h.1)

  both_count : (ts : List TypeRef) → AreIn P ts → C (flat_map both ts)
  both_count [] h = tt
  both_count (t ∷ ts) h = join (both t) (flat_map both ts) (h.0, tt) (both_count ts h.1)

  desc_count : (d : Desc) → NamesIn P d → C (counts_of_desc d)
  desc_count (desc.Array m n t) h = (h.0, tt)
  desc_count (desc.OpenArray m t) h = (h.0, tt)
  desc_count (desc.ProcType m s) h = join (flat_map formal_counts s.params) (shapes (listed s.result)) (params_count s.params (left_in P (each (λ p. p.1) s.params) (listed s.result) h)) (shapes_count (listed s.result) (right_in P (each (λ p. p.1) s.params) (listed s.result) h))
  desc_count (desc.Record r) h =
      let front = left_in P (listed r.base ++ each (λ f. f.of) r.fields) (flat_map (λ m. signature_types m.signature) r.methods) h in
      join (flat_map both (listed r.base)) (flat_map (λ f. both f.of) r.fields) (both_count (listed r.base) (left_in P (listed r.base) (each (λ f. f.of) r.fields) front)) (fields_count r.fields (right_in P (listed r.base) (each (λ f. f.of) r.fields) front))
  desc_count (desc.Const v) h = tt
  desc_count (desc.Var m t) h = tt
  desc_count (desc.Proc s) h = tt
  desc_count (desc.Alias m t) h = tt
  desc_count (desc.Pointer m t) h = tt

  -- ---- bound procedures that are redefined

  module _ (map : QName → Option Desc) (named : (q : QName) (d : Desc) → map q ≡ Some d → NamesIn P d) where
    abbrev MethodIn : Option Method → Type 0
    MethodIn o = IfThere (λ m. AreIn P (signature_types m.signature)) o

    method_if : (b : Bool) (m : Method) (o : Option Method) → AreIn P (signature_types m.signature) → MethodIn o → MethodIn (cond b (Some m) o)
    method_if true m o h g = h
    method_if false m o h g = g

    of_methods : (x : List ℕ) (ms : List Method) → AreIn P (flat_map (λ m. signature_types m.signature) ms) → MethodIn (method_named x ms)
    of_methods x [] h = tt
    of_methods x (m ∷ ms) h = method_if (bytes_eq x m.name) m (method_named x ms) (left_in P (signature_types m.signature) (flat_map (λ m. signature_types m.signature) ms) h) (of_methods x ms (right_in P (signature_types m.signature) (flat_map (λ m. signature_types m.signature) ms) h))

    or_base : (o p : Option Method) → MethodIn o → MethodIn p → MethodIn (or_else o p)
    or_base None p h g = g
    or_base (Some m) p h g = h

    from_in : (up : TypeRef → Option Method) → ((t : TypeRef) → MethodIn (up t)) → (o : Option TypeRef) → MethodIn (from_base up o)
    from_in up h None = tt
    from_in up h (Some t) = h t

    desc_in : (x : List ℕ) (up : TypeRef → Option Method) → ((t : TypeRef) → MethodIn (up t)) → (o : Option Desc) → ((d : Desc) → o ≡ Some d → NamesIn P d) → MethodIn (nearest_in (method_in_record x) up o)
    desc_in x up h (Some (desc.Alias m t)) n = h t
    desc_in x up h (Some (desc.Record r)) n = or_base (method_named x r.methods) (from_base up r.base) (of_methods x r.methods (right_in P (listed r.base ++ each (λ f. f.of) r.fields) (flat_map (λ m. signature_types m.signature) r.methods) (n (desc.Record r) refl))) (from_in up h r.base)
    desc_in x up h None n = tt
    desc_in x up h (Some (desc.Const v)) n = tt
    desc_in x up h (Some (desc.Var m t)) n = tt
    desc_in x up h (Some (desc.Proc s)) n = tt
    desc_in x up h (Some (desc.Array m l t)) n = tt
    desc_in x up h (Some (desc.OpenArray m t)) n = tt
    desc_in x up h (Some (desc.Pointer m t)) n = tt
    desc_in x up h (Some (desc.ProcType m s)) n = tt

    nearest_held : (x : List ℕ) (n : ℕ) (t : TypeRef) → MethodIn (nearest (method_in_record x) map n t)
    nearest_held x zero t = tt
    nearest_held x (suc n) (ref.Basic b) = tt
    nearest_held x (suc n) (ref.Named q) = desc_in x (nearest (method_in_record x) map n) (λ t. nearest_held x n t) (map q) (λ d e. named q d e)

    method_count : (o : Option Method) → MethodIn o → C (counts_of_method o)
    method_count None h = tt
    method_count (Some m) h = shapes_count (signature_types m.signature) h

    binding_count : (o : Option Binding) → C (counts_of_binding map o)
    binding_count None = tt
    binding_count (Some b) = method_count (method_in map b.family.owner b.family.name) (nearest_held b.family.name 201 (ref.Named b.family.owner))

    -- ---- the parts of a module

    procedure_count : (unit : List ℕ) (view : QName → Option Desc) (Own : QName → Type 0) (p : TypedProcedure) → ProcedureHeld view unit Own P p → C (counts_of_procedure map (procedure_view p))
    procedure_count unit view Own p h =
        let a = flat_map counts_of_parameter p.parameters in
        let b = shapes (listed p.result) in
        let c = flat_map counts_of_variable p.locals in
        let d = counts_of_binding map p.binding in
        join (a ++ b ++ c ++ d) (counts_of_all (stmts_view p.body))
        (join (a ++ b ++ c) d
        (join (a ++ b) c (join a b (all_count (λ (x : TypedParameter). In x.of) counts_of_parameter (λ x k. formal_count (mode_of x.passing) x.of k) p.parameters h.parameters) (shapes_count (listed p.result) h.result)) (all_count (λ (x : TypedVariable). In x.of) counts_of_variable (λ x k. (k, tt)) p.locals h.locals))
        (binding_count p.binding))
        h.body.held

    procedures_count : (unit : List ℕ) (view : QName → Option Desc) (Own : QName → Type 0) (ps : List TypedProcedure) → AllByRecursion (ProcedureHeld view unit Own P) ps → C (flat_map (counts_of_procedure map) (each procedure_view ps))
    procedures_count unit view Own [] h = tt
    procedures_count unit view Own (p ∷ ps) h = join (counts_of_procedure map (procedure_view p)) (flat_map (counts_of_procedure map) (each procedure_view ps)) (procedure_count unit view Own p h.0) (procedures_count unit view Own ps h.1)

    objects_count : (qs : List QName) → AllByRecursion P qs → C (each (λ q. Shapes (ref.Named q)) qs)
    objects_count [] h = tt
    objects_count (q ∷ qs) h = (h.0, objects_count qs h.1)

    lengths_count : (ds : List Designator) → AllByRecursion (DesignatorIn P) ds → C (flat_map counts_of_designator (each designator_view ds))
    lengths_count [] h = tt
    lengths_count (x ∷ ds) h = join (counts_of_designator (designator_view x)) (flat_map counts_of_designator (each designator_view ds)) h.0 (lengths_count ds h.1)

    types_count : (n : Module) → ((x : List ℕ) → P (record { «module» = n.name; object = x })) → (ts : List TypedType) → AllByRecursion (λ t. NamesIn P t.desc) ts → C (flat_map (counts_of_type n) ts)
    types_count n own ts h = all_count (λ t. NamesIn P t.desc) (counts_of_type n) (λ t k. (own t.name, desc_count t.desc k)) ts h

    -- WHAT COUNTS IN A MODULE, whatever its types are described by
    pub module_count : (view : QName → Option Desc) (Own : QName → Type 0) (m : TypedModule) → ModuleHeld view Own P m → ((x : List ℕ) → P (record { «module» = m.name; object = x })) → (ts : List TypedType) → AllByRecursion (λ t. NamesIn P t.desc) ts → C (counts_of_module map (record (module_view m) { types = ts }))
    module_count view Own m h own ts named =
        let n : Module = record (module_view m) { types = ts } in
        let a = counts_of_mentioned n in
        let b = flat_map (counts_of_type n) ts in
        let c = flat_map counts_of_variable m.variables in
        let d = flat_map (counts_of_procedure map) (each procedure_view m.procedures) in
        let objects = each (λ q. Shapes (ref.Named q)) m.mentioned.objects in
        join (a ++ b ++ c ++ d) (counts_of_all (stmts_view m.body))
        (join (a ++ b ++ c) d
        (join (a ++ b) c
        (join a b (join (objects ++ shapes m.mentioned.types) (flat_map counts_of_designator (each designator_view m.mentioned.lengths)) (join objects (shapes m.mentioned.types) (objects_count m.mentioned.objects h.objects) (shapes_count m.mentioned.types h.named)) (lengths_count m.mentioned.lengths h.lengths)) (types_count n own ts named))
        (all_count (λ (x : TypedVariable). In x.of) counts_of_variable (λ x k. (k, tt)) m.variables h.variables))
        (procedures_count m.name view Own m.procedures h.procedures))
        h.body.held
