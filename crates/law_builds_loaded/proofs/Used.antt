-- A module that compiles uses the types of other modules alike, where the texts of its uses are met.
use Rattle.std.proofs.Common.{◌≡◌, List, [], ◌∷◌, ◌++◌, length, map as each, Option, Some, None, refl, sym, ap, subst, ◌∙◌}
use Rattle.std.specs.Prelude.{Bool, true, false, not, ◌&&◌, ◌||◌, bytes_eq, cond, codes, MatchOption, IsTrue, IsSome}
use Rattle.std.specs.Option.{option_map}
use Rattle.std.specs.List.{AllByRecursion, flat_map}
use Rattle.ob_tree.specs.declared.names.QName.{QName}
use Rattle.ob_types.specs.declared.types.Mode.{Mode}
use Rattle.ob_types.specs.declared.types.Mode.TheVariants as mode
use Rattle.ob_types.specs.declared.types.TypeRef.{TypeRef}
use Rattle.ob_types.specs.declared.types.TypeRef.TheVariants as ref
use Rattle.ob_types.specs.declared.desc.Desc.{Desc}
use Rattle.ob_types.specs.declared.desc.Desc.TheVariants as desc
use Rattle.ob_types.specs.declared.desc.Field.{Field}
use Rattle.ob_types.specs.declared.typed.TypedType.{TypedType}
use Rattle.ob_types.specs.declared.typed.TypedVariable.{TypedVariable}
use Rattle.ob_types.specs.declared.typed.TypedParameter.{TypedParameter}
use Rattle.ob_types.specs.AssigningTests.{described as is_described}
use Rattle.ob_types.specs.Maps.{is_type, listed, named_by, signature_types, IsHeld}
use Rattle.ob_types.specs.TypedSyntax.{Procedure, Module}
use Rattle.ob_meaning.specs.Values.{Program, description}
use Rattle.law_simulation_relation.proofs.Names.{bytes_same}
use Rattle.ob_desc.specs.Grammar.{seen}
use Rattle.ob_layout.specs.LaidOut.{type_named, is_own}
use Rattle.ob_env.specs.Faces.{Face, described, text_in}
use Rattle.ob_uses_roots.specs.Counts.{Count, Shapes, Layouts, shapes, both, mode_of, formal_counts, counts_of_parameter, counts_of_binding, own_name, counts_of_desc, counts_of_type, counts_of_variable, counts_of_procedure, counts_of_all, counts_of_mentioned, counts_of_module}
use Rattle.ob_uses_roots.specs.Noted.{names_of, shape_starts}
use Rattle.ob_uses.specs.declared.way.Way.TheVariants as way
use Rattle.ob_uses.specs.Closed.{is_among, of_found, reached_from}
use Rattle.ob_uses.specs.Made.{face_of_laid}
use Rattle.ob_uses.specs.Objects.{in_places}
use Rattle.ob_uses.specs.Reaching.{first, onward}
use Rattle.ob_uses.specs.Uses.{near_types, is_imported}
use Rattle.ob_uses.specs.Ways.{desc_leads, leads_by}
use Rattle.ob_uses.proofs.Searching.{exact_here}
use Rattle.ob_uses.proofs.Pairing.{all_enough}
use Rattle.law_local_files.specs.Agreeing.{IsNear, On, as_shape}
use Rattle.law_local_files.specs.Laws.{AreSpelled, HaveNoOut, AreMet}
use Rattle.law_local_files.proofs.Told.{all_on}
use Rattle.law_local_files.proofs.Agreed.{names_held, all_held, out_none, shapes_met}
use Rattle.law_typing_env.specs.Near.{core, IsUsed, AreUsed}
use Rattle.law_typing_env.specs.Near as declares
use Rattle.law_typing_env.specs.Ordered.{bare}
use Rattle.law_typing_env.proofs.Keeping.{core_bare}
use Rattle.law_typing_env.proofs.Ordered.{seen_bare}
use Rattle.ob_compile_model.specs.Compiling.{Compiled}
use Rattle.ob_builds.specs.Builds.{Text}
use Rattle.law_builds_ruled.specs.ruled_laws.Ruled.{types_of, bound_types, IsRuled}
use Rattle.law_lists.proofs.Lists.{all_both, all_front}

-- ---- lists and truths

both_true : (a b : Bool) → a && b ≡ true → (a ≡ true) × (b ≡ true)
both_true true b e = (refl, e)
both_true false b e = absurd cc

-- ---- what counts, part by part

starts_front : (P : QName → Type 0) (cs ds : List Count) → AllByRecursion (On P) (shape_starts (cs ++ ds)) → AllByRecursion (On P) (shape_starts cs)
starts_front P [] ds h = tt
starts_front P (Shapes t ∷ cs) ds h = (h.0, starts_front P cs ds h.1)
starts_front P (Layouts t ∷ cs) ds h = starts_front P cs ds h

starts_back : (P : QName → Type 0) (cs ds : List Count) → AllByRecursion (On P) (shape_starts (cs ++ ds)) → AllByRecursion (On P) (shape_starts ds)
starts_back P [] ds h = h
starts_back P (Shapes t ∷ cs) ds h = starts_back P cs ds h.1
starts_back P (Layouts t ∷ cs) ds h = starts_back P cs ds h

fields_count : (P : QName → Type 0) (fs : List Field) → AllByRecursion (On P) (shape_starts (flat_map (λ f. both f.of) fs)) → AllByRecursion (On P) (each (λ f. f.of) fs)
fields_count P [] h = tt
fields_count P (f ∷ fs) h = (h.0, fields_count P fs h.1)

variables_count : (P : QName → Type 0) (vs : List TypedVariable) → AllByRecursion (On P) (shape_starts (flat_map counts_of_variable vs)) → AllByRecursion (λ v. On P v.of) vs
variables_count P [] h = tt
variables_count P (v ∷ vs) h = (h.0, variables_count P vs h.1)

-- so are the types of the local variables of a procedure, and that of its result
abbrev pub IsInside : (TypeRef → Type 0) → Procedure → Type 0
IsInside P p = AllByRecursion (λ v. P v.of) p.locals × AllByRecursion P (listed p.result)

-- a type of another module as interfaces show it now, and as the program has it
pub record ShownNow (before : Program) (others : List (Face Text)) (m : Module) (near : QName → Bool) (q : QName) : Type 0 where
  pub x : Desc
  pub e : Desc
  pub of : described others q ≡ Some x
  pub has : description before q ≡ Some e
  pub alike : bare e ≡ bare x
  pub parts : AllByRecursion (declares.IsNear m near) (near_types x)

shape_near : (x d : Desc) → as_shape x ≡ as_shape d → near_types x ≡ near_types d
shape_near x d e = same x ∙ ap near_types e ∙ sym (same d)
  where
    same : (d : Desc) → near_types d ≡ near_types (as_shape d)
    same (desc.Const v) = refl
    same (desc.Var m t) = refl
    same (desc.Proc s) = refl
    same (desc.Alias m t) = refl
    same (desc.Array m n t) = refl
    same (desc.OpenArray m t) = refl
    same (desc.Pointer m t) = refl
    same (desc.ProcType m s) = refl
    same (desc.Record r) = refl

-- ---- a shape keeps the core

shape_type : (d : Desc) → is_type (as_shape d) ≡ is_type d
shape_type (desc.Const v) = refl
shape_type (desc.Var m t) = refl
shape_type (desc.Proc s) = refl
shape_type (desc.Alias m t) = refl
shape_type (desc.Array m n t) = refl
shape_type (desc.OpenArray m t) = refl
shape_type (desc.Pointer m t) = refl
shape_type (desc.ProcType m s) = refl
shape_type (desc.Record r) = refl

shape_core : (d : Desc) → core (as_shape d) ≡ core d
shape_core (desc.Const v) = refl
shape_core (desc.Var m t) = refl
shape_core (desc.Proc s) = refl
shape_core (desc.Alias m t) = refl
shape_core (desc.Array m n t) = refl
shape_core (desc.OpenArray m t) = refl
shape_core (desc.Pointer m t) = refl
shape_core (desc.ProcType m s) = refl
shape_core (desc.Record r) = refl

same_some : (d e : Desc) → Some d ≡ Some e → d ≡ e
same_some d e h = cc

-- what is near is named
pub near_named : (P : TypeRef → Type 0) (d : Desc) → is_type d ≡ true → AllByRecursion P (named_by d) → AllByRecursion P (near_types d)
near_named P (desc.Const v) ty h = absurd cc
near_named P (desc.Var m t) ty h = absurd cc
near_named P (desc.Proc s) ty h = absurd cc
near_named P (desc.Alias m t) ty h = h
near_named P (desc.Array m n t) ty h = h
near_named P (desc.OpenArray m t) ty h = h
near_named P (desc.Pointer m t) ty h = h
near_named P (desc.ProcType m s) ty h = h
near_named P (desc.Record r) ty h = all_front P (listed r.base) (each (λ f. f.of) r.fields) (all_front P (listed r.base ++ each (λ f. f.of) r.fields) (flat_map (λ m. signature_types m.signature) r.methods) h)

-- types of the module are found by their names
own_found : (m : Module) (t : TypedType) → type_named m.types t.name ≡ Some t.desc → (map : QName → Option Desc) → cond (is_own m (own_name m t)) (type_named m.types t.name) (map (own_name m t)) ≡ Some t.desc
own_found m t e map = ap (λ (b : Bool). cond b (type_named m.types t.name) (map (own_name m t))) (bytes_same m.name) ∙ e

module _ (c : Compiled Text) (ruled : IsRuled c) (found : AllByRecursion (λ t. type_named c.tree.types t.name ≡ Some t.desc) c.tree.types) (types_are : AllByRecursion (λ t. is_type t.desc ≡ true) c.tree.types) (spelled : AreSpelled c.against) (no_out : HaveNoOut c.against) (shows_is : c.shows ≡ face_of_laid (text_in c.against) c.against c.tree) where
  abbrev m : Module
  m = c.tree

  abbrev Near : QName → Type 0
  Near = IsNear (types_of c) c.tree

  abbrev starts : List QName
  starts = names_of (shape_starts (counts_of_module (types_of c) c.tree))

  abbrev reached : List QName
  reached = reached_from (leads_by way.Near (types_of c) c.tree.name) (length (names_held c.against c.tree)) (names_of (shape_starts (counts_of_module (types_of c) c.tree)))

  -- the types of other modules that count
  pub near : QName → Bool
  near q = is_imported c.tree q && (is_among reached q && is_described is_type (described c.against q))

  is_near : (q : QName) → is_among reached q ≡ true → Near q
  is_near q h = (exact_here (leads_by way.Near (types_of c) c.tree.name) starts (names_held c.against c.tree) (all_enough way.Near (types_of c) c.tree.name starts (names_held c.against c.tree) (all_held c.against c.tree)) q).0 h

  near_is : (q : QName) → Near q → is_among reached q ≡ true
  near_is q h = (exact_here (leads_by way.Near (types_of c) c.tree.name) starts (names_held c.against c.tree) (all_enough way.Near (types_of c) c.tree.name starts (names_held c.against c.tree) (all_held c.against c.tree)) q).1 h

  -- a type of another module that is there and counts
  foreign_near : (q : QName) → is_own c.tree q ≡ false → Near q → MatchOption (described c.against q) ⊥ (λ d. IsTrue (is_type d)) → near q ≡ true
  unfolding near
  foreign_near q own n h = by (described c.against q) refl h
    where
      by : (o : Option Desc) → described c.against q ≡ o → MatchOption o ⊥ (λ d. IsTrue (is_type d)) → is_imported c.tree q && (is_among reached q && is_described is_type (described c.against q)) ≡ true
      by None e h = absurd h
      by (Some d) e h = go (bytes_eq q.«module» (codes "Out")) refl
        where
          go : (b : Bool) → bytes_eq q.«module» (codes "Out") ≡ b → is_imported c.tree q && (is_among reached q && is_described is_type (described c.against q)) ≡ true
          go true i = let bad : None ≡ Some d = sym (out_none c.against no_out q i) ∙ e in absurd cc
          go false i =
              ap (λ (b : Bool). b && (is_among reached q && is_described is_type (described c.against q))) (ap (λ (b : Bool). not b && not (bytes_eq q.«module» (codes "Out"))) own ∙ ap not i)
              ∙ ap (λ (b : Bool). b && is_described is_type (described c.against q)) (near_is q n)
              ∙ ap (is_described is_type) e ∙ h

  -- what counts and is held is one of the module, or such a one
  pub held_near : (t : TypeRef) → On Near t → IsHeld (types_of c) t → declares.IsNear c.tree near t
  held_near (ref.Basic b) n h = tt
  held_near (ref.Named q) n h = by (is_own c.tree q) refl
    where
      by : (b : Bool) → is_own c.tree q ≡ b → (is_own c.tree q || near q) ≡ true
      by true e = ap (λ (b : Bool). b || near q) e
      by false e = ap (λ (b : Bool). b || near q) e ∙ foreign_near q e n (subst (λ (b : Bool). MatchOption (cond b (type_named c.tree.types q.object) (described c.against q)) ⊥ (λ d. IsTrue (is_type d))) e h)

  all_near : (ts : List TypeRef) → AllByRecursion (On Near) ts → AllByRecursion (λ t. IsHeld (types_of c) t) ts → AllByRecursion (declares.IsNear c.tree near) ts
  all_near [] n h = tt
  all_near (t ∷ ts) n h = (held_near t n.0 h.0, all_near ts n.1 h.1)

  -- what one that counts leads to counts
  pub leads_near : (q : QName) (d : Desc) → Near q → types_of c q ≡ Some d → AllByRecursion (On Near) (near_types d)
  leads_near q d n e = all_on Near (near_types d) (λ r i. onward n (ap (λ (o : Option Desc). is_among (of_found (desc_leads way.Near c.tree.name q) o) r) e ∙ i))

  -- ---- the types of the module

  named_near : (q : QName) (d : Desc) → Near q → types_of c q ≡ Some d → is_type d ≡ true → AllByRecursion (On Near) (shape_starts (counts_of_desc d)) → AllByRecursion (On Near) (bound_types d) → AllByRecursion (On Near) (named_by d)
  named_near q (desc.Const v) n e ty on bound = absurd cc
  named_near q (desc.Var k t) n e ty on bound = absurd cc
  named_near q (desc.Proc s) n e ty on bound = absurd cc
  named_near q (desc.Alias k t) n e ty on bound = leads_near q (desc.Alias k t) n e
  named_near q (desc.Array k l t) n e ty on bound = leads_near q (desc.Array k l t) n e
  named_near q (desc.OpenArray k t) n e ty on bound = leads_near q (desc.OpenArray k t) n e
  named_near q (desc.Pointer k t) n e ty on bound = leads_near q (desc.Pointer k t) n e
  named_near q (desc.ProcType k s) n e ty on bound = leads_near q (desc.ProcType k s) n e
  named_near q (desc.Record r) n e ty on bound =
      all_both (On Near) (listed r.base ++ each (λ f. f.of) r.fields) (flat_map (λ m. signature_types m.signature) r.methods)
      (all_both (On Near) (listed r.base) (each (λ f. f.of) r.fields) (leads_near q (desc.Record r) n e) (fields_count Near r.fields (starts_back Near (flat_map both (listed r.base)) (flat_map (λ f. both f.of) r.fields) on)))
      bound

  types_near : (ts : List TypedType) → AllByRecursion (λ t. type_named c.tree.types t.name ≡ Some t.desc) ts → AllByRecursion (λ t. is_type t.desc ≡ true) ts → AllByRecursion (λ t. AllByRecursion (On Near) (bound_types t.desc)) ts → AllByRecursion (On Near) (shape_starts (flat_map (counts_of_type c.tree) ts)) → AllByRecursion (λ t. AllByRecursion (declares.IsNear c.tree near) (named_by t.desc)) ts
  types_near [] f ty bound on = tt
  types_near (t ∷ ts) f ty bound on =
      let e : types_of c (own_name c.tree t) ≡ Some t.desc = own_found c.tree t f.0 (described c.against) in
      let a = starts_front Near (counts_of_type c.tree t) (flat_map (counts_of_type c.tree) ts) on in
      (all_near (named_by t.desc) (named_near (own_name c.tree t) t.desc a.0 e ty.0 a.1 bound.0) (ruled.grounded.held (own_name c.tree t) t.desc e), types_near ts f.1 ty.1 bound.1 (starts_back Near (counts_of_type c.tree t) (flat_map (counts_of_type c.tree) ts) on))

  -- what they name counts
  types_on : (ts : List TypedType) → AllByRecursion (λ t. type_named c.tree.types t.name ≡ Some t.desc) ts → AllByRecursion (λ t. is_type t.desc ≡ true) ts → AllByRecursion (λ t. AllByRecursion (On Near) (bound_types t.desc)) ts → AllByRecursion (On Near) (shape_starts (flat_map (counts_of_type c.tree) ts)) → AllByRecursion (λ t. Near (own_name c.tree t) × AllByRecursion (On Near) (named_by t.desc)) ts
  types_on [] f ty bound on = tt
  types_on (t ∷ ts) f ty bound on =
      let e : types_of c (own_name c.tree t) ≡ Some t.desc = own_found c.tree t f.0 (described c.against) in
      let a = starts_front Near (counts_of_type c.tree t) (flat_map (counts_of_type c.tree) ts) on in
      ((a.0, named_near (own_name c.tree t) t.desc a.0 e ty.0 a.1 bound.0), types_on ts f.1 ty.1 bound.1 (starts_back Near (counts_of_type c.tree t) (flat_map (counts_of_type c.tree) ts) on))

  abbrev c1 : List Count
  c1 = counts_of_mentioned c.tree

  abbrev c2 : List Count
  c2 = flat_map (counts_of_type c.tree) c.tree.types

  abbrev c3 : List Count
  c3 = flat_map counts_of_variable c.tree.variables

  abbrev c4 : List Count
  c4 = flat_map (counts_of_procedure (types_of c)) c.tree.procedures

  counted : AllByRecursion (On Near) (shape_starts (c1 ++ c2 ++ c3))
  counted = starts_front Near (c1 ++ c2 ++ c3) c4 (starts_front Near (c1 ++ c2 ++ c3 ++ c4) (counts_of_all c.tree.body) (all_on Near (shape_starts (counts_of_module (types_of c) c.tree)) (λ q i. first i)))

  own_near : AllByRecursion (λ t. AllByRecursion (declares.IsNear c.tree near) (named_by t.desc)) c.tree.types
  own_near = types_near c.tree.types found types_are ruled.bound (starts_back Near c1 c2 (starts_front Near (c1 ++ c2) c3 counted))

  pub own_on : AllByRecursion (λ t. Near (own_name c.tree t) × AllByRecursion (On Near) (named_by t.desc)) c.tree.types
  own_on = types_on c.tree.types found types_are ruled.bound (starts_back Near c1 c2 (starts_front Near (c1 ++ c2) c3 counted))

  -- the types of its variables
  pub variables_on : AllByRecursion (λ v. On Near v.of) c.tree.variables
  variables_on = variables_count Near c.tree.variables (starts_back Near (c1 ++ c2) c3 counted)

  near_variables : (vs : List TypedVariable) → AllByRecursion (λ v. On Near v.of) vs → AllByRecursion (λ v. IsHeld (types_of c) v.of) vs → AllByRecursion (λ v. declares.IsNear c.tree near v.of) vs
  near_variables [] n h = tt
  near_variables (v ∷ vs) n h = (held_near v.of n.0 h.0, near_variables vs n.1 h.1)

  pub variables_near : AllByRecursion (λ v. declares.IsNear c.tree near v.of) c.tree.variables
  variables_near = near_variables c.tree.variables variables_on ruled.variables

  -- the types of the parameters of its procedures
  formal_count : (k : Mode) (t : TypeRef) → AllByRecursion (On Near) (shape_starts (formal_counts (k, t))) → On Near t
  formal_count mode.Value t h = h.0
  formal_count mode.Var t h = h.0

  parameters_count : (xs : List TypedParameter) → AllByRecursion (On Near) (shape_starts (flat_map counts_of_parameter xs)) → AllByRecursion (λ x. On Near x.of) xs
  parameters_count [] h = tt
  parameters_count (x ∷ xs) h = (formal_count (mode_of x.passing) x.of (starts_front Near (counts_of_parameter x) (flat_map counts_of_parameter xs) h), parameters_count xs (starts_back Near (counts_of_parameter x) (flat_map counts_of_parameter xs) h))

  procedures_count : (ps : List Procedure) → AllByRecursion (On Near) (shape_starts (flat_map (counts_of_procedure (types_of c)) ps)) → AllByRecursion (λ p. AllByRecursion (λ x. On Near x.of) p.parameters) ps
  procedures_count [] h = tt
  procedures_count (p ∷ ps) h =
      let a = flat_map counts_of_parameter p.parameters in
      let b = shapes (listed p.result) in
      let k = flat_map counts_of_variable p.locals in
      let l = counts_of_binding (types_of c) p.binding in
      let one = starts_front Near (counts_of_procedure (types_of c) p) (flat_map (counts_of_procedure (types_of c)) ps) h in
      (parameters_count p.parameters (starts_front Near a b (starts_front Near (a ++ b) k (starts_front Near (a ++ b ++ k) l (starts_front Near (a ++ b ++ k ++ l) (counts_of_all p.body) one)))), procedures_count ps (starts_back Near (counts_of_procedure (types_of c) p) (flat_map (counts_of_procedure (types_of c)) ps) h))

  pub parameters_near : AllByRecursion (λ p. AllByRecursion (λ x. On Near x.of) p.parameters) c.tree.procedures
  parameters_near = procedures_count c.tree.procedures (starts_back Near (c1 ++ c2 ++ c3) c4 (starts_front Near (c1 ++ c2 ++ c3 ++ c4) (counts_of_all c.tree.body) (all_on Near (shape_starts (counts_of_module (types_of c) c.tree)) (λ q i. first i))))

  -- the types of their local variables and results
  results_count : (ts : List TypeRef) → AllByRecursion (On Near) (shape_starts (shapes ts)) → AllByRecursion (On Near) ts
  results_count [] h = tt
  results_count (t ∷ ts) h = (h.0, results_count ts h.1)

  insides_count : (ps : List Procedure) → AllByRecursion (On Near) (shape_starts (flat_map (counts_of_procedure (types_of c)) ps)) → AllByRecursion (IsInside (On Near)) ps
  insides_count [] h = tt
  insides_count (p ∷ ps) h =
      let a = flat_map counts_of_parameter p.parameters in
      let b = shapes (listed p.result) in
      let k = flat_map counts_of_variable p.locals in
      let l = counts_of_binding (types_of c) p.binding in
      let one = starts_front Near (counts_of_procedure (types_of c) p) (flat_map (counts_of_procedure (types_of c)) ps) h in
      let first = starts_front Near (a ++ b ++ k) l (starts_front Near (a ++ b ++ k ++ l) (counts_of_all p.body) one) in
      ((variables_count Near p.locals (starts_back Near (a ++ b) k first), results_count (listed p.result) (starts_back Near a b (starts_front Near (a ++ b) k first))), insides_count ps (starts_back Near (counts_of_procedure (types_of c) p) (flat_map (counts_of_procedure (types_of c)) ps) h))

  pub insides_near : AllByRecursion (IsInside (On Near)) c.tree.procedures
  insides_near = insides_count c.tree.procedures (starts_back Near (c1 ++ c2 ++ c3) c4 (starts_front Near (c1 ++ c2 ++ c3 ++ c4) (counts_of_all c.tree.body) (all_on Near (shape_starts (counts_of_module (types_of c) c.tree)) (λ q i. first i))))

  -- ---- over other interfaces, which show what the modules before declare

  module _ (before : Program) (others : List (Face Text)) (spelled_too : AreSpelled others) (no_out_too : HaveNoOut others) (met : AreMet others c.shows.uses) (show : (q : QName) (d : Desc) → described others q ≡ Some d → is_type d ≡ true → (e : Desc) × ((description before q ≡ Some e) × (seen (in_places e) ≡ d))) where
    alike : (q : QName) (d : Desc) → is_own c.tree q ≡ false → Near q → described c.against q ≡ Some d → is_type d ≡ true → (e : Desc) × ((description before q ≡ Some e) × (core e ≡ core d))
    alike q d own n e ty = by (described others q) refl (sym (shapes_met c.against others c.tree spelled spelled_too no_out no_out_too (subst (λ (f : Face Text). AreMet others f.uses) shows_is met) q n (λ i. subst IsSome (sym e) refl) own) ∙ ap (option_map as_shape) e)
      where
        by : (o : Option Desc) → described others q ≡ o → option_map as_shape o ≡ Some (as_shape d) → (e : Desc) × ((description before q ≡ Some e) × (core e ≡ core d))
        by None i h = absurd cc
        by (Some x) i h =
            let k : as_shape x ≡ as_shape d = same_some (as_shape x) (as_shape d) h in
            let s = show q x i (sym (shape_type x) ∙ ap is_type k ∙ shape_type d ∙ ty) in
            (s.0, (s.1.0, sym (core_bare s.0) ∙ ap core (seen_bare s.0 x s.1.1) ∙ core_bare x ∙ sym (shape_core x) ∙ ap core k ∙ shape_core d))

    used_at : (q : QName) → is_own c.tree q ≡ false → near q ≡ true → IsUsed before c.tree (described c.against) near q
    unfolding near
    used_at q own i =
        let h = both_true (is_imported c.tree q) (is_among reached q && is_described is_type (described c.against q)) i in
        let k = both_true (is_among reached q) (is_described is_type (described c.against q)) h.1 in
        by (described c.against q) refl k.0 k.1
      where
        by : (o : Option Desc) → described c.against q ≡ o → is_among reached q ≡ true → is_described is_type (described c.against q) ≡ true → IsUsed before c.tree (described c.against) near q
        by None e there kind = let bad : false ≡ true = sym (ap (is_described is_type) e) ∙ kind in absurd cc
        by (Some d) e there kind =
            let ty : is_type d ≡ true = sym (ap (is_described is_type) e) ∙ kind in
            let n = is_near q there in
            let a = alike q d own n e ty in
            let v : types_of c q ≡ Some d = ap (λ (b : Bool). cond b (type_named c.tree.types q.object) (described c.against q)) own ∙ e in
            record {
              d = d;
              e = a.0;
              of = e;
              type = ty;
              has = a.1.0;
              alike = a.1.1;
              parts = all_near (near_types d) (leads_near q d n v) (near_named (λ t. IsHeld (types_of c) t) d ty (ruled.grounded.held q d v));
            }

    pub are_used : AreUsed before c.tree (described c.against) near
    are_used = record { own = own_near; others = used_at }

    reached_at : (q : QName) → near q ≡ true → is_among reached q ≡ true
    unfolding near
    reached_at q i = (both_true (is_among reached q) (is_described is_type (described c.against q)) (both_true (is_imported c.tree q) (is_among reached q && is_described is_type (described c.against q)) i).1).0

    pub shown_now : (q : QName) → is_own c.tree q ≡ false → near q ≡ true → ShownNow before others c.tree near q
    shown_now q own i =
        let u = used_at q own i in
        by u (described others q) refl (sym (shapes_met c.against others c.tree spelled spelled_too no_out no_out_too (subst (λ (f : Face Text). AreMet others f.uses) shows_is met) q (is_near q (reached_at q i)) (λ j. subst IsSome (sym u.of) refl) own) ∙ ap (option_map as_shape) u.of)
      where
        by : (u : IsUsed before c.tree (described c.against) near q) (o : Option Desc) → described others q ≡ o → option_map as_shape o ≡ Some (as_shape u.d) → ShownNow before others c.tree near q
        by u None j h = absurd cc
        by u (Some x) j h =
            let k : as_shape x ≡ as_shape u.d = same_some (as_shape x) (as_shape u.d) h in
            let s = show q x j (sym (shape_type x) ∙ ap is_type k ∙ shape_type u.d ∙ u.type) in
            record { x = x; e = s.0; of = j; has = s.1.0; alike = seen_bare s.0 x s.1.1; parts = subst (AllByRecursion (declares.IsNear c.tree near)) (sym (shape_near x u.d k)) u.parts }
