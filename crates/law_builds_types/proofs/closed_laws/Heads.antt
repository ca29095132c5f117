-- In the descriptions that a module was compiled with, what its procedures take and give are types, and results are neither records nor arrays.
use Rattle.std.proofs.Common.{◌≡◌, refl, sym, ap, ◌∙◌, subst, ℕ, zero, suc, true, false, List, [], ◌∷◌, map as each, Option, Some, None}
use Rattle.std.specs.Prelude.{◌||◌, bytes_eq, is_some, MatchOption, IfSome, IsTrue}
use Rattle.std.specs.List.{AllByRecursion}
use Rattle.std.proofs.lemmas.Bool.{false≢true}
use Rattle.ob_tree.specs.declared.names.QName.{QName}
use Rattle.ob_tree.specs.declared.ident.Mark.{Mark}
use Rattle.ob_types.specs.declared.types.TypeRef.{TypeRef}
use Rattle.ob_types.specs.declared.types.TypeRef.TheVariants as ref
use Rattle.ob_types.specs.declared.desc.Desc.{Desc}
use Rattle.ob_types.specs.declared.desc.Desc.TheVariants as desc
use Rattle.ob_types.specs.declared.typed.TypedType.{TypedType}
use Rattle.ob_types.specs.declared.typed.TypedParameter.{TypedParameter}
use Rattle.ob_types.specs.declared.typed.TypedProcedure.{TypedProcedure}
use Rattle.ob_types.specs.declared.typed.TypedModule.{TypedModule}
use Rattle.ob_types.specs.Maps.{is_type, listed, stands_on, IsHeld, IsWithin}
use Rattle.ob_types.specs.Relations.{StandsFor, itself, equated, Is, is_structure, IsGrounded}
use Rattle.ob_types.specs.Tests.{target_of, follow, target, shape_at}
use Rattle.ob_types.specs.TypedSyntax.{Module}
use Rattle.ob_types.specs.TypedView.{procedure_view, module_view}
use Rattle.ob_layout.specs.LaidOut.{laid_out, viewed}
use Rattle.ob_env.specs.Faces.{Face, described}
use Rattle.ob_env.specs.Shown.{shown}
use Rattle.ob_rules.specs.Shapes.{array_at, record_at, is_structured}
use Rattle.ob_rules.specs.Names.{Around, map_of}
use Rattle.ob_uses.specs.Objects.{formal_of}
use Rattle.ob_compile_model.specs.Compiling.{Compiled}
use Rattle.law_names_distinct.specs.Distinct.{AreDistinct}
use Rattle.law_methods_described.proofs.Blocks.{types_described}
use Rattle.law_spelling_read.proofs.Trees.{readings_spelled}
use Rattle.law_local_files.specs.Laws.{HaveNoOut}
use Rattle.law_typing_forms.specs.Said.{IsOneOf}
use Rattle.law_body_context.specs.Knows.{Stands}
use Rattle.law_typing_env.proofs.Keeping.{structure_kind}
use Rattle.ob_builds.specs.Builds.{Text}
use Rattle.law_local.proofs.Compiled.{ComesOf, comes_of, checked_name, apart_of}
use Rattle.law_program_names.proofs.Different.{build_comes}
use Rattle.law_program_names.proofs.Grounded.{against_is_grounded}
use Rattle.law_builds_ruled.specs.ruled_laws.Variables.{AliasStands, IsSameType}
use Rattle.law_builds_ruled.specs.ruled_laws.Ruled.{types_of}
use Rattle.law_builds_ruled.proofs.ruled_laws.Builds.{names_laid}
use Rattle.law_builds_ruled.proofs.ruled_laws.Closed as standing
use Rattle.law_builds_ruled.proofs.ruled_laws.Shut.{target_own}
use Rattle.law_builds_ruled.specs.passed_laws.Passed.{IsPassedWell, IsPlainWell, ProcedureIsWell}
use Rattle.law_builds_ruled.proofs.passed_laws.Modules.{parameters_passed}
use Rattle.law_builds_types.specs.closed_laws.Closed.{IsHeadRuled, HeadsRuled}
use Rattle.law_builds_types.proofs.closed_laws.Kept.{structure_own}
use Rattle.law_lists.proofs.Lists.{all_both, all_each}

structured : (q : QName) (d : Desc) → is_structure d ≡ true → (is_some (array_at (Some d)) || is_some (record_at (ref.Named q) (Some d))) ≡ true
structured q (desc.Array m n t) h = refl
structured q (desc.OpenArray m t) h = refl
structured q (desc.Record r) h = refl
structured q (desc.Const v) h = h
structured q (desc.Var m t) h = h
structured q (desc.Proc s) h = h
structured q (desc.Alias m t) h = h
structured q (desc.Pointer m t) h = h
structured q (desc.ProcType m s) h = h

module _ (faces : List (Face Text)) (m : TypedModule) (types_are : AllByRecursion (λ t. is_type t.desc ≡ true) m.types) (differ : AreDistinct (λ t. t.name) m.types) (outside : IsGrounded (described faces)) (apart : AllByRecursion (λ f. bytes_eq f.«module» m.name ≡ false) faces) (no_out : HaveNoOut faces) where
  abbrev V : QName → Option Desc
  V = viewed (described faces) (laid_out (described faces) (module_view m))

  within_next : (n : ℕ) (q : QName) (k : Mark) (t : TypeRef) → V q ≡ Some (desc.Alias k t) → IsWithin V (suc n) (ref.Named q) → IsWithin V n t
  unfolding IsWithin
  within_next n q k t e h = (subst (λ o. MatchOption o ⊥ (λ d. IsTrue (is_type d) × AllByRecursion (λ t. IsWithin V n t) (stands_on d))) e h).1.0

  within_none : (q : QName) → IsWithin V zero (ref.Named q) → ⊥
  unfolding IsWithin
  within_none q h = h

  module _ (w : Around) (unit_is : w.unit ≡ m.name) (shown_is : w.shown ≡ shown faces) (aliases : AllByRecursion (λ s. AliasStands m.name (shown faces) w.own s.desc) w.own) (told : (t : TypedType) → IsOneOf w.own t → IsSameType m.types t) where
    abbrev S : TypeRef → Type 0
    S t = Stands m.name (shown faces) w.own t

    -- an array or a record, as it is tested
    abbrev IsOne : TypeRef → Type 0
    IsOne t = (is_some (array_at (shape_at (map_of w) t)) || is_some (record_at t (shape_at (map_of w) t))) ≡ true

    step : (n : ℕ) (q : QName) (k : Mark) (t : TypeRef) → map_of w q ≡ Some (desc.Alias k t) → target (map_of w) (suc n) (ref.Named q) ≡ target (map_of w) n t
    unfolding target
    step n q k t e = ap (λ o. follow (target_of o) (ref.Named q) (λ u. target (map_of w) n u)) e

    at_itself : (n : ℕ) (q : QName) (d : Desc) → map_of w q ≡ Some d → is_structure d ≡ true → IsOne (target (map_of w) n (ref.Named q))
    at_itself n q d e s =
        subst IsOne (sym (target_own (map_of w) q d e (structure_own d s) n))
        (subst (λ o. (is_some (array_at o) || is_some (record_at (ref.Named q) o)) ≡ true) (sym e) (structured q d s))

    -- one where the module was compiled is one where the type stands
    one_back : (n : ℕ) (t : TypeRef) (p : QName) (e : Desc) → StandsFor V t (ref.Named p) → V p ≡ Some e → is_structure e ≡ true → S t → IsWithin V n t → IsOne (target (map_of w) n t)
    one_back n _ p e (itself own) f o s i =
        let l = standing.look faces m types_are differ outside apart no_out w unit_is shown_is aliases told p e s f in
        at_itself n p l.d l.there (sym (structure_kind l.d) ∙ ap is_structure l.says.alike ∙ structure_kind e ∙ o)
    one_back zero _ p e (equated {q = q} {m = k} {t = t} g st) f o s i = absurd (within_none q i)
    one_back (suc n) _ p e (equated {q = q} {m = k} {t = t} g st) f o s i =
        let l = standing.look faces m types_are differ outside apart no_out w unit_is shown_is aliases told q (desc.Alias k t) s g in
        let there : map_of w q ≡ Some (desc.Alias k t) = l.there ∙ ap (λ x. Some x) (l.says.alias k t refl) in
        subst IsOne (sym (step n q k t there)) (one_back n t p e st f o (l.on k t refl) (within_next n q k t g i))

    plain_here : (t : TypeRef) → S t → IsWithin V 201 t → is_structured (map_of w) t ≡ false → Is V is_structure t → ⊥
    plain_here t s i plain k = by (V k.0) refl k.1.1
      where
        by : (o : Option Desc) → V k.0 ≡ o → MatchOption o ⊥ (λ d. IsTrue (is_structure d)) → ⊥
        by None e h = h
        by (Some d) e h = false≢true (sym plain ∙ one_back 201 t k.0 d k.1.0 e h s i)

  takes : (xs : List TypedParameter) → AllByRecursion (IsPassedWell m.name (shown faces) m.types) xs → AllByRecursion (λ x. IsHeld V x.of) xs
  takes [] h = tt
  takes (x ∷ xs) h = (standing.held_here faces m types_are differ outside apart no_out h.0.w h.0.unit_is h.0.shown_is h.0.aliases h.0.told x.of h.0.stands, takes xs h.1)

  gives : (ts : List TypeRef) → AllByRecursion (IsPlainWell m.name (shown faces) m.types) ts → AllByRecursion (λ t. IsHeld V t) ts
  gives [] h = tt
  gives (t ∷ ts) h = (standing.held_here faces m types_are differ outside apart no_out h.0.w h.0.unit_is h.0.shown_is h.0.aliases h.0.told t h.0.stands, gives ts h.1)

  module _ (grounded : IsGrounded V) where
    result_plain : (o : Option TypeRef) → AllByRecursion (IsPlainWell m.name (shown faces) m.types) (listed o) → IfSome o (λ t. Is V is_structure t → ⊥)
    result_plain None h = tt
    result_plain (Some t) h = plain_here h.0.w h.0.unit_is h.0.shown_is h.0.aliases h.0.told t h.0.stands (grounded.chains t (gives (t ∷ []) h).0) h.0.plain

    head : (p : TypedProcedure) → ProcedureIsWell m.name (shown faces) m.types p → IsHeadRuled V (procedure_view p)
    head p h = record {
      held = all_both (λ t. IsHeld V t) (each (λ k. k.1) (each formal_of p.parameters)) (listed p.result) (all_each (λ k. k.1) (λ t. IsHeld V t) (each formal_of p.parameters) (all_each formal_of (λ k. IsHeld V k.1) p.parameters (takes p.parameters h.parameters))) (gives (listed p.result) h.plain);
      plain = result_plain p.result h.plain;
    }

    all_heads : (ps : List TypedProcedure) → AllByRecursion (ProcedureIsWell m.name (shown faces) m.types) ps → AllByRecursion (IsHeadRuled V) (each procedure_view ps)
    all_heads [] h = tt
    all_heads (p ∷ ps) h = (head p h.0, all_heads ps h.1)

pub heads_ruled : HeadsRuled
heads_ruled ruled b c valid =
    let s = build_comes b c valid in
    let k : ComesOf s.tree c = comes_of b c s.tree valid s.read in
    let away = apart_of c s.tree k in
    let faces = c.against in
    let m = k.t in
    let r = ruled b c valid in
    let name : m.name ≡ s.tree.name.name = checked_name (shown faces) s.tree m k.tree_is in
    let tree_is : c.tree ≡ laid_out (described faces) (module_view m) = ap (λ (x : Compiled Text). x.tree) k.is in
    let differ : AreDistinct (λ t. t.name) m.types = names_laid (described faces) (module_view m) m.types (subst (λ (x : Module). AreDistinct (λ t. t.name) x.types) tree_is r.names) in
    let well = parameters_passed (shown faces) s.tree m k.tree_is (readings_spelled b.source s.tree s.read) away.imports differ in
    let types = types_described (shown faces) s.tree m k.tree_is in
    let outside = against_is_grounded b c valid in
    let others = subst (λ (x : List ℕ). AllByRecursion (λ (f : Face Text). bytes_eq f.«module» x ≡ false) faces) (sym name) away.others in
    subst (λ (x : Module). AllByRecursion (IsHeadRuled (types_of (record { tree = x; against = faces; shows = c.shows }))) x.procedures) (sym tree_is)
    (all_heads faces m types differ outside others away.out (subst (λ (x : Module). IsGrounded (types_of (record { tree = x; against = faces; shows = c.shows }))) tree_is r.grounded) m.procedures well)
