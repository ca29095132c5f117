-- Parameters of builds that are loaded together are passed as their types ask for.
use Rattle.std.proofs.Common.{◌≡◌, refl, sym, ap, ◌∙◌, subst, ℕ, zero, suc, true, false, List, [], ◌∷◌, ◌++◌, map as each, Option, Some, None, append_assoc}
use Rattle.std.specs.Prelude.{bytes_eq, MatchOption, IsTrue}
use Rattle.std.specs.List.{AllByRecursion}
use Rattle.ob_tree.specs.declared.names.QName.{QName}
use Rattle.ob_tree.specs.declared.ident.Mark.{Mark}
use Rattle.ob_types.specs.declared.types.Mode.{Mode}
use Rattle.ob_types.specs.declared.types.Mode.TheVariants as mode
use Rattle.ob_types.specs.declared.types.TypeRef.{TypeRef}
use Rattle.ob_types.specs.declared.types.TypeRef.TheVariants as ref
use Rattle.ob_types.specs.declared.desc.Desc.{Desc}
use Rattle.ob_types.specs.declared.desc.Desc.TheVariants as desc
use Rattle.ob_types.specs.declared.typed.TypedType.{TypedType}
use Rattle.ob_types.specs.declared.typed.TypedVariable.{TypedVariable}
use Rattle.ob_types.specs.declared.typed.TypedParameter.{TypedParameter}
use Rattle.ob_types.specs.declared.typed.TypedProcedure.{TypedProcedure}
use Rattle.ob_types.specs.declared.typed.TypedModule.{TypedModule}
use Rattle.ob_types.specs.Maps.{is_type, listed, stands_on, named_by, IsHeld, IsWithin}
use Rattle.ob_types.specs.TypedSyntax.{Procedure, Module}
use Rattle.ob_types.specs.TypedView.{procedure_view, module_view}
use Rattle.ob_meaning.specs.Values.{Program, form_in, description}
use Rattle.law_simulation_relation.specs.Passed.{passing_for, IsOpen}
use Rattle.ob_rules.specs.Shapes.{passing_of}
use Rattle.ob_rules.specs.Names.{Around, map_of}
use Rattle.ob_layout.specs.LaidOut.{viewed, laid_out}
use Rattle.ob_env.specs.Faces.{Face, described}
use Rattle.ob_env.specs.Shown.{shown}
use Rattle.ob_uses.specs.Uses.{near_types}
use Rattle.ob_compile_model.specs.Compiling.{Compiled}
use Rattle.law_names_distinct.specs.Distinct.{AreDistinct}
use Rattle.law_methods_described.proofs.Blocks.{types_described}
use Rattle.law_spelling_read.proofs.Trees.{readings_spelled}
use Rattle.ob_builds.specs.Builds.{Text, Build, IsValid, of, tree_of}
use Rattle.ob_builds.specs.Afresh.{IsBehind, AreTogether}
use Rattle.ob_builds.specs.Written.{BuildsAreWritten}
use Rattle.law_program_runs.specs.Builds.{program_of, AreLoaded}
use Rattle.law_typing_forms.specs.Formed.{IsDeclared}
use Rattle.law_typing_forms.specs.Said.{IsOneOf, ChainsEnd}
use Rattle.law_typing_forms.specs.Whole.{IsPassed, HeadingOk}
use Rattle.law_typing.specs.Forms.{ResultIs}
use Rattle.law_body_context.specs.Knows.{Stands}
use Rattle.law_body_context.proofs.Lists.{all_of}
use Rattle.law_local_files.specs.Laws.{HaveNoOut}
use Rattle.law_typing_env.specs.Near.{core}
use Rattle.law_typing_env.specs.Near as declares
use Rattle.law_local.proofs.Compiled.{ComesOf, comes_of, checked_name, apart_of}
use Rattle.law_program_names.proofs.Different.{build_comes}
use Rattle.law_program_names.proofs.Grounded.{against_is_grounded}
use Rattle.law_builds_ruled.specs.ruled_laws.Ruled.{types_of, BuildsAreRuled}
use Rattle.law_builds_ruled.specs.ruled_laws.Variables.{AliasStands, IsSameType, IsDeclaredWell}
use Rattle.law_builds_ruled.proofs.ruled_laws.Builds.{names_laid}
use Rattle.law_builds_ruled.proofs.ruled_laws.Closed as standing
use Rattle.law_typing_env.proofs.Ordered.{program_sound}
use Rattle.law_builds_loaded.proofs.Closed as closed
use Rattle.law_builds_loaded.proofs.Used.{IsInside}
use Rattle.law_builds_loaded.proofs.Loaded.{Before, none, valid_of, before_more, more_all, uses, in_order}
use Rattle.law_builds_ruled.specs.passed_laws.Passed.{IsPassedWell, IsPlainWell, ProcedureIsWell}
use Rattle.law_builds_ruled.proofs.passed_laws.Modules.{parameters_passed}
use Rattle.law_builds_loaded.specs.whole_laws.Whole.{LoadedPassed, IsPlain, LoadedPlain}
use Rattle.law_builds_loaded.proofs.whole_laws.Plain.{never_open, scalar_is}
use Rattle.law_builds_loaded.proofs.whole_laws.Alike.{SaidBy, passed_alike}
use Rattle.law_lists.proofs.Lists.{each_last}

core_type : (d : Desc) → is_type (core d) ≡ is_type d
core_type (desc.Const v) = refl
core_type (desc.Var m t) = refl
core_type (desc.Proc s) = refl
core_type (desc.Alias m t) = refl
core_type (desc.Array m n t) = refl
core_type (desc.OpenArray m t) = refl
core_type (desc.Pointer m t) = refl
core_type (desc.ProcType m s) = refl
core_type (desc.Record r) = refl

within_none : (types : QName → Option Desc) (q : QName) → IsWithin types zero (ref.Named q) → ⊥
unfolding IsWithin
within_none types q h = h

within_next : (types : QName → Option Desc) (q : QName) (k : Mark) (t : TypeRef) → types q ≡ Some (desc.Alias k t) → (n : ℕ) → IsWithin types (suc n) (ref.Named q) → IsWithin types n t
unfolding IsWithin
within_next types q k t e n h = (subst (λ o. MatchOption o ⊥ (λ d. IsTrue (is_type d) × AllByRecursion (λ t. IsWithin types n t) (stands_on d))) e h).1.0

declared : (unit : List ℕ) (shown : QName → Option Desc) (own : List TypedType) (t : TypeRef) → Stands unit shown own t → IsDeclared t
declared unit shown own (ref.Basic b) h = tt
declared unit shown own (ref.Named q) h = h.0

-- the procedures of a module: their headings, and what is inside them
record AreWell (program : Program) (m : Module) : Type 0 where
  headings : AllByRecursion (HeadingOk program) m.procedures
  plain : AllByRecursion (IsPlain program) m.procedures

module _ (written : BuildsAreWritten) (ruled : BuildsAreRuled) where
  module _ (before rest : List Build) (b : Build) (k : Before before) (h : IsBehind before b) (together : AreTogether (before ++ b ∷ []) rest) (program : Program) (is : program_of ((before ++ b ∷ []) ++ rest) ≡ program) (ends : ChainsEnd program) where
    abbrev V : QName → Option Desc
    V = types_of (of b)

    valid : IsValid b (of b)
    valid = valid_of written ruled b h.valid.0 h.valid.1

    -- what the program has of it and those before it
    stays : (q : QName) (d : Desc) → description (program_of before ++ tree_of b ∷ []) q ≡ Some d → description program q ≡ Some d
    stays q d e =
        subst (λ p. description p q ≡ Some d) is
        (more_all written ruled (before ++ b ∷ []) rest (before_more written ruled before b k h) together q d (subst (λ p. description p q ≡ Some d) (sym (each_last tree_of before b)) e))

    module _ (m : TypedModule) (tree_is : (of b).tree ≡ laid_out (described (of b).against) (module_view m)) (types : AllByRecursion (λ t. is_type t.desc ≡ true) m.types) (differ : AreDistinct (λ t. t.name) m.types) (others : AllByRecursion (λ f. bytes_eq f.«module» m.name ≡ false) (of b).against) (no_out : HaveNoOut (of b).against) where
      same_view : (q : QName) → V q ≡ viewed (described (of b).against) (laid_out (described (of b).against) (module_view m)) q
      same_view q = ap (λ (x : Module). viewed (described (of b).against) x q) tree_is

      -- a type that stands is passed by its form as what is known there asks for
      passed_same : (w : Around) → w.unit ≡ m.name → w.shown ≡ shown (of b).against → AllByRecursion (λ s. AliasStands m.name (shown (of b).against) w.own s.desc) w.own → ((t : TypedType) → IsOneOf w.own t → IsSameType m.types t) → (j : Mode) (x : TypeRef) → Stands m.name (shown (of b).against) w.own x → (IsHeld V x → declares.IsNear (tree_of b) (uses written ruled before b k h).near x)
          → passing_of (map_of w) j x ≡ passing_for j (form_in program x)
      passed_same w unit_is shown_is aliases told j x stands near =
          let r = ruled b (of b) valid in
          let u = uses written ruled before b k h in
          let outside = against_is_grounded b (of b) valid in
          let S : TypeRef → Type 0 = λ t. Stands m.name (shown (of b).against) w.own t in
          let held : (t : TypeRef) → S t → IsHeld V t = λ t s. held_same t (standing.held_here (of b).against m types differ outside others no_out w unit_is shown_is aliases told t s) in
          let P : TypeRef → Type 0 = λ t. S t × (declares.IsNear (tree_of b) u.near t × IsHeld V t) in
          let said : (q : QName) → P (ref.Named q) → SaidBy program ends (map_of w) P (IsWithin V) (within_none V) q =
          λ q p.
          let two = closed.look (of b) (program_of before) u.over u.near u.used r.grounded u.types q p.1.0 p.1.1 in
          let one = standing.look (of b).against m types differ outside others no_out w unit_is shown_is aliases told q two.d p.0 (sym (same_view q) ∙ two.of) in
          let kind : is_type two.d ≡ true = subst (λ o. MatchOption o ⊥ (λ d. IsTrue (is_type d))) two.of p.1.1 in
          record {
            d = one.d;
            e = two.e;
            of = one.there;
            there = stays q two.e two.there;
            alike = one.says.alike ∙ sym two.alike;
            type = sym (core_type two.e) ∙ ap is_type two.alike ∙ core_type two.d ∙ kind;
            onward = λ j t i.
                let a : two.d ≡ desc.Alias j t = closed.core_alias two.d j t (sym one.says.alike ∙ ap core i) in (
                  one.on j t a,
                  (
                    (subst (λ d. AllByRecursion (declares.IsNear (tree_of b) u.near) (near_types d)) a two.parts).0,
                    (subst (λ d. AllByRecursion (λ t. IsHeld V t) (named_by d)) a (r.grounded.held q two.d two.of)).0,
                  ),
                );
            within = λ j t i n w. within_next V q j t (two.of ∙ ap (λ d. Some d) (closed.core_alias two.d j t (sym one.says.alike ∙ ap core i))) n w;
          } in
          let there = held x stands in
          passed_alike program ends (map_of w) P (IsWithin V) (within_none V) said j x (stands, (near there, there)) (r.grounded.chains x there)
        where
          held_same : (t : TypeRef) → IsHeld (viewed (described (of b).against) (laid_out (described (of b).against) (module_view m))) t → IsHeld V t
          held_same (ref.Basic b) h = tt
          held_same (ref.Named q) h = subst (λ o. MatchOption o ⊥ (λ d. IsTrue (is_type d))) (sym (same_view q)) h

      -- a parameter
      passed : (x : TypedParameter) → IsPassedWell m.name (shown (of b).against) m.types x → (IsHeld V x.of → declares.IsNear (tree_of b) (uses written ruled before b k h).near x.of) → IsPassed program x
      passed x g near = record {
        mode = g.mode;
        passing = g.passing ∙ passed_same g.w g.unit_is g.shown_is g.aliases g.told g.mode x.of g.stands near;
        declared = declared m.name (shown (of b).against) g.w.own x.of g.stands;
      }

      -- a result
      result_plain : (o : Option TypeRef) → AllByRecursion (IsPlainWell m.name (shown (of b).against) m.types) (listed o) → AllByRecursion (λ t. IsHeld V t → declares.IsNear (tree_of b) (uses written ruled before b k h).near t) (listed o) → ResultIs program o
      result_plain None g near = tt
      result_plain (Some t) g near = (
        declared m.name (shown (of b).against) g.0.w.own t g.0.stands,
        scalar_is (map_of g.0.w) t (form_in program t) g.0.plain (passed_same g.0.w g.0.unit_is g.0.shown_is g.0.aliases g.0.told mode.Value t g.0.stands near.0),
      )

      -- local variables
      locals_plain : (vs : List TypedVariable) → AllByRecursion (IsDeclaredWell m.name (shown (of b).against) m.types) vs → AllByRecursion (λ v. IsHeld V v.of → declares.IsNear (tree_of b) (uses written ruled before b k h).near v.of) vs → AllByRecursion (λ v. IsOpen (form_in program v.of) → ⊥) vs
      locals_plain [] g near = tt
      locals_plain (v ∷ vs) g near = (
        never_open (map_of g.0.w) v.of (form_in program v.of) g.0.closed (passed_same g.0.w g.0.unit_is g.0.shown_is g.0.aliases g.0.told mode.Value v.of g.0.stands near.0),
        locals_plain vs g.1 near.1,
      )

      all_plain : (ps : List TypedProcedure) → AllByRecursion (ProcedureIsWell m.name (shown (of b).against) m.types) ps → AllByRecursion (IsInside (λ t. IsHeld V t → declares.IsNear (tree_of b) (uses written ruled before b k h).near t)) (each procedure_view ps) → AllByRecursion (IsPlain program) (each procedure_view ps)
      all_plain [] g near = tt
      all_plain (p ∷ ps) g near = (record { locals = locals_plain p.locals g.0.locals near.0.0; result = result_plain p.result g.0.plain near.0.1 }, all_plain ps g.1 near.1)

      all_passed : (xs : List TypedParameter) → AllByRecursion (IsPassedWell m.name (shown (of b).against) m.types) xs → AllByRecursion (λ x. IsHeld V x.of → declares.IsNear (tree_of b) (uses written ruled before b k h).near x.of) xs → AllByRecursion (λ x. IsPassed program x) xs
      all_passed [] g near = tt
      all_passed (x ∷ xs) g near = (passed x g.0 near.0, all_passed xs g.1 near.1)

      headings_ok : (ps : List TypedProcedure) → AllByRecursion (ProcedureIsWell m.name (shown (of b).against) m.types) ps → AllByRecursion (λ (p : Procedure). AllByRecursion (λ x. IsHeld V x.of → declares.IsNear (tree_of b) (uses written ruled before b k h).near x.of) p.parameters) (each procedure_view ps) → AllByRecursion (HeadingOk program) (each procedure_view ps)
      headings_ok [] g near = tt
      headings_ok (p ∷ ps) g near = ((all_passed p.parameters g.0.parameters near.0, g.0.result), headings_ok ps g.1 near.1)

    -- the procedures of one build
    one_passed : AreWell program (tree_of b)
    one_passed =
        let s = build_comes b (of b) valid in
        let f : ComesOf s.tree (of b) = comes_of b (of b) s.tree valid s.read in
        let away = apart_of (of b) s.tree f in
        let m = f.t in
        let name : m.name ≡ s.tree.name.name = checked_name (shown (of b).against) s.tree m f.tree_is in
        let tree_is : (of b).tree ≡ laid_out (described (of b).against) (module_view m) = ap (λ (x : Compiled Text). x.tree) f.is in
        let r = ruled b (of b) valid in
        let differ : AreDistinct (λ t. t.name) m.types = names_laid (described (of b).against) (module_view m) m.types (subst (λ (x : Module). AreDistinct (λ t. t.name) x.types) tree_is r.names) in
        let well = parameters_passed (shown (of b).against) s.tree m f.tree_is (readings_spelled b.source s.tree s.read) away.imports differ in
        let types = types_described (shown (of b).against) s.tree m f.tree_is in
        let others = subst (λ (x : List ℕ). AllByRecursion (λ (f : Face Text). bytes_eq f.«module» x ≡ false) (of b).against) (sym name) away.others in
        let near = subst (λ (x : Module). AllByRecursion (λ p. AllByRecursion (λ x. IsHeld V x.of → declares.IsNear (tree_of b) (uses written ruled before b k h).near x.of) p.parameters) x.procedures) tree_is (uses written ruled before b k h).passed in
        let inside = subst (λ (x : Module). AllByRecursion (IsInside (λ t. IsHeld V t → declares.IsNear (tree_of b) (uses written ruled before b k h).near t)) x.procedures) tree_is (uses written ruled before b k h).inside in
        subst (AreWell program) (sym tree_is) (record { headings = headings_ok m tree_is types differ others away.out m.procedures well near; plain = all_plain m tree_is types differ others away.out m.procedures well inside })

  all_well : (before bs : List Build) → Before before → AreTogether before bs → (program : Program) → program_of (before ++ bs) ≡ program → ChainsEnd program → AllByRecursion (AreWell program) (program_of bs)
  all_well before [] k h program is ends = tt
  all_well before (b ∷ bs) k h program is ends =
      let e : program_of ((before ++ b ∷ []) ++ bs) ≡ program = ap program_of (append_assoc before (b ∷ []) bs) ∙ is in
      (one_passed before bs b k h.0 h.1 program e ends, all_well (before ++ b ∷ []) bs (before_more written ruled before b k h.0) h.1 program e ends)

  loaded_well : (bs : List Build) → AreLoaded bs → AllByRecursion (AreWell (program_of bs)) (program_of bs)
  loaded_well bs l = all_well [] bs (none written ruled) l.together (program_of bs) refl (program_sound (program_of bs) (in_order written ruled bs l.together)).ends

pub loaded_passed : LoadedPassed
loaded_passed written ruled bs l = all_of (AreWell (program_of bs)) (λ m. AllByRecursion (HeadingOk (program_of bs)) m.procedures) (program_of bs) (λ m h. h.headings) (loaded_well written ruled bs l)

pub loaded_plain : LoadedPlain
loaded_plain written ruled bs l = all_of (AreWell (program_of bs)) (λ m. AllByRecursion (IsPlain (program_of bs)) m.procedures) (program_of bs) (λ m h. h.plain) (loaded_well written ruled bs l)
