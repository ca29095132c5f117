-- Each module of builds that are loaded together is judged over the interfaces of those before it, where the maps of types are steady.
use Rattle.std.proofs.Common.{◌≡◌, refl, sym, ap, subst, ◌∙◌, ℕ, List, [], ◌∷◌, ◌++◌, map, Option, append_assoc}
use Rattle.std.specs.List.{AllByRecursion}
use Rattle.std.specs.Prelude.{Contains}
use Rattle.ob_tree.specs.declared.names.QName.{QName}
use Rattle.ob_types.specs.declared.desc.Desc.{Desc}
use Rattle.ob_types.specs.declared.typed.TypedProcedure.{TypedProcedure}
use Rattle.ob_types.specs.declared.typed.TypedModule.{TypedModule}
use Rattle.ob_types.specs.TypedSyntax.{Module}
use Rattle.ob_meaning.specs.Values.{Program}
use Rattle.ob_env.specs.Faces.{described}
use Rattle.ob_env.specs.Shown.{shown}
use Rattle.ob_rules.specs.Declarations.{Contents}
use Rattle.law_names_procedures.proofs.Texts.{headings_are_named}
use Rattle.law_spelling_read.proofs.Trees.{readings_spelled}
use Rattle.law_typing.specs.Known.{ConstantIs}
use Rattle.law_body_context.proofs.Expressions.{constants_stand}
use Rattle.law_spelling_values.proofs.Shown.{spelled_shown}
use Rattle.law_local.proofs.Compiled.{comes_of, short_is, checked_name, apart_of}
use Rattle.law_typing_forms.proofs.Modules.{of_all}
use Rattle.law_body_context.specs.Judged.{ProcedureIsJudged}
use Rattle.law_body_context.specs.Around.{IsAroundEach}
use Rattle.law_names_distinct.proofs.FieldBlocks.{fields_differ}
use Rattle.law_names_compiled.proofs.Modules.{read_types_differ}
use Rattle.law_acyclic.specs.Laws.{types_of}
use Rattle.law_acyclic.specs.Steady.{IsOver, HasSteadyMap}
use Rattle.law_acyclic.proofs.Stand.{bases_shown}
use Rattle.law_acyclic.proofs.Grounded.{types_are_held}
use Rattle.law_acyclic.proofs.Bodies.{bodies_are_steady}
use Rattle.law_program_context.specs.Judged.{IsJudgedModule}
use Rattle.law_program_typing.specs.Steady.{AreSteady, IsSteadyModule, AreSteadyModules}
use Rattle.ob_builds.specs.Builds.{Build, shows_of, tree_of, name_of}
use Rattle.ob_builds.specs.Afresh.{IsBehind, AreTogether}
use Rattle.ob_builds.specs.Local.{Locality}
use Rattle.ob_builds.specs.Written.{BuildsAreWritten}
use Rattle.law_builds.proofs.Gone.{all_valid}
use Rattle.law_builds.proofs.Members.{In}
use Rattle.law_program_runs.specs.Builds.{program_of, AreLoaded}
use Rattle.law_builds_loaded.proofs.inherited_laws.Checked.{checked_at}
use Rattle.law_program_image.specs.Premises.{LoadedAreSound}
use Rattle.law_builds_ruled.specs.ruled_laws.Ruled.{BuildsAreRuled}
use Rattle.law_builds_loaded.specs.Loaded.{LoadedAreWhole}
use Rattle.law_builds_types.proofs.lined_laws.Said.{said_have_ends}
use Rattle.law_builds_types.proofs.lined_laws.Loaded.{loaded_are_lined}
use Rattle.law_builds_types.proofs.closed_laws.Loaded.{loaded_closed}
use Rattle.law_builds_loaded.proofs.inherited_laws.Loaded.{IsSome, tree_in, in_front, in_middle, all_shown}
use Rattle.law_builds_types.specs.encircled_laws.Encircled.{LoadedAreSteady}
use Rattle.law_builds_types.proofs.assured_laws.Judged.{all_spelled, shows_name}
use Rattle.law_builds_types.proofs.encircled_laws.Apart.{shown_apart, all_named}
use Rattle.law_builds_types.proofs.encircled_laws.Types.{types_said}
use Rattle.law_lists.proofs.Lists.{each_both}

each_steady : (shown : QName → Option Desc) (m : TypedModule) (content : Contents) (ps : List TypedProcedure) (h : AllByRecursion (ProcedureIsJudged ConstantIs shown m content) ps) → IsAroundEach HasSteadyMap ConstantIs shown m content ps h → AreSteady shown m content ps h
each_steady shown m content [] h k = tt
each_steady shown m content (p ∷ ps) h k = (k.0, each_steady shown m content ps h.1 k.1)

-- a module that is judged where the maps are steady
record IsEncircled (program : Program) (m : Module) : Type 0 where
  judged : IsJudgedModule program m
  steady : IsSteadyModule program m judged

module _ (written : BuildsAreWritten) (ruled : BuildsAreRuled) (locality : Locality) (sounds : LoadedAreSound) (wholes : LoadedAreWhole) where
  is_encircled : (before : List Build) (b : Build) (after : List Build) → AreLoaded (before ++ b ∷ after) → IsBehind before b → IsEncircled (program_of (before ++ b ∷ after)) (tree_of b)
  is_encircled before b after l behind =
      let all = before ++ b ∷ after in
      let program = program_of all in
      let valid : (x : Build) → In all x → IsSome x = λ x i. of_all IsSome all x (all_valid all l.together) i in
      let first : (x : Build) → In before x → IsSome x = λ x i. valid x (in_front before (b ∷ after) x i) in
      let k = checked_at written locality before b after l in
      let v = valid b (in_middle before b after) in
      let faces = map shows_of before in
      let tree_name : (tree_of b).name ≡ k.tree.name.name = ap (λ (m : Module). m.name) k.is ∙ checked_name (shown faces) k.tree k.t k.checked_is in
      let name : name_of b ≡ k.tree.name.name = shows_name b v ∙ tree_name in
      let apart = shown_apart before first k.tree.name.name (subst (λ (n : List ℕ). Contains (map name_of before) n → ⊥) name behind.new) in
      let shut = (loaded_closed written ruled).front before b after l in
      let c : IsOver (shown faces) k.tree k.t = record {
        is = k.checked_is;
        closed = shut;
        apart = apart;
        imports = (apart_of v.0 k.tree (comes_of b v.0 k.tree v.1 k.read)).imports;
        names = read_types_differ b.source k.tree (shown faces) k.t (short_is b v.0 v.1) (bases_shown (shown faces) k.tree.name.name shut apart.own) k.read k.checked_is;
      } in
      let sound = sounds all l in
      let said = types_said program sound (wholes all l) faces (all_shown all before (λ x i. in_front before (b ∷ after) x i) valid) (tree_of b) (tree_in all b (in_middle before b after)) (described faces) k.t k.is k.tree (sym tree_name) in
      let end = said_have_ends program sound.ends (loaded_are_lined written ruled all l) (types_of (shown faces) k.tree k.t) (λ q d e type. said q d e) (types_are_held (shown faces) k.tree k.t c) in
      let h = bodies_are_steady (shown faces) k.tree k.t c end (readings_spelled b.source k.tree k.read) (headings_are_named b.source k.tree k.read) (constants_stand k.tree.name.name (shown faces) (spelled_shown faces (all_spelled written before first))) in
      record {
        judged = record {
          before = program_of before;
          rest = program_of after;
          order = each_both tree_of before (b ∷ after);
          checked = k.t;
          types = described faces;
          faces = faces;
          is = k.is;
          age = all_shown before before (λ x i. i) first;
          bodies = h.judged;
        };
        steady = record {
          fields = all_named k.t.types (fields_differ (shown faces) k.tree k.t k.checked_is);
          procedures = each_steady (shown faces) k.t h.judged.content k.t.procedures h.judged.procedures h.steady.procedures;
          body = h.steady.body;
        };
      }

  all_encircled : (all before after : List Build) → all ≡ before ++ after → AreLoaded all → AreTogether before after → (h : AllByRecursion (IsJudgedModule (program_of all)) (program_of after)) × AreSteadyModules (program_of all) (program_of after) h
  all_encircled all before [] e l t = (tt, tt)
  all_encircled all before (b ∷ after) e l t =
      let x = subst (λ xs. IsEncircled (program_of xs) (tree_of b)) (sym e) (is_encircled before b after (subst AreLoaded e l) t.0) in
      let r = all_encircled all (before ++ b ∷ []) after (e ∙ sym (append_assoc before (b ∷ []) after)) l t.1 in
      ((x.judged, r.0), (x.steady, r.1))

pub loaded_are_steady : LoadedAreSteady
loaded_are_steady written ruled locality sounds wholes bs l = let r = all_encircled written ruled locality sounds wholes bs [] bs refl l l.together in record { judged = r.0; steady = r.1 }
