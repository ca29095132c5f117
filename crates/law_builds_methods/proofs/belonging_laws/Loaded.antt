-- Builds that are loaded together: the bound procedures that their records introduce are there.
use Rattle.std.proofs.Common.{◌≡◌, inl, inr, refl, sym, ap, subst, ◌∙◌, ℕ, List, [], ◌∷◌, ◌++◌, map, Some, append_assoc}
use Rattle.std.specs.List.{AllByRecursion}
use Rattle.ob_types.specs.declared.typed.TypedType.{TypedType}
use Rattle.ob_types.specs.TypedSyntax.{Module}
use Rattle.ob_types.specs.TypedView.{module_view}
use Rattle.ob_meaning.specs.Values.{Program}
use Rattle.ob_layout.specs.LaidOut.{laid_out}
use Rattle.ob_env.specs.Faces.{described}
use Rattle.ob_env.specs.Shown.{shown}
use Rattle.law_names_distinct.specs.Distinct.{AreDistinct}
use Rattle.ob_compile_model.specs.Compiling.{Compiled, texts}
use Rattle.law_names_procedures.specs.Procedures.{ShowBases}
use Rattle.law_names_procedures.proofs.Texts.{headings_are_named}
use Rattle.law_spelling.proofs.Reading.{readings_named}
use Rattle.law_typing_forms.specs.Said.{ChainsEnd}
use Rattle.law_typing_forms.specs.Whole.{IsWhole}
use Rattle.law_typing_forms.proofs.Modules.{of_all}
use Rattle.law_typing_env.proofs.Ordered.{program_sound}
use Rattle.law_local.proofs.Compiled.{checked_name}
use Rattle.ob_builds.specs.Builds.{Text, Build, shows_of, tree_of, name_of}
use Rattle.ob_builds.specs.Local.{Locality}
use Rattle.ob_builds.specs.Written.{BuildsAreWritten}
use Rattle.law_builds.proofs.Compiled.{comes}
use Rattle.law_builds.proofs.Faces.{of_is}
use Rattle.law_builds.proofs.Gone.{all_valid}
use Rattle.law_builds.proofs.Members.{In}
use Rattle.law_program_runs.specs.Builds.{program_of, AreLoaded}
use Rattle.law_builds_ruled.specs.ruled_laws.Ruled.{BuildsAreRuled}
use Rattle.law_builds_ruled.proofs.ruled_laws.Builds.{names_laid}
use Rattle.law_builds_loaded.proofs.Loaded.{in_order}
use Rattle.law_builds_loaded.proofs.whole_laws.Passing.{loaded_passed}
use Rattle.law_builds_loaded.proofs.whole_laws.Whole.{loaded_whole}
use Rattle.law_program_image.proofs.Named.{bindings_are_named}
use Rattle.law_builds_loaded.proofs.inherited_laws.Checked.{checked_at}
use Rattle.law_builds_loaded.proofs.inherited_laws.Loaded.{IsSome, tree_in, all_shown, in_front, in_middle}
use Rattle.law_methods_bound.proofs.IntroducedModules.{methods_introduced}
use Rattle.law_builds_types.proofs.pointed_laws.Loaded.{loaded_bases}
use Rattle.law_builds_methods.specs.belonging_laws.Loaded.{LoadedBelong}
use Rattle.law_builds_methods.proofs.belonging_laws.Methods.{TypesHave, module_has, found_in}

-- a build shows the name of its module
pub shows_name : (b : Build) → IsSome b → name_of b ≡ (tree_of b).name
shows_name b v = subst (λ (x : Compiled Text). x.shows.«module» ≡ x.tree.name) (sym (of_is b v.0 v.1)) (subst (λ (x : Compiled Text). x.shows.«module» ≡ x.tree.name) (sym (comes texts _ (Some b.source) v.0 v.1.is).is) refl)

abbrev Has : Program → Module → Type 0
Has program m = TypesHave program m.name m.types

module _ (written : BuildsAreWritten) (ruled : BuildsAreRuled) (locality : Locality) where
  has_methods : (before : List Build) (b : Build) (after : List Build) → AreLoaded (before ++ b ∷ after) → Has (program_of (before ++ b ∷ after)) (tree_of b)
  has_methods before b after l =
      let all = before ++ b ∷ after in
      let program = program_of all in
      let valid : (x : Build) → In all x → IsSome x = λ x i. of_all IsSome all x (all_valid all l.together) i in
      let k = checked_at written locality before b after l in
      let v = valid b (in_middle before b after) in
      let faces = map shows_of before in
      let ends : ChainsEnd program = (program_sound program (in_order written ruled all l.together)).ends in
      let whole : IsWhole program = loaded_whole ruled (loaded_passed written ruled) all l in
      let tree_name : (tree_of b).name ≡ k.tree.name.name = ap (λ (m : Module). m.name) k.is ∙ checked_name (shown faces) k.tree k.t k.checked_is in
      let name : name_of b ≡ k.tree.name.name = shows_name b v ∙ tree_name in
      let distinct : AreDistinct (λ t. t.name) (tree_of b).types = subst (λ (x : Compiled Text). AreDistinct (λ t. t.name) x.tree.types) (sym (of_is b v.0 v.1)) (ruled b v.0 v.1).names in
      let apart : AreDistinct (λ t. t.name) k.t.types = names_laid (described faces) (module_view k.t) k.t.types (subst (λ (x : Module). AreDistinct (λ t. t.name) x.types) k.is distinct) in
      let named = (readings_named b.source k.tree k.read).decls in
      let introduced = methods_introduced (shown faces) k.tree k.t (subst (λ (n : List ℕ). ShowBases (shown faces) n) name (loaded_bases written ruled before b after l)) (headings_are_named b.source k.tree k.read) k.checked_is apart named in
      module_has program ends whole faces (all_shown all before (λ x i. in_front before (b ∷ after) x i) valid) (tree_of b) (tree_in all b (in_middle before b after)) k.t (described faces) k.is (bindings_are_named (shown faces) k.tree k.t k.checked_is apart named) introduced

  all_have : (all before after : List Build) → all ≡ before ++ after → AreLoaded all → AllByRecursion (Has (program_of all)) (program_of after)
  all_have all before [] e l = tt
  all_have all before (b ∷ after) e l = (
    subst (λ xs. Has (program_of xs) (tree_of b)) (sym e) (has_methods before b after (subst AreLoaded e l)),
    all_have all (before ++ b ∷ []) after (e ∙ sym (append_assoc before (b ∷ []) after)) l,
  )

pub bound_there : LoadedBelong
bound_there written ruled locality bs l q r e = found_in (program_of bs) (program_of bs) (all_have written ruled locality bs [] bs refl l) q r e
