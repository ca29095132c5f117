-- The bound procedures of builds that are loaded together are like the methods of their families.
use Rattle.std.proofs.Common.{◌≡◌, refl, sym, ap, subst, ◌∙◌, ℕ, List, [], ◌∷◌, ◌++◌, map, append_assoc}
use Rattle.std.specs.Prelude.{bytes_eq}
use Rattle.std.specs.List.{AllByRecursion, IsDistinct}
use Rattle.ob_types.specs.TypedSyntax.{Module}
use Rattle.ob_types.specs.TypedView.{module_view}
use Rattle.ob_env.specs.Faces.{described}
use Rattle.ob_env.specs.Shown.{shown}
use Rattle.law_typing_forms.proofs.Modules.{of_all}
use Rattle.law_names_procedures.specs.Procedures.{ShowBases}
use Rattle.law_names_procedures.proofs.Texts.{headings_are_named}
use Rattle.law_spelling.proofs.Reading.{readings_named}
use Rattle.law_spelling_values.proofs.Outward.{laid_differ}
use Rattle.law_local.proofs.Compiled.{checked_name}
use Rattle.ob_compile_model.specs.Compiling.{Compiled}
use Rattle.ob_builds.specs.Builds.{Text, Build, shows_of, tree_of, name_of}
use Rattle.ob_builds.specs.Local.{Locality}
use Rattle.ob_builds.specs.Written.{BuildsAreWritten}
use Rattle.law_builds.proofs.Gone.{all_valid}
use Rattle.law_builds.proofs.Members.{In}
use Rattle.law_builds.proofs.Faces.{of_is}
use Rattle.law_program_runs.specs.Builds.{program_of, AreLoaded}
use Rattle.law_program_image.specs.Premises.{TypesDiffer, LoadedAreSound}
use Rattle.law_builds_loaded.specs.Loaded.{LoadedAreWhole}
use Rattle.law_program_image.specs.Like.{AreLike}
use Rattle.law_builds_loaded.proofs.inherited_laws.Checked.{checked_at}
use Rattle.law_builds_loaded.proofs.inherited_laws.Loaded.{IsSome, tree_in, all_shown, in_front, in_middle}
use Rattle.law_builds_types.specs.pointed_laws.Pointed.{LoadedShowBases}
use Rattle.law_builds_methods.proofs.belonging_laws.Loaded.{shows_name}
use Rattle.law_builds_methods.specs.likeness_laws.Checked.{HasText}
use Rattle.law_builds_methods.specs.likeness_laws.Loaded.{LoadedLike}
use Rattle.law_builds_methods.proofs.likeness_laws.Modules.{checked_like}

module _ (written : BuildsAreWritten) (locality : Locality) (differ : TypesDiffer) (sound : LoadedAreSound) (whole : LoadedAreWhole) (bases : LoadedShowBases) where
  -- a build among others
  has_text : (before : List Build) (b : Build) (after : List Build) → AreLoaded (before ++ b ∷ after) → HasText (program_of (before ++ b ∷ after)) (tree_of b)
  has_text before b after l =
      let all = before ++ b ∷ after in
      let valid : (x : Build) → In all x → IsSome x = λ x i. of_all IsSome all x (all_valid all l.together) i in
      let k = checked_at written locality before b after l in
      let v = valid b (in_middle before b after) in
      let faces = map shows_of before in
      let tree_name : (tree_of b).name ≡ k.tree.name.name = ap (λ (m : Module). m.name) k.is ∙ checked_name (shown faces) k.tree k.t k.checked_is in
      let name : name_of b ≡ k.tree.name.name = shows_name b v ∙ tree_name in
      let types : IsDistinct bytes_eq (map (λ t. t.name) (tree_of b).types) = subst (λ (x : Compiled Text). IsDistinct bytes_eq (map (λ t. t.name) x.tree.types)) (sym (of_is b v.0 v.1)) (differ b v.0 v.1) in
      record {
        tree = k.tree;
        faces = faces;
        typed = k.t;
        checked_is = k.checked_is;
        types = described faces;
        is = k.is;
        age = all_shown all before (λ x i. in_front before (b ∷ after) x i) valid;
        bases = subst (λ (n : List ℕ). ShowBases (shown faces) n) name (bases before b after l);
        differ = laid_differ (described faces) (module_view k.t) k.t.types (subst (λ (x : Module). IsDistinct bytes_eq (map (λ t. t.name) x.types)) k.is types);
        plainly = headings_are_named b.source k.tree k.read;
        named = (readings_named b.source k.tree k.read).decls;
      }

  all_like : (all before after : List Build) → all ≡ before ++ after → AreLoaded all → AllByRecursion (AreLike (program_of all)) (program_of after)
  all_like all before [] e l = tt
  all_like all before (b ∷ after) e l =
      let program = program_of all in
      let same : AreLoaded (before ++ b ∷ after) = subst AreLoaded e l in
      let text : HasText program (tree_of b) = subst (λ xs. HasText (program_of xs) (tree_of b)) (sym e) (has_text before b after same) in (
        checked_like program (sound all l) (whole all l) (tree_of b) (tree_in all b (subst (λ xs. In xs b) (sym e) (in_middle before b after))) text,
        all_like all (before ++ b ∷ []) after (e ∙ sym (append_assoc before (b ∷ []) after)) l,
      )

pub loaded_like : LoadedLike
loaded_like written locality differ sound whole bases bs l = all_like written locality differ sound whole bases bs [] bs refl l
