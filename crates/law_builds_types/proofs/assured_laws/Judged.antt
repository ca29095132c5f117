-- Each module of builds that are loaded together is judged over the interfaces of those before it.
use Rattle.std.proofs.Common.{◌≡◌, inl, inr, refl, sym, ap, subst, ◌∙◌, ℕ, List, [], ◌∷◌, ◌++◌, map, Some, append_assoc}
use Rattle.std.specs.List.{AllByRecursion}
use Rattle.ob_types.specs.TypedSyntax.{Module}
use Rattle.ob_env.specs.Faces.{described}
use Rattle.ob_env.specs.Shown.{shown}
use Rattle.ob_compile_model.specs.Compiling.{Compiled, texts}
use Rattle.law_names_procedures.specs.Procedures.{ShowBases}
use Rattle.law_names_procedures.proofs.Texts.{headings_are_named}
use Rattle.law_spelling_read.proofs.Trees.{readings_spelled}
use Rattle.law_body_context.proofs.Expressions.{bodies_stand}
use Rattle.law_spelling_values.proofs.Shown.{spelled_shown}
use Rattle.law_local.proofs.Compiled.{comes_of, checked_name, apart_of}
use Rattle.law_typing_forms.proofs.Modules.{of_all}
use Rattle.law_program_context.specs.Judged.{IsJudgedModule}
use Rattle.ob_builds.specs.Builds.{Text, Build, IsSpelled, shows_of, tree_of, name_of}
use Rattle.ob_builds.specs.Local.{Locality}
use Rattle.ob_builds.specs.Written.{BuildsAreWritten}
use Rattle.law_builds.proofs.Compiled.{comes}
use Rattle.law_builds.proofs.Faces.{of_is}
use Rattle.law_builds.proofs.Gone.{all_valid}
use Rattle.law_builds.proofs.Members.{In}
use Rattle.law_program_runs.specs.Builds.{program_of, AreLoaded}
use Rattle.law_builds_loaded.proofs.inherited_laws.Checked.{checked_at}
use Rattle.law_builds_loaded.proofs.inherited_laws.Loaded.{IsSome, in_front, in_middle, all_shown}
use Rattle.law_builds_types.specs.pointed_laws.Pointed.{LoadedShowBases}
use Rattle.law_builds_types.specs.assured_laws.Judged.{LoadedAreJudged}
use Rattle.law_lists.proofs.Lists.{each_both}

pub all_spelled : BuildsAreWritten → (xs : List Build) → ((b : Build) → In xs b → IsSome b) → AllByRecursion IsSpelled (map shows_of xs)
all_spelled written [] v = tt
all_spelled written (b ∷ xs) v =
    let x = v b (inl refl) in
    (subst (λ (y : Compiled Text). IsSpelled y.shows) (sym (of_is b x.0 x.1)) (written b x.0 x.1).symbols, all_spelled written xs (λ y j. v y (inr j)))

-- a build shows the name of its module
pub shows_name : (b : Build) → IsSome b → name_of b ≡ (tree_of b).name
shows_name b v = subst (λ (x : Compiled Text). x.shows.«module» ≡ x.tree.name) (sym (of_is b v.0 v.1)) (subst (λ (x : Compiled Text). x.shows.«module» ≡ x.tree.name) (sym (comes texts _ (Some b.source) v.0 v.1.is).is) refl)

module _ (written : BuildsAreWritten) (locality : Locality) (bases : LoadedShowBases) where
  is_judged : (before : List Build) (b : Build) (after : List Build) → AreLoaded (before ++ b ∷ after) → IsJudgedModule (program_of (before ++ b ∷ after)) (tree_of b)
  is_judged before b after l =
      let all = before ++ b ∷ after in
      let valid : (x : Build) → In all x → IsSome x = λ x i. of_all IsSome all x (all_valid all l.together) i in
      let k = checked_at written locality before b after l in
      let v = valid b (in_middle before b after) in
      let faces = map shows_of before in
      let tree_name : (tree_of b).name ≡ k.tree.name.name = ap (λ (m : Module). m.name) k.is ∙ checked_name (shown faces) k.tree k.t k.checked_is in
      let name : name_of b ≡ k.tree.name.name = shows_name b v ∙ tree_name in
      record {
        before = program_of before;
        rest = program_of after;
        order = each_both tree_of before (b ∷ after);
        checked = k.t;
        types = described faces;
        faces = faces;
        is = k.is;
        age = all_shown before before (λ x i. i) (λ x i. valid x (in_front before (b ∷ after) x i));
        bodies = bodies_stand (shown faces) k.tree k.t k.checked_is (readings_spelled b.source k.tree k.read) (subst (λ (n : List ℕ). ShowBases (shown faces) n) name (bases before b after l)) (headings_are_named b.source k.tree k.read)
            (apart_of v.0 k.tree (comes_of b v.0 k.tree v.1 k.read)).imports (spelled_shown faces (all_spelled written before (λ x i. valid x (in_front before (b ∷ after) x i))));
      }

  all_judged : (all before after : List Build) → all ≡ before ++ after → AreLoaded all → AllByRecursion (IsJudgedModule (program_of all)) (program_of after)
  all_judged all before [] e l = tt
  all_judged all before (b ∷ after) e l = (
    subst (λ xs. IsJudgedModule (program_of xs) (tree_of b)) (sym e) (is_judged before b after (subst AreLoaded e l)),
    all_judged all (before ++ b ∷ []) after (e ∙ sym (append_assoc before (b ∷ []) after)) l,
  )

pub loaded_are_judged : LoadedAreJudged
loaded_are_judged written locality bases bs l = all_judged written locality bases bs [] bs refl l
