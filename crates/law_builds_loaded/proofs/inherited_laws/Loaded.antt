-- The families of builds that are loaded together.
use Rattle.std.proofs.Common.{◌≡◌, List, [], ◌∷◌, ◌++◌, map, Some, refl, sym, ap, subst, ◌∙◌, append_assoc, inl, inr}
use Rattle.std.specs.Prelude.{bytes_eq}
use Rattle.std.specs.List.{AllByRecursion, IsDistinct}
use Rattle.ob_types.specs.declared.typed.Binding.{Binding}
use Rattle.ob_types.specs.declared.typed.TypedModule.{TypedModule}
use Rattle.ob_types.specs.declared.typed.TypedProcedure.{TypedProcedure}
use Rattle.ob_types.specs.TypedSyntax.{Procedure, Module}
use Rattle.ob_types.specs.TypedView.{module_view, procedure_view}
use Rattle.ob_meaning.specs.Values.{Program}
use Rattle.ob_env.specs.Faces.{described}
use Rattle.ob_env.specs.Shown.{shown}
use Rattle.ob_uses.specs.Objects.{objects_of}
use Rattle.law_simulation_relation.specs.Setting.{Setting}
use Rattle.law_typing_forms.specs.Said.{IsOneOf}
use Rattle.law_typing_forms.proofs.Modules.{of_all}
use Rattle.law_typing_env.specs.Ages.{IsShownBy, AreShown}
use Rattle.law_methods_introduced.specs.Families.{view, IsFamily}
use Rattle.law_methods_introduced.proofs.Families.{families_there}
use Rattle.law_spelling.proofs.Reading.{readings_named}
use Rattle.law_spelling_values.proofs.Outward.{laid_differ}
use Rattle.law_image_links.specs.Files.{AllKeepRules}
use Rattle.law_image_tables.specs.Settled.{TypesSettled, AllDeclared}
use Rattle.law_image_tables.specs.Counted.{FamiliesNumbered, number, AllBoundOnce}
use Rattle.law_image_tables.specs.Redefined.{RedefinitionsKept}
use Rattle.law_image_tables.proofs.Counted.{families_from_declarations}
use Rattle.ob_compile_model.specs.Compiling.{Compiled, texts}
use Rattle.ob_builds.specs.Builds.{Text, Build, IsValid, shows_of, tree_of}
use Rattle.ob_builds.specs.Local.{Locality}
use Rattle.ob_builds.specs.Written.{BuildsAreWritten}
use Rattle.law_builds.proofs.Compiled.{comes}
use Rattle.law_builds.proofs.Gone.{all_valid}
use Rattle.law_builds.proofs.Members.{In}
use Rattle.law_builds.proofs.Faces.{of_is}
use Rattle.law_program_runs.specs.Builds.{program_of, AreLoaded}
use Rattle.law_program_runs.proofs.Settings.{loaded_front}
use Rattle.law_program_image.specs.Owed.{in_program}
use Rattle.law_program_image.specs.Premises.{builds_of, TypesDiffer}
use Rattle.law_program_image.proofs.Settled.{sound_are_settled}
use Rattle.law_program_image.proofs.Declared.{loaded_are_declared}
use Rattle.law_program_image.proofs.Fit.{units, loaded_values_are, loaded_types_fit}
use Rattle.law_program_image.proofs.Numbered.{methods_are_numbered}
use Rattle.law_program_image.specs.Families.{IsBinding, HasBindings}
use Rattle.law_program_image.specs.Named.{IsNamed}
use Rattle.law_program_image.proofs.Introduced.{families_are_introduced}
use Rattle.law_program_image.proofs.Once.{bindings_are_once}
use Rattle.law_program_image.proofs.Named.{bindings_are_named}
use Rattle.law_program_image.proofs.Like.{like_are_redefined}
use Rattle.law_builds_loaded.specs.inherited_laws.Laws.{LoadedHaveBindings, LoadedFamiliesFit, LoadedKeepRules}
use Rattle.law_builds_loaded.proofs.inherited_laws.Checked.{checked_at}

-- ---- one build

abbrev pub IsSome : Build → Type 0
IsSome b = (c : Compiled Text) × IsValid b c

pub tree_in : (xs : List Build) (b : Build) → In xs b → IsOneOf (program_of xs) (tree_of b)
tree_in [] b i = absurd i
tree_in (x ∷ xs) b (inl e) = inl (ap tree_of e)
tree_in (x ∷ xs) b (inr i) = inr (tree_in xs b i)

-- it shows its module
pub shows_module : (all : List Build) (b : Build) → In all b → IsSome b → IsShownBy (program_of all) (shows_of b)
shows_module all b i v =
    let is = (comes texts _ (Some b.source) v.0 v.1.is).is in
    let same = sym (of_is b v.0 v.1) in
    record {
      m = tree_of b;
      there = tree_in all b i;
      name = subst (λ (x : Compiled Text). x.shows.«module» ≡ x.tree.name) same (subst (λ (x : Compiled Text). x.shows.«module» ≡ x.tree.name) (sym is) refl);
      objects = subst (λ (x : Compiled Text). x.shows.objects ≡ objects_of x.tree) same (subst (λ (x : Compiled Text). x.shows.objects ≡ objects_of x.tree) (sym is) refl);
    }

pub all_shown : (all xs : List Build) → ((b : Build) → In xs b → In all b) → ((b : Build) → In all b → IsSome b) → AreShown (program_of all) (map shows_of xs)
all_shown all [] i v = tt
all_shown all (b ∷ xs) i v = (shows_module all b (i b (inl refl)) (v b (i b (inl refl))), all_shown all xs (λ x j. i x (inr j)) v)

pub in_front : (xs ys : List Build) (b : Build) → In xs b → In (xs ++ ys) b
in_front [] ys b i = absurd i
in_front (x ∷ xs) ys b (inl e) = inl e
in_front (x ∷ xs) ys b (inr i) = inr (in_front xs ys b i)

pub in_middle : (xs : List Build) (b : Build) (ys : List Build) → In (xs ++ b ∷ ys) b
in_middle [] b ys = inl refl
in_middle (x ∷ xs) b ys = inr (in_middle xs b ys)

-- what is bound in a checked module, as its view has it
module _ (before : List Build) (t : TypedModule) where
  abbrev Bound : Procedure → Type 0
  Bound p = (b : Binding) → p.binding ≡ Some b → IsBinding (shown (map shows_of before)) t p b

  viewed_bound : (ps : List TypedProcedure) → AllByRecursion (λ p. (b : Binding) → p.binding ≡ Some b → IsFamily (view (shown (map shows_of before)) t) t.name b) ps → AllByRecursion IsNamed ps → AllByRecursion Bound (map procedure_view ps)
  viewed_bound [] f n = tt
  viewed_bound (p ∷ ps) f n = ((λ b e. record { family = f.0 b e; name = n.0 b e }), viewed_bound ps f.1 n.1)

module _ (written : BuildsAreWritten) (locality : Locality) (differ : TypesDiffer) where
  -- a build among others
  has_bindings : (before : List Build) (b : Build) (after : List Build) → AreLoaded (before ++ b ∷ after) → HasBindings (program_of (before ++ b ∷ after)) (tree_of b)
  has_bindings before b after l =
      let all = before ++ b ∷ after in
      let valid : (x : Build) → In all x → IsSome x = λ x i. of_all IsSome all x (all_valid all l.together) i in
      let k = checked_at written locality before b after l in
      let v = valid b (in_middle before b after) in
      let faces = map shows_of before in
      let types : IsDistinct bytes_eq (map (λ t. t.name) (tree_of b).types) = subst (λ (x : Compiled Text). IsDistinct bytes_eq (map (λ t. t.name) x.tree.types)) (sym (of_is b v.0 v.1)) (differ b v.0 v.1) in
      let apart = laid_differ (described faces) (module_view k.t) k.t.types (subst (λ (x : Module). IsDistinct bytes_eq (map (λ t. t.name) x.types)) k.is types) in
      let named = (readings_named b.source k.tree k.read).decls in
      record {
        checked = k.t;
        types = described faces;
        faces = faces;
        age = all_shown all before (λ x i. in_front before (b ∷ after) x i) valid;
        is = k.is;
        bindings = subst (λ (x : Module). AllByRecursion (Bound before k.t) x.procedures) (sym k.is)
            (viewed_bound before k.t k.t.procedures (families_there (shown faces) k.tree k.t k.checked_is apart named) (bindings_are_named (shown faces) k.tree k.t k.checked_is apart named));
      }

  all_bindings : (all before after : List Build) → all ≡ before ++ after → AreLoaded all → AllByRecursion (HasBindings (program_of all)) (program_of after)
  all_bindings all before [] e l = tt
  all_bindings all before (b ∷ after) e l = (
    subst (λ xs. HasBindings (program_of xs) (tree_of b)) (sym e) (has_bindings before b after (subst AreLoaded e l)),
    all_bindings all (before ++ b ∷ []) after (e ∙ sym (append_assoc before (b ∷ []) after)) l,
  )

pub loaded_have_bindings : LoadedHaveBindings
loaded_have_bindings written locality differ bs l = all_bindings written locality differ bs [] bs refl l

-- ---- all of them

all_once : (c : Setting) (program p : Program) (xs : List Build) → AllByRecursion (HasBindings program) (program_of xs) → AllKeepRules c (map (in_program p) xs) → AllBoundOnce (map (in_program p) xs)
all_once c program p [] h rules = tt
all_once c program p (b ∷ xs) h rules = (bindings_are_once program (tree_of b) h.0 rules.0.different, all_once c program p xs h.1 rules.1)

pub loaded_families_fit : LoadedFamiliesFit
loaded_families_fit written locality differ are_sound whole laid describe same bs more l c is rules =
    let first = loaded_front bs more l in
    let program = program_of bs in
    let sound = are_sound bs first in
    let bindings = loaded_have_bindings written locality differ bs first in
    let given : FamiliesNumbered program = record {
      methods = methods_are_numbered program sound (whole bs first) (laid bs first);
      introduced = families_are_introduced program sound (whole bs first) bindings;
    } in
    let k = families_from_declarations c (builds_of bs) (is.program ∙ units program bs)
    (subst TypesSettled (sym is.program) (sound_are_settled program sound))
    (subst (λ p. AllDeclared p (builds_of bs)) (sym is.program) (loaded_are_declared written differ are_sound describe same bs more l c is))
    (subst FamiliesNumbered (sym is.program) given)
    (all_once c program program bs bindings rules) in
    record { differ = k.0; families = k.1 }

pub loaded_keep_rules : LoadedKeepRules
loaded_keep_rules written locality differ are_sound whole laid describe same like bs more l c is modules bodies =
    let first = loaded_front bs more l in
    let program = program_of bs in
    let types = loaded_types_fit written differ are_sound describe same bs more l c is modules in
    let families = loaded_families_fit written locality differ are_sound whole laid describe same bs more l c is modules in
    let values = loaded_values_are bs more c is in
    record {
      modules = modules;
      bodies = bodies;
      forms = types.forms;
      built = types.built;
      sizes = types.sizes;
      bases = types.bases;
      number = number c.program;
      differ = families.differ;
      families = families.families;
      redefinitions = subst RedefinitionsKept (sym is.program) (like_are_redefined program (are_sound bs first) (whole bs first) (loaded_have_bindings written locality differ bs first) (like bs first));
      values = values.procedures;
      match = values.match;
    }
