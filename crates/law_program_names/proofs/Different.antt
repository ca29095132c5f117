-- Modules of builds that are loaded together have different names, and the variables of each have.
use Rattle.std.proofs.Common.{◌≡◌, ◌≢◌, ℕ, Bool, true, false, List, [], ◌∷◌, ◌++◌, map, Some, refl, sym, ap, subst, ◌∙◌}
use Rattle.std.specs.Prelude.{Contains, bytes_eq}
use Rattle.std.specs.List.{AllByRecursion}
use Rattle.ob_types.specs.declared.typed.TypedVariable.{TypedVariable}
use Rattle.ob_types.specs.TypedSyntax.{Module}
use Rattle.ob_types.specs.TypedView.{module_view}
use Rattle.ob_meaning.specs.Values.{Program}
use Rattle.ob_meaning.specs.Calls.{held_variable}
use Rattle.law_simulation_relation.specs.Relation.{Fresh, AreDifferent, FreshModule, ModulesOk}
use Rattle.law_simulation_relation.proofs.Names.{bytes_true}
use Rattle.ob_compile_model.specs.Compiling.{Compiled}
use Rattle.law_names_distinct.specs.Distinct.{AreDistinct}
use Rattle.law_names_distinct.proofs.Blocks.{variables_differ}
use Rattle.ob_builds.specs.Builds.{Text, Build, IsValid, of, tree_of, name_of}
use Rattle.ob_builds.specs.Afresh.{IsBehind, AreTogether}
use Rattle.law_builds.proofs.Members.{has_left, has_right, has_head}
use Rattle.law_builds.proofs.Faces.{of_is}
use Rattle.law_program_runs.specs.Builds.{program_of}
use Rattle.law_typing_forms.specs.Whole.{Different}
use Rattle.law_program_names.specs.Sizes.{ModulesDiffer, NamesDiffer}
use Rattle.law_program_names.proofs.Coming.{ComesFrom, comes_from}

-- a valid build comes from its source
pub build_comes : (b : Build) (c : Compiled Text) → IsValid b c → ComesFrom b.source (of b)
build_comes b c v = subst (ComesFrom b.source) (sym (of_is b c v)) (comes_from b.source c _ v.is)

-- a module shows its own name
pub shows_name : (b : Build) (c : Compiled Text) → IsValid b c → name_of b ≡ (tree_of b).name
shows_name b c v = let k = build_comes b c v in ap (λ (x : Compiled Text). x.shows.«module») k.is ∙ sym (ap (λ (x : Compiled Text). x.tree.name) k.is)

-- ---- variables

variables_distinct : (b : Build) (c : Compiled Text) → IsValid b c → AreDistinct (λ v. v.name) (tree_of b).variables
variables_distinct b c v =
    let k = build_comes b c v in
    subst (λ (x : Compiled Text). AreDistinct (λ (v : TypedVariable). v.name) x.tree.variables) (sym k.is) (variables_differ _ k.tree k.module_is k.checked_is)

other_name : (x y : List ℕ) → x ≢ y → bytes_eq x y ≡ false
other_name x y n = by (bytes_eq x y) refl
  where
    by : (b : Bool) → bytes_eq x y ≡ b → b ≡ false
    by true e = absurd (n (bytes_true x y e))
    by false e = refl

module _ (program : Program) where
  fresh_variable : (x : List ℕ) (vs : List TypedVariable) → AllByRecursion (λ v. v.name ≢ x) vs → Fresh x (map (held_variable program) vs)
  fresh_variable x [] h = tt
  fresh_variable x (v ∷ vs) h = (other_name x v.name (λ e. h.0 (sym e)), fresh_variable x vs h.1)

  different_variables : (vs : List TypedVariable) → AreDistinct (λ v. v.name) vs → AreDifferent (map (held_variable program) vs)
  different_variables [] h = tt
  different_variables (v ∷ vs) h = (fresh_variable v.name vs h.0, different_variables vs h.1)

-- ---- modules

-- none of those behind has a name of those before
pub names_fresh : (before : List Build) (x : List ℕ) → Contains (map name_of before) x → (bs : List Build) → AreTogether before bs → AllByRecursion (λ (m : Module). m.name ≢ x) (program_of bs)
names_fresh before x c [] h = tt
names_fresh before x c (b ∷ bs) h = (
  λ e. h.0.new (subst (Contains (map name_of before)) (sym e ∙ sym (shows_name b h.0.valid.0 h.0.valid.1)) c),
  names_fresh (before ++ b ∷ []) x (subst (λ ns. Contains ns x) (sym (mapped before b)) (has_left (map name_of before) (name_of b ∷ []) x c)) bs h.1,
)
  where
    mapped : (xs : List Build) (b : Build) → map name_of (xs ++ b ∷ []) ≡ map name_of xs ++ name_of b ∷ []
    mapped [] b = refl
    mapped (y ∷ ys) b = ap (λ r. name_of y ∷ r) (mapped ys b)

last_there : (xs : List Build) (b : Build) → Contains (map name_of (xs ++ b ∷ [])) (name_of b)
last_there [] b = has_head (name_of b) []
last_there (y ∷ ys) b = has_right (name_of y ∷ []) (map name_of (ys ++ b ∷ [])) (name_of b) (last_there ys b)

fresh_module : (x : List ℕ) (ms : List Module) → AllByRecursion (λ m. m.name ≢ x) ms → FreshModule x ms
fresh_module x [] h = tt
fresh_module x (m ∷ ms) h = (other_name x m.name (λ e. h.0 (sym e)), fresh_module x ms h.1)

all_ok : (program : Program) (before bs : List Build) → AreTogether before bs → ModulesOk program (program_of bs)
all_ok program before [] h = tt
all_ok program before (b ∷ bs) h =
    let c = h.0.valid.0 in
    let v = h.0.valid.1 in (
      fresh_module (tree_of b).name (program_of bs) (names_fresh (before ++ b ∷ []) (tree_of b).name (subst (Contains (map name_of (before ++ b ∷ []))) (shows_name b c v) (last_there before b)) bs h.1),
      (different_variables program (tree_of b).variables (variables_distinct b c v), all_ok program (before ++ b ∷ []) bs h.1),
    )

pub modules_differ : ModulesDiffer
modules_differ bs h = all_ok (program_of bs) [] bs h.together

-- the same of what makes a program whole
apart : (before bs : List Build) → AreTogether before bs → Different (λ (m : Module). m.name) (program_of bs)
apart before [] h = tt
apart before (b ∷ bs) h =
    let c = h.0.valid.0 in
    let v = h.0.valid.1 in
    (names_fresh (before ++ b ∷ []) (tree_of b).name (subst (Contains (map name_of (before ++ b ∷ []))) (shows_name b c v) (last_there before b)) bs h.1, apart (before ++ b ∷ []) bs h.1)

each_apart : (before bs : List Build) → AreTogether before bs → AllByRecursion (λ (m : Module). Different (λ v. v.name) m.variables) (program_of bs)
each_apart before [] h = tt
each_apart before (b ∷ bs) h = (variables_distinct b h.0.valid.0 h.0.valid.1, each_apart (before ++ b ∷ []) bs h.1)

pub names_differ : NamesDiffer
names_differ bs h = (apart [] bs h.together, each_apart [] bs h.together)
