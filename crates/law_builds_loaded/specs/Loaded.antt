-- Builds that are loaded together: their modules stand in order, and what is so of some is so of them with one more behind.
use Rattle.std.specs.Prelude.{◌≡◌, true, List, [], ◌∷◌, ◌++◌, Some, Contains}
use Rattle.std.specs.List.{AllByRecursion, flat_map}
use Rattle.ob_tree.specs.declared.names.QName.{QName}
use Rattle.ob_types.specs.declared.types.TypeRef.{TypeRef}
use Rattle.ob_types.specs.declared.desc.Desc.{Desc}
use Rattle.ob_types.specs.declared.desc.Desc.TheVariants as desc
use Rattle.ob_types.specs.Maps.{IsHeld, signature_types}
use Rattle.ob_types.specs.Relations.{IsGrounded, Is, is_open}
use Rattle.ob_types.specs.declared.desc.RecordDesc.{RecordDesc}
use Rattle.ob_meaning.specs.Values.{Formals, description}
use Rattle.law_simulation_relation.specs.Layout.{module_held}
use Rattle.law_simulation_relation.specs.Linked.{OwnFormsOk}
use Rattle.law_simulation_relation.specs.Relation.{IsLength}
use Rattle.ob_layout.specs.LaidOut.{viewed}
use Rattle.ob_env.specs.Faces.{described}
use Rattle.law_names_distinct.specs.Distinct.{AreDistinct}
use Rattle.law_local_files.specs.Agreeing.{Map, IsNear, On}
use Rattle.law_typing_forms.specs.Formed.{IsMethodOf}
use Rattle.law_typing_forms.specs.Said.{IsSound}
use Rattle.law_typing_forms.specs.Whole.{IsWhole}
use Rattle.law_builds_ruled.specs.ruled_laws.Ruled.{BuildsAreRuled}
use Rattle.law_typing_env.specs.Ordered.{StandInOrder}
use Rattle.law_typing_env.specs.Words.{AreLaidInOrder}
use Rattle.law_image_code.specs.Described.{IsDescribed}
use Rattle.law_typing_values.specs.Valued.{values}
use Rattle.ob_compile_model.specs.Compiling.{Compiled}
use Rattle.ob_builds.specs.Builds.{Text, Build, IsValid, tree_of}
use Rattle.ob_builds.specs.Written.{BuildsAreWritten}
use Rattle.law_program_runs.specs.Builds.{program_of, AreLoaded, FormsStay}

-- THE LAWS

-- each module stands over those before it
abbrev pub LoadedStand : Type 0
LoadedStand = BuildsAreWritten → BuildsAreRuled → (bs : List Build) → AreLoaded bs → StandInOrder [] (program_of bs)

-- types of a program stay what they are
abbrev pub LoadedFormsStay : Type 0
LoadedFormsStay = BuildsAreWritten → BuildsAreRuled → (bs : List Build) (b : Build) → AreLoaded (bs ++ b ∷ []) → FormsStay (program_of bs) (tree_of b)

-- values stay values
abbrev pub LoadedValuesStay : Type 0
LoadedValuesStay = BuildsAreWritten → BuildsAreRuled → (bs : List Build) (b : Build) → AreLoaded (bs ++ b ∷ []) → (fs : Formals) (q : QName) → values (program_of bs) fs q ≡ true → values (program_of bs ++ tree_of b ∷ []) fs q ≡ true

-- the bound procedures that the records of a program introduce are there
abbrev pub BoundAreThere : Type 0
BoundAreThere = (bs : List Build) → AreLoaded bs → (q : QName) (r : RecordDesc) → description (program_of bs) q ≡ Some (desc.Record r) → AllByRecursion (λ m. IsMethodOf (program_of bs) q m) r.methods

-- where they are, its types are sound
abbrev pub LoadedAreSound : Type 0
LoadedAreSound = BuildsAreWritten → BuildsAreRuled → BoundAreThere → (bs : List Build) → AreLoaded bs → IsSound (program_of bs)

-- variables of modules can have first values
abbrev pub LoadedVariables : Type 0
LoadedVariables = BuildsAreWritten → BuildsAreRuled → BoundAreThere → (bs : List Build) → AreLoaded bs → (b : Build) → Contains bs b → OwnFormsOk (program_of bs) (module_held (program_of bs) (tree_of b))

-- each module declares different names, and parameters are passed as their types ask for
abbrev pub LoadedAreWhole : Type 0
LoadedAreWhole = (bs : List Build) → AreLoaded bs → IsWhole (program_of bs)

-- the records of each module are laid out over those before it
abbrev pub LoadedAreLaid : Type 0
LoadedAreLaid = (bs : List Build) → AreLoaded bs → AreLaidInOrder [] (program_of bs)

-- the declarations of a program say the words, places and elements that its types have
abbrev pub LoadedDescribe : Type 0
LoadedDescribe = BuildsAreWritten → BuildsAreRuled → BoundAreThere → LoadedAreWhole → LoadedAreLaid → (bs : List Build) → AreLoaded bs → IsDescribed (description (program_of bs)) (program_of bs)
