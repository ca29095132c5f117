-- What the rules see to of each build.
use Rattle.std.specs.Prelude.{List, []}
use Rattle.std.specs.List.{AllByRecursion, flat_map}
use Rattle.ob_types.specs.declared.types.TypeRef.{TypeRef}
use Rattle.ob_types.specs.declared.desc.Desc.{Desc}
use Rattle.ob_types.specs.declared.desc.Desc.TheVariants as desc
use Rattle.ob_types.specs.Maps.{IsHeld, signature_types}
use Rattle.ob_types.specs.Relations.{IsGrounded, Is, is_open}
use Rattle.law_simulation_relation.specs.Relation.{IsLength}
use Rattle.ob_layout.specs.LaidOut.{viewed}
use Rattle.ob_env.specs.Faces.{described}
use Rattle.law_names_distinct.specs.Distinct.{AreDistinct}
use Rattle.law_local_files.specs.Agreeing.{Map, IsNear, On}
use Rattle.ob_compile_model.specs.Compiling.{Compiled}
use Rattle.ob_builds.specs.Builds.{Text, Build, IsValid}

-- the descriptions that a module was compiled with
abbrev pub types_of : Compiled Text → Map
types_of c = viewed (described c.against) c.tree

-- the types of the parameters and the results of the bound procedures of a record
abbrev pub bound_types : Desc → List TypeRef
bound_types (desc.Record r) = flat_map (λ m. signature_types m.signature) r.methods
bound_types d = []

-- an array has a length
abbrev pub HasLength : Desc → Type 0
HasLength (desc.Array m n t) = IsLength n
HasLength d = Unit {0}

-- What the rules see to of a module that compiles, in the descriptions that it was compiled with: its types differ in name, arrays have
-- lengths, and the map with them is grounded; what the bound procedures of its records take and give counts for its uses; and its
-- variables have types, which are no open arrays.
pub record IsRuled (c : Compiled Text) : Type 0 where
  pub names : AreDistinct (λ t. t.name) c.tree.types
  pub grounded : IsGrounded (types_of c)
  pub bound : AllByRecursion (λ t. AllByRecursion (On (IsNear (types_of c) c.tree)) (bound_types t.desc)) c.tree.types
  pub lengths : AllByRecursion (λ t. HasLength t.desc) c.tree.types
  pub variables : AllByRecursion (λ v. IsHeld (types_of c) v.of) c.tree.variables
  pub closed : AllByRecursion (λ v. Is (types_of c) is_open v.of → ⊥) c.tree.variables

abbrev pub BuildsAreRuled : Type 0
BuildsAreRuled = (b : Build) (c : Compiled Text) → IsValid b c → IsRuled c

-- THE LAW: so it is of each build, where types differ in name and the map is grounded.
abbrev pub BuildsDiffer : Type 0
BuildsDiffer = (b : Build) (c : Compiled Text) → IsValid b c → AreDistinct (λ t. t.name) c.tree.types

abbrev pub BuildsAreGrounded : Type 0
BuildsAreGrounded = (b : Build) (c : Compiled Text) → IsValid b c → IsGrounded (types_of c)

abbrev pub BuildsKeepRules : Type 0
BuildsKeepRules = BuildsDiffer → BuildsAreGrounded → BuildsAreRuled
