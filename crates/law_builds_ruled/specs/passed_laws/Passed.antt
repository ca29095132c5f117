-- How the parameters of a checked module are passed.
use Rattle.std.specs.Prelude.{◌≡◌, ℕ, true, false, List, Option, Some}
use Rattle.std.specs.List.{AllByRecursion}
use Rattle.ob_tree.specs.declared.names.QName.{QName}
use Rattle.ob_tree.specs.declared.decl.Module.{Module as Tree}
use Rattle.ob_types.specs.declared.types.Mode.{Mode}
use Rattle.ob_types.specs.declared.types.TypeRef.{TypeRef}
use Rattle.ob_types.specs.declared.desc.Desc.{Desc}
use Rattle.ob_types.specs.declared.typed.TypedType.{TypedType}
use Rattle.ob_types.specs.declared.typed.TypedParameter.{TypedParameter}
use Rattle.ob_types.specs.declared.typed.TypedProcedure.{TypedProcedure}
use Rattle.ob_types.specs.declared.typed.TypedModule.{TypedModule}
use Rattle.ob_types.specs.Maps.{listed}
use Rattle.ob_rules.specs.Shapes.{is_structured, passing_of}
use Rattle.ob_rules.specs.Names.{Around, map_of}
use Rattle.ob_rules.specs.Declarations.{checked}
use Rattle.law_names_distinct.specs.Distinct.{AreDistinct}
use Rattle.law_typing_forms.specs.Said.{IsOneOf}
use Rattle.law_typing_forms.specs.Formed.{IsDeclared}
use Rattle.law_body_context.specs.Spelled.{tree_spelled}
use Rattle.law_body_context.specs.Knows.{Stands}
use Rattle.law_body_context.specs.Laws.{AreOthers}
use Rattle.law_builds_ruled.specs.ruled_laws.Variables.{AliasStands, IsSameType, IsDeclaredWell}

-- Where the parameter is declared its type stands, and it is passed as what is known there of its type asks for; what is known there is
-- told by these types of the module.
pub record IsPassedWell (unit : List ℕ) (shown : QName → Option Desc) (types : List TypedType) (x : TypedParameter) : Type 0 where
  pub w : Around
  pub unit_is : w.unit ≡ unit
  pub shown_is : w.shown ≡ shown
  pub aliases : AllByRecursion (λ s. AliasStands unit shown w.own s.desc) w.own
  pub told : (t : TypedType) → IsOneOf w.own t → IsSameType types t
  pub stands : Stands unit shown w.own x.of
  pub mode : Mode
  pub passing : x.passing ≡ passing_of (map_of w) mode x.of

-- Where the type is named it stands, and is no array and no record.
pub record IsPlainWell (unit : List ℕ) (shown : QName → Option Desc) (types : List TypedType) (t : TypeRef) : Type 0 where
  pub w : Around
  pub unit_is : w.unit ≡ unit
  pub shown_is : w.shown ≡ shown
  pub aliases : AllByRecursion (λ s. AliasStands unit shown w.own s.desc) w.own
  pub told : (t : TypedType) → IsOneOf w.own t → IsSameType types t
  pub stands : Stands unit shown w.own t
  pub plain : is_structured (map_of w) t ≡ false

-- a procedure: its parameters, its result and its local variables
pub record ProcedureIsWell (unit : List ℕ) (shown : QName → Option Desc) (types : List TypedType) (p : TypedProcedure) : Type 0 where
  pub parameters : AllByRecursion (IsPassedWell unit shown types) p.parameters
  pub result : AllByRecursion IsDeclared (listed p.result)
  pub plain : AllByRecursion (IsPlainWell unit shown types) (listed p.result)
  pub locals : AllByRecursion (IsDeclaredWell unit shown types) p.locals

-- THE LAW: so is each procedure of a checked module that imports others alone, and whose types differ in name.
abbrev pub ProceduresAreWell : Type 0
ProceduresAreWell = (shown : QName → Option Desc) (tree : Tree) (m : TypedModule) → checked shown tree ≡ Some m → tree_spelled tree ≡ true → AreOthers tree.name.name tree.imports → AreDistinct (λ t. t.name) m.types → AllByRecursion (ProcedureIsWell m.name shown m.types) m.procedures
