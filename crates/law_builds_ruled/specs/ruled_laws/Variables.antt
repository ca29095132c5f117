-- The types of the variables of a checked module.
use Rattle.std.specs.Prelude.{◌≡◌, ℕ, true, false, List, Option, Some}
use Rattle.std.specs.List.{AllByRecursion}
use Rattle.ob_tree.specs.declared.names.QName.{QName}
use Rattle.ob_tree.specs.declared.decl.Module.{Module as Tree}
use Rattle.ob_types.specs.declared.desc.Desc.{Desc}
use Rattle.ob_types.specs.declared.desc.Desc.TheVariants as desc
use Rattle.ob_types.specs.declared.typed.TypedType.{TypedType}
use Rattle.ob_types.specs.declared.typed.TypedVariable.{TypedVariable}
use Rattle.ob_types.specs.declared.typed.TypedModule.{TypedModule}
use Rattle.ob_rules.specs.Shapes.{is_open}
use Rattle.ob_rules.specs.Names.{Around, map_of}
use Rattle.ob_rules.specs.Declarations.{checked}
use Rattle.law_names_distinct.specs.Distinct.{AreDistinct}
use Rattle.law_typing_forms.specs.Said.{IsOneOf}
use Rattle.law_body_context.specs.Spelled.{tree_spelled}
use Rattle.law_body_context.specs.Knows.{Stands}
use Rattle.law_body_context.specs.Judged.{HasMore}
use Rattle.law_body_context.specs.Laws.{AreOthers}

-- what an alias is equated to stands
abbrev pub AliasStands : List ℕ → (QName → Option Desc) → List TypedType → Desc → Type 0
AliasStands unit shown own (desc.Alias m t) = Stands unit shown own t
AliasStands unit shown own d = Unit {0}

-- one of these types has the name, and both have perhaps more bound procedures than one description
pub record IsSameType (types : List TypedType) (t : TypedType) : Type 0 where
  pub s : TypedType
  pub there : IsOneOf types s
  pub name : s.name ≡ t.name
  pub d : Desc
  pub here : HasMore d t.desc
  pub told : HasMore d s.desc

-- Where the variable is declared its type stands and is no open array, and what is known there is told by these types of the module.
pub record IsDeclaredWell (unit : List ℕ) (shown : QName → Option Desc) (types : List TypedType) (v : TypedVariable) : Type 0 where
  pub w : Around
  pub unit_is : w.unit ≡ unit
  pub shown_is : w.shown ≡ shown
  pub aliases : AllByRecursion (λ s. AliasStands unit shown w.own s.desc) w.own
  pub told : (t : TypedType) → IsOneOf w.own t → IsSameType types t
  pub stands : Stands unit shown w.own v.of
  pub closed : is_open (map_of w) v.of ≡ false

-- SO IS EACH VARIABLE of a checked module that imports others alone, and whose types differ in name.
abbrev pub VariablesAreDeclared : Type 0
VariablesAreDeclared = (shown : QName → Option Desc) (tree : Tree) (m : TypedModule) → checked shown tree ≡ Some m → tree_spelled tree ≡ true → AreOthers tree.name.name tree.imports → AreDistinct (λ t. t.name) m.types → AllByRecursion (IsDeclaredWell m.name shown m.types) m.variables
