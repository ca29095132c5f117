-- The bound procedures that the records of a checked module introduce.
use Rattle.std.specs.Prelude.{◌≡◌, ◌⊎◌, ◌≤◌, List, [], ◌++◌, Option, Some, codes}
use Rattle.std.specs.List.{AllByRecursion}
use Rattle.ob_tree.specs.declared.names.QName.{QName}
use Rattle.ob_tree.specs.declared.decl.Module.{Module as Tree}
use Rattle.ob_types.specs.declared.desc.Desc.{Desc}
use Rattle.ob_types.specs.declared.desc.Desc.TheVariants as desc
use Rattle.ob_types.specs.declared.desc.Method.{Method}
use Rattle.ob_types.specs.declared.typed.TypedType.{TypedType}
use Rattle.ob_types.specs.declared.typed.TypedParameter.{TypedParameter}
use Rattle.ob_types.specs.declared.typed.TypedProcedure.{TypedProcedure}
use Rattle.ob_types.specs.declared.typed.TypedModule.{TypedModule}
use Rattle.ob_rules.specs.Headings.{no_signature}
use Rattle.ob_rules.specs.Declarations.{checked}
use Rattle.law_typing_forms.specs.Said.{IsOneOf}
use Rattle.law_body_context.specs.Judged.{AreOf}

abbrev pub methods_of : Desc → List Method
methods_of (desc.Record r) = r.methods
methods_of d = []

-- an array has elements
abbrev pub HasElements : Desc → Type 0
HasElements (desc.Array m n t) = 1 ≤ n
HasElements d = Unit {0}

-- One of these procedures has the name of the type and of the bound procedure, and its signature behind the receiver.
pub record HasProcedure (ps : List TypedProcedure) (t : TypedType) (k : Method) : Type 0 where
  pub p : TypedProcedure
  pub there : IsOneOf ps p
  pub name : p.name ≡ t.name ++ codes "." ++ k.name
  pub self : List TypedParameter
  pub rest : List TypedParameter
  pub parameters : p.parameters ≡ self ++ rest
  pub are : AreOf rest k.signature.params
  pub result : p.result ≡ k.signature.result

-- a heading that breaks a rule says nothing
abbrev pub IsThere : List TypedProcedure → TypedType → Method → Type 0
IsThere ps t k = (k.signature ≡ no_signature) ⊎ HasProcedure ps t k

-- THE LAWS
abbrev pub MethodsAreThere : Type 0
MethodsAreThere = (shown : QName → Option Desc) (tree : Tree) (m : TypedModule) → checked shown tree ≡ Some m → AllByRecursion (λ t. AllByRecursion (IsThere m.procedures t) (methods_of t.desc)) m.types

-- each array of a checked module has elements
abbrev pub ArraysHaveElements : Type 0
ArraysHaveElements = (shown : QName → Option Desc) (tree : Tree) (m : TypedModule) → checked shown tree ≡ Some m → AllByRecursion (λ t. HasElements t.desc) m.types
