-- What the rules make of names and types, so that they have a spelling.
use Rattle.std.specs.Prelude.{◌≡◌, ℕ, ◌<◌, List, ◌++◌, Option, Some, true, IfSome}
use Rattle.std.specs.List.{AllByRecursion}
use Rattle.ob_tree.specs.declared.names.QName.{QName}
use Rattle.ob_tree.specs.declared.decl.Module.{Module as Tree}
use Rattle.ob_types.specs.declared.types.TypeRef.TheVariants as ref
use Rattle.ob_types.specs.declared.value.Value.{Value}
use Rattle.ob_types.specs.declared.value.Value.TheVariants as literal
use Rattle.ob_types.specs.declared.desc.Desc.{Desc}
use Rattle.ob_types.specs.declared.desc.Desc.TheVariants as desc
use Rattle.ob_types.specs.declared.typed.TypedConstant.{TypedConstant}
use Rattle.ob_types.specs.declared.typed.TypedType.{TypedType}
use Rattle.ob_types.specs.declared.typed.TypedProcedure.{TypedProcedure}
use Rattle.ob_types.specs.declared.typed.TypedModule.{TypedModule}
use Rattle.ob_format.specs.Names.{is_object}
use Rattle.ob_desc.specs.Grammar.{type_fits, signature}
use Rattle.ob_rules.specs.declared.entity.Entity.{Entity}
use Rattle.ob_rules.specs.declared.entity.Entity.TheVariants as entity
use Rattle.ob_rules.specs.declared.entity.Known.{Known}
use Rattle.ob_rules.specs.Names.{Around}
use Rattle.ob_rules.specs.Declarations.{checked}
use Rattle.law_spelling.specs.Trees.{IsNamed, RecordIsSpelled, VariableIsSpelled}
use Rattle.law_spelling.specs.Raw.{IsNamedTree}

-- a description of a type whose names have a spelling, and whose length is a number from 1 on
abbrev pub TypeNames : Desc → Type 0
TypeNames (desc.Const v) = ⊥
TypeNames (desc.Var m t) = ⊥
TypeNames (desc.Proc s) = ⊥
TypeNames (desc.Alias m t) = type_fits t
TypeNames (desc.Array m n t) = (0 < n) × type_fits t
TypeNames (desc.OpenArray m t) = type_fits t
TypeNames (desc.Pointer m t) = type_fits t
TypeNames (desc.ProcType m s) = signature.fits s
TypeNames (desc.Record r) = RecordIsSpelled r

abbrev pub TypeOk : TypedType → Type 0
TypeOk t = (is_object t.name ≡ true) × TypeNames t.desc

abbrev pub EntityOk : Entity → Type 0
EntityOk (entity.TypeName t) = type_fits t
EntityOk e = Unit {0}

abbrev pub KnownOk : Known → Type 0
KnownOk k = EntityOk k.what

abbrev pub ShownOk : (QName → Option Desc) → Type 0
ShownOk shown = (q : QName) (d : Desc) → shown q ≡ Some d → type_fits (ref.Named q)

-- what stands around: names that begin others, names of types that are known, and types of the module
pub record AroundOk (u : Around) : Type 0 where
  pub unit : IsNamed u.unit
  pub front : (x : List ℕ) → is_object x ≡ true → is_object (u.path ++ x) ≡ true
  pub later : AllByRecursion IsNamed u.later_types
  pub known : AllByRecursion KnownOk u.known
  pub own : AllByRecursion TypeOk u.own
  pub shown : ShownOk u.shown

-- not NIL
abbrev pub IsValue : Value → Type 0
IsValue literal.Nil = ⊥
IsValue v = Unit {0}

abbrev pub ConstantOk : TypedConstant → Type 0
ConstantOk c = IsNamed c.name × IsValue c.value

-- the types of parameters and of the result
pub record ProcedureTypes (p : TypedProcedure) : Type 0 where
  pub parameters : AllByRecursion (λ x. type_fits x.of) p.parameters
  pub result : IfSome p.result type_fits

pub record ModuleOk (m : TypedModule) : Type 0 where
  pub constants : AllByRecursion ConstantOk m.constants
  pub types : AllByRecursion TypeOk m.types
  pub variables : AllByRecursion VariableIsSpelled m.variables
  pub procedures : AllByRecursion ProcedureTypes m.procedures

-- So they are of a module whose names are identifiers.
abbrev pub ModulesAreNamed : Type 0
ModulesAreNamed = (shown : QName → Option Desc) → ShownOk shown → (tree : Tree) → IsNamedTree tree → (m : TypedModule) → checked shown tree ≡ Some m → ModuleOk m
