-- What the rules have seen to of the names, values and types of a module, so that they have a spelling.
use Rattle.std.specs.Prelude.{◌≡◌, ◌≢◌, ℕ, ◌<◌, ◌≤◌, ◌^◌, List, length, map, true, IfSome, codes, bytes_eq}
use Rattle.std.specs.List.{AllByRecursion, IsDistinct}
use Rattle.std.specs.List.Sorted.{IsStrictlySortedBy}
use Rattle.std.specs.Ordering.{is_eq, nat_cmp}
use Rattle.std.specs.Cmp.Lexicographic.{slice_cmp}
use Rattle.ob_types.specs.declared.desc.Desc.{Desc}
use Rattle.ob_types.specs.declared.desc.Desc.TheVariants as desc
use Rattle.ob_types.specs.declared.desc.RecordDesc.{RecordDesc}
use Rattle.ob_types.specs.declared.desc.Field.{Field}
use Rattle.ob_types.specs.declared.desc.Method.{Method}
use Rattle.ob_types.specs.declared.typed.TypedConstant.{TypedConstant}
use Rattle.ob_types.specs.declared.typed.TypedVariable.{TypedVariable}
use Rattle.ob_types.specs.declared.typed.TypedType.{TypedType}
use Rattle.ob_types.specs.TypedSyntax.{Procedure, Module}
use Rattle.ob_format.specs.Names.{is_identifier, object_name}
use Rattle.ob_desc.specs.Grammar.{type_fits, value_fits, signature, by_number}
use Rattle.law_methods_described.specs.Described.{is_whole}
use Rattle.ob_uses.specs.Objects.{signature_of, is_exported}

-- ---- names, values and types

abbrev pub IsNamed : List ℕ → Type 0
IsNamed x = is_identifier x ≡ true

abbrev pub FieldIsSpelled : Field → Type 0
FieldIsSpelled f = IsNamed f.name × type_fits f.of

-- a bound procedure is exported in full or hidden
pub record MethodIsSpelled (p : Method) : Type 0 where
  pub name : IsNamed p.name
  pub mark : is_whole p.mark ≡ true
  pub signature_is : signature.fits p.signature

pub record RecordIsSpelled (r : RecordDesc) : Type 0 where
  pub base : IfSome r.base type_fits
  pub fields : AllByRecursion FieldIsSpelled r.fields
  pub methods : AllByRecursion MethodIsSpelled r.methods

-- a description of a type whose names have a spelling, and whose length is a number from 1 on
abbrev pub TypeIsSpelled : Desc → Type 0
TypeIsSpelled (desc.Const v) = ⊥
TypeIsSpelled (desc.Var m t) = ⊥
TypeIsSpelled (desc.Proc s) = ⊥
TypeIsSpelled (desc.Alias m t) = type_fits t
TypeIsSpelled (desc.Array m n t) = (0 < n) × (n < 2 ^ 31) × type_fits t
TypeIsSpelled (desc.OpenArray m t) = type_fits t
TypeIsSpelled (desc.Pointer m t) = type_fits t
TypeIsSpelled (desc.ProcType m s) = signature.fits s
TypeIsSpelled (desc.Record r) = RecordIsSpelled r

abbrev pub ConstantIsSpelled : TypedConstant → Type 0
ConstantIsSpelled c = IsNamed c.name × value_fits c.value

abbrev pub VariableIsSpelled : TypedVariable → Type 0
VariableIsSpelled v = IsNamed v.name × type_fits v.of

-- one that others see
abbrev pub ProcedureIsSpelled : Procedure → Type 0
ProcedureIsSpelled p = is_exported p ≡ true → IsNamed p.name × signature.fits (signature_of p)

abbrev pub TypedTypeIsSpelled : TypedType → Type 0
TypedTypeIsSpelled t = object_name.fits t.name × TypeIsSpelled t.desc

-- the imported modules: few, each once, none of those that no file has
pub record AreImports (ms : List (List ℕ)) : Type 0 where
  pub few : length ms ≤ 64
  pub names : AllByRecursion IsNamed ms
  pub once : IsDistinct (λ a b. is_eq (slice_cmp nat_cmp a b)) ms
  pub others : AllByRecursion (λ m. (m ≢ codes "Out") × (m ≢ codes "SYSTEM")) ms

-- WHAT IS SHOWN OF A MODULE has a spelling, but for places, numbers and words; its types have different names.
pub record IsSpelledTree (m : Module) : Type 0 where
  pub name : IsNamed m.name
  pub imports : AreImports m.imports
  pub constants : AllByRecursion ConstantIsSpelled m.constants
  pub variables : AllByRecursion VariableIsSpelled m.variables
  pub procedures : AllByRecursion ProcedureIsSpelled m.procedures
  pub types : AllByRecursion TypedTypeIsSpelled m.types
  pub differ : IsDistinct bytes_eq (map (λ t. t.name) m.types)

-- ---- places, numbers and words

abbrev pub IsSmall : ℕ → Type 0
IsSmall n = n < 2 ^ 31

pub record RecordIsLaid (r : RecordDesc) : Type 0 where
  pub words : IsSmall r.words
  pub procedures : IsSmall r.procedures
  pub places : AllByRecursion (λ f. IsSmall f.place) r.fields
  pub numbers : AllByRecursion (λ p. IsSmall p.number) r.methods
  pub methods : IsStrictlySortedBy by_number r.methods

-- of a record: its sizes have a spelling, and its bound procedures are in their order
abbrev pub IsLaid : Desc → Type 0
IsLaid (desc.Record r) = RecordIsLaid r
IsLaid d = Unit {0}
