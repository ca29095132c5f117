-- What the scheme looks up, in a module and in the procedure at hand.
use Rattle.std.specs.Prelude.{ℕ, suc, ◌+◌, List, [], ◌∷◌, Option, Some, None, Bool, true, false, bytes_eq, if◌then◌else◌}
use Rattle.ob_tree.specs.declared.names.QName.{QName}
use Rattle.ob_types.specs.declared.types.TypeRef.{TypeRef}
use Rattle.ob_types.specs.declared.desc.Desc.{Desc}
use Rattle.ob_types.specs.declared.desc.Desc.TheVariants as desc
use Rattle.ob_types.specs.declared.typed.TypedType.{TypedType}
use Rattle.ob_types.specs.declared.typed.TypedVariable.{TypedVariable}
use Rattle.ob_types.specs.declared.typed.TypedParameter.{TypedParameter}
use Rattle.ob_types.specs.TypedSyntax.{Module}
use Rattle.ob_scheme.specs.Lines.{Operand, OtherType, count}
use Rattle.ob_layout.specs.Lists.{sum_of}
use Rattle.ob_layout.specs.Words.{words_of}
use Rattle.ob_layout.specs.Room.{slots}
use Rattle.ob_scheme.specs.Descriptions.{own_name}

-- the descriptions of types, the module, and the parameters and locals of the procedure at hand, none in the module's body
pub record Context : Type 0 where
  pub types : QName → Option Desc
  pub unit : Module
  pub parameters : List TypedParameter
  pub locals : List TypedVariable

-- ORDER: the sizes of what stands before the first of that name
abbrev pub before : {A : Type 0} → (A → List ℕ) → (A → ℕ) → List A → List ℕ → ℕ
before name size [] x = 0
before name size (y ∷ ys) x = if bytes_eq x (name y) then 0 else size y + before name size ys x

-- RECORD TYPES of the module, in the order of the text
abbrev pub is_record : Desc → Bool
is_record (desc.Record r) = true
is_record d = false

abbrev pub records_among : List TypedType → List TypedType
records_among [] = []
records_among (t ∷ ts) = if is_record t.desc then t ∷ records_among ts else records_among ts

module _ (c : Context) where
  abbrev pub words : TypeRef → ℕ
  words t = words_of c.types t

  abbrev pub is_own : List ℕ → Bool
  is_own m = bytes_eq m c.unit.name

  -- a variable of the module: its place among the module's words
  abbrev pub variable_place : List ℕ → ℕ
  variable_place x = before (λ v. v.name) (λ v. words v.of) c.unit.variables x

  -- a parameter: its first slot; a local variable: its first word behind the slots; the words behind both are those of FOR and CASE
  abbrev pub parameter_slot : List ℕ → ℕ
  parameter_slot x = before (λ p. p.name) (λ p. slots p.passing) c.parameters x

  abbrev pub all_slots : ℕ
  all_slots = sum_of (λ p. slots p.passing) c.parameters

  abbrev pub local_slot : List ℕ → ℕ
  local_slot x = all_slots + before (λ v. v.name) (λ v. words v.of) c.locals x

  abbrev pub local_words : ℕ
  local_words = sum_of (λ v. words v.of) c.locals

  abbrev pub first_hidden : ℕ
  first_hidden = all_slots + local_words

  -- a procedure of the module: its index, the body's being 0
  abbrev pub procedure_index : List ℕ → ℕ
  procedure_index x = suc (before (λ p. p.name) (λ p. 1) c.unit.procedures x)

  -- a record type: its number, that of another module behind all own ones
  abbrev pub records : List TypedType
  records = records_among c.unit.types

  abbrev pub type_index : List ℕ → ℕ
  type_index x = before (λ t. t.name) (λ t. 1) records x

  abbrev pub own_types : ℕ
  own_types = sum_of (λ t. 1) records

  abbrev pub type_operand : QName → Operand
  type_operand q = if is_own q.module then count (type_index q.object) else OtherType own_types q

  -- the record type that a type is
  abbrev pub named_operand : Option QName → Operand
  named_operand None = count 0
  named_operand (Some q) = type_operand q

  abbrev pub record_operand : TypeRef → Operand
  record_operand t = named_operand (own_name c.types t)
