-- Which values are assignable to a variable of which type.
use Rattle.std.specs.Prelude.{◌≡◌, ◌≢◌, ℕ, ◌<◌, Bool, true, false, List, [], ◌∷◌, length, Option, Some, None, IsTrue, codes}
use Rattle.std.specs.List.{AllByRecursion}
use Rattle.ob_tree.specs.declared.ident.Mark.{Mark}
use Rattle.ob_tree.specs.declared.names.QName.{QName}
use Rattle.ob_format.specs.Names.{is_identifier}
use Rattle.ob_types.specs.declared.types.Basic.{Basic}
use Rattle.ob_types.specs.declared.types.Basic.TheVariants as basic
use Rattle.ob_types.specs.declared.types.TypeRef.{TypeRef}
use Rattle.ob_types.specs.declared.types.TypeRef.TheVariants as ref
use Rattle.ob_types.specs.declared.types.Signature.{Signature}
use Rattle.ob_types.specs.declared.value.Value.{Value}
use Rattle.ob_types.specs.declared.value.Value.TheVariants as literal
use Rattle.ob_types.specs.declared.desc.Desc.{Desc}
use Rattle.ob_types.specs.declared.desc.Desc.TheVariants as desc
use Rattle.ob_types.specs.declared.typed.ExprType.{ExprType}
use Rattle.ob_types.specs.declared.typed.ExprType.TheVariants as kind
use Rattle.ob_types.specs.Maps.{IsHeld, signature_types}
use Rattle.ob_types.specs.Relations.{StandsFor, Same, Matches, Extends, Is, is_open}
use Rattle.ob_types.specs.TypedSyntax.{Expr, Constant, ProcedureValue}
use Rattle.ob_types.specs.TypedKinds.{of_basic, constant_type, type_of}

-- LONGINT includes INTEGER, and both include SHORTINT
abbrev pub includes : Basic → Basic → Bool
includes basic.LongInt basic.Integer = true
includes basic.LongInt basic.ShortInt = true
includes basic.Integer basic.ShortInt = true
includes a b = false

-- the characters of a string; a character constant is a string of one
abbrev pub characters : Value → Option (List ℕ)
characters (literal.Str text) = Some text
characters (literal.Char c) = Some (c ∷ [])
characters v = None

-- the type of a constant; a string of one character is a character constant
abbrev pub constant_value_type : Value → ExprType
constant_value_type (literal.Str (c ∷ [])) = of_basic basic.Char
constant_value_type v = constant_type v

abbrev pub value_type : Expr → ExprType
value_type (Constant v) = constant_value_type v
value_type e = type_of e

-- the types that have extensions
abbrev pub is_extensible : Desc → Bool
is_extensible (desc.Record r) = true
is_extensible (desc.Pointer m t) = true
is_extensible d = false

-- the types that have the value NIL
abbrev pub has_nil : Desc → Bool
has_nil (desc.Pointer m t) = true
has_nil (desc.ProcType m s) = true
has_nil d = false

-- a procedure at module level, neither bound nor inner, and not of Out: the others have no identifier for a name
abbrev pub IsValue : QName → Type 0
IsValue name = IsTrue (is_identifier name.object) × (name.«module» ≢ codes "Out")

-- A value is assignable to a variable of the type v where one of these holds.
pub data Assignable (map : QName → Option Desc) (v : TypeRef) (e : Expr) : Type 0 where
  -- The types are the same, and no open arrays.
  same_type : {t : TypeRef} → value_type e ≡ kind.Of t → Same map t v → (Is map is_open v → ⊥) → Assignable map v e
  -- Both are integers, and v includes the value's type.
  integers : {t : TypeRef} {a b : Basic} → value_type e ≡ kind.Of t → StandsFor map t (ref.Basic a) → StandsFor map v (ref.Basic b) → IsTrue (includes b a) → Assignable map v e
  -- Both are records, or both are pointers, and the value's type extends v.
  extension : {t : TypeRef} → value_type e ≡ kind.Of t → Is map is_extensible v → Extends map t v → Assignable map v e
  -- The value is NIL, and v is a pointer or procedure type.
  nil : value_type e ≡ kind.Nil → Is map has_nil v → Assignable map v e
  -- The value is a procedure whose parameter list matches that of v.
  procedure : {name : QName} {s t : Signature} {q : QName} {m : Mark} → e ≡ ProcedureValue name s → IsValue name → StandsFor map v (ref.Named q) → map q ≡ Some (desc.ProcType m t) → Matches map s t → Assignable map v e
  -- The value is a string, and v an array of more characters.
  string : {c : Value} {text : List ℕ} {q : QName} {m : Mark} {n : ℕ} {of : TypeRef} → e ≡ Constant c → characters c ≡ Some text → StandsFor map v (ref.Named q) → map q ≡ Some (desc.Array m n of) → Same map of (ref.Basic basic.Char) → length text < n → Assignable map v e

-- the types that an expression has, or names as the parameters of a procedure, are held
abbrev pub IsTypeHeld : (QName → Option Desc) → ExprType → Type 0
IsTypeHeld map (kind.Of t) = IsHeld map t
IsTypeHeld map (kind.Procedure s) = AllByRecursion (λ t. IsHeld map t) (signature_types s)
IsTypeHeld map kind.Str = Unit {0}
IsTypeHeld map kind.Nil = Unit {0}
IsTypeHeld map kind.Nothing = Unit {0}
