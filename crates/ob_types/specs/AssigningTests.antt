-- Assignability as it is computed.
use Rattle.std.specs.Prelude.{ℕ, Bool, false, not, ◌&&◌, ◌||◌, nat_lt, nat_eq, length, Option, Some, None, codes, bytes_eq}
use Rattle.ob_tree.specs.declared.names.QName.{QName}
use Rattle.ob_format.specs.Names.{is_identifier}
use Rattle.ob_types.specs.declared.types.Basic.TheVariants as basic
use Rattle.ob_types.specs.declared.types.TypeRef.{TypeRef}
use Rattle.ob_types.specs.declared.types.TypeRef.TheVariants as ref
use Rattle.ob_types.specs.declared.types.Signature.{Signature}
use Rattle.ob_types.specs.declared.value.Value.{Value}
use Rattle.ob_types.specs.declared.value.Value.TheVariants as literal
use Rattle.ob_types.specs.declared.desc.Desc.{Desc}
use Rattle.ob_types.specs.declared.desc.Desc.TheVariants as desc
use Rattle.ob_types.specs.declared.typed.ExprType.{ExprType}
use Rattle.ob_types.specs.declared.typed.ExprType.TheVariants as kind
use Rattle.ob_types.specs.Relations.{is_open}
use Rattle.ob_types.specs.Tests.{target, same_at, shape_at, signature_of, signatures_alike, equal_at, extends_at}
use Rattle.ob_types.specs.TypedSyntax.{Expr, Constant, ProcedureValue}
use Rattle.ob_types.specs.TypedKinds.{constant_type, type_of}
use Rattle.ob_types.specs.Assigning.{includes, is_extensible, has_nil}

abbrev pub described : (Desc → Bool) → Option Desc → Bool
described kind None = false
described kind (Some d) = kind d

-- what the type stands for is of this kind
abbrev pub is_at : (QName → Option Desc) → (Desc → Bool) → TypeRef → Bool
is_at map kind t = described kind (shape_at map (target map 201 t))

abbrev pub widens : TypeRef → TypeRef → Bool
widens (ref.Basic b) (ref.Basic a) = includes b a
widens (ref.Basic b) (ref.Named q) = false
widens (ref.Named q) t = false

-- a variable of the type v takes a value of the type t
unfoldable pub takes_type : (QName → Option Desc) → TypeRef → TypeRef → Bool
takes_type map v t = (same_at map t v && not (is_at map is_open v)) || (widens (target map 201 v) (target map 201 t) || (is_at map is_extensible v && extends_at map t v))

abbrev pub takes_kind : (QName → Option Desc) → TypeRef → ExprType → Bool
takes_kind map v (kind.Of t) = takes_type map v t
takes_kind map v kind.Nil = is_at map has_nil v
takes_kind map v kind.Str = false
takes_kind map v (kind.Procedure s) = false
takes_kind map v kind.Nothing = false

-- an array of more characters
abbrev pub has_room : (QName → Option Desc) → Option Desc → ℕ → Bool
has_room map (Some (desc.Array m n of)) k = nat_lt k n && same_at map of (ref.Basic basic.Char)
has_room map d k = false

unfoldable pub takes_text : (QName → Option Desc) → TypeRef → ℕ → Bool
takes_text map v k = has_room map (shape_at map (target map 201 v)) k

abbrev pub is_value : QName → Bool
is_value name = is_identifier name.object && not (bytes_eq name.«module» (codes "Out"))

abbrev pub alike_to : (QName → Option Desc) → Signature → Option Signature → Bool
alike_to map s None = false
alike_to map s (Some t) = signatures_alike (λ x y. equal_at map 201 x y) (λ x y. same_at map x y) s t

unfoldable pub takes_procedure : (QName → Option Desc) → TypeRef → QName → Signature → Bool
takes_procedure map v name s = is_value name && alike_to map s (signature_of (shape_at map (target map 201 v)))

abbrev pub takes_constant : (QName → Option Desc) → TypeRef → Value → Bool
takes_constant map v (literal.Str text) = takes_text map v (length text) || (nat_eq (length text) 1 && takes_type map v (ref.Basic basic.Char))
takes_constant map v (literal.Char c) = takes_text map v 1 || takes_type map v (ref.Basic basic.Char)
takes_constant map v c = takes_kind map v (constant_type c)

abbrev pub takes : (QName → Option Desc) → TypeRef → Expr → Bool
takes map v (Constant c) = takes_constant map v c
takes map v (ProcedureValue name s) = takes_procedure map v name s
takes map v e = takes_kind map v (type_of e)
