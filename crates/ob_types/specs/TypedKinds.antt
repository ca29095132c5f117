-- The type of a checked expression.
use Rattle.std.specs.Prelude.{ℕ, ◌^◌, pos, negsuc, nat_lt, Option, Some, None, if◌then◌else◌}
use Rattle.ob_types.specs.declared.types.Basic.{Basic}
use Rattle.ob_types.specs.declared.types.Basic.TheVariants as basic
use Rattle.ob_types.specs.declared.types.TypeRef.{TypeRef}
use Rattle.ob_types.specs.declared.types.TypeRef.TheVariants as ref
use Rattle.ob_types.specs.declared.value.Value.{Value}
use Rattle.ob_types.specs.declared.value.Value.TheVariants as literal
use Rattle.ob_types.specs.declared.typed.Width.{Width}
use Rattle.ob_types.specs.declared.typed.Width.TheVariants as width
use Rattle.ob_types.specs.declared.typed.Unary.{Unary}
use Rattle.ob_types.specs.declared.typed.Unary.TheVariants as unary
use Rattle.ob_types.specs.declared.typed.Binary.{Binary}
use Rattle.ob_types.specs.declared.typed.Binary.TheVariants as binary
use Rattle.ob_types.specs.declared.typed.ExprType.{ExprType}
use Rattle.ob_types.specs.declared.typed.ExprType.TheVariants as kind
use Rattle.ob_types.specs.declared.typed.Designator.{Designator}
use Rattle.ob_types.specs.declared.typed.TypedExpr.{TypedExpr}
use Rattle.ob_types.specs.TypedSyntax.{Desig, OfVariable, Field, Index, Deref, Guard, Expr, Constant, ValueOf, ProcedureValue, Monadic, Dyadic, Logical, CompareTexts, IsPointer, IsRecord, Length, Call, CallVariable}
use Rattle.ob_types.specs.TypedView.{designator_view, expr_view}

abbrev pub of_basic : Basic → ExprType
of_basic b = kind.Of (ref.Basic b)

abbrev pub of_width : Width → ExprType
of_width width.ShortInt = of_basic basic.ShortInt
of_width width.Integer = of_basic basic.Integer
of_width width.LongInt = of_basic basic.LongInt

-- the smallest integer type that has a constant
abbrev pub smallest : ℕ → Width
smallest n = if nat_lt n (2 ^ 7) then width.ShortInt else (if nat_lt n (2 ^ 15) then width.Integer else width.LongInt)

abbrev pub constant_type : Value → ExprType
constant_type (literal.Bool b) = of_basic basic.Boolean
constant_type (literal.Char c) = of_basic basic.Char
constant_type (literal.Int (pos n)) = of_width (smallest n)
constant_type (literal.Int (negsuc n)) = of_width (smallest n)
constant_type (literal.Set n) = of_basic basic.Set
constant_type (literal.Str text) = kind.Str
constant_type literal.Nil = kind.Nil

abbrev pub unary_type : Unary → ExprType
unary_type (unary.Negate w) = of_width w
unary_type unary.Not = of_basic basic.Boolean
unary_type unary.Complement = of_basic basic.Set
unary_type (unary.Abs w) = of_width w
unary_type unary.Cap = of_basic basic.Char
unary_type unary.Chr = of_basic basic.Char
unary_type (unary.Long w) = of_width w
unary_type unary.Odd = of_basic basic.Boolean
unary_type unary.Ord = of_basic basic.Integer
unary_type (unary.Short w) = of_width w
unary_type unary.Element = of_basic basic.Set

abbrev pub binary_type : Binary → ExprType
binary_type (binary.Add w) = of_width w
binary_type (binary.Subtract w) = of_width w
binary_type (binary.Multiply w) = of_width w
binary_type (binary.Quotient w) = of_width w
binary_type (binary.Remainder w) = of_width w
binary_type binary.Union = of_basic basic.Set
binary_type binary.Difference = of_basic basic.Set
binary_type binary.Intersection = of_basic basic.Set
binary_type binary.SymmetricDifference = of_basic basic.Set
binary_type binary.Range = of_basic basic.Set
binary_type binary.In = of_basic basic.Boolean
binary_type binary.Ash = of_basic basic.LongInt
binary_type (binary.Compare r c) = of_basic basic.Boolean

abbrev pub result_type : Option TypeRef → ExprType
result_type None = kind.Nothing
result_type (Some t) = kind.Of t

abbrev pub variable_type : Desig → TypeRef
variable_type (OfVariable v t) = t
variable_type (Field d owner name t) = t
variable_type (Index d n i at t) = t
variable_type (Deref d at t) = t
variable_type (Guard d g target at t) = t

abbrev pub type_of : Expr → ExprType
type_of (Constant v) = constant_type v
type_of (ValueOf d) = kind.Of (variable_type d)
type_of (ProcedureValue name signature) = kind.Procedure signature
type_of (Monadic op e at) = unary_type op
type_of (Dyadic op a b at) = binary_type op
type_of (Logical op a b) = of_basic basic.Boolean
type_of (CompareTexts r a b at) = of_basic basic.Boolean
type_of (IsPointer e target) = of_basic basic.Boolean
type_of (IsRecord d target) = of_basic basic.Boolean
type_of (Length d) = of_basic basic.LongInt
type_of (Call callee es at t) = result_type t
type_of (CallVariable d es at t) = result_type t

-- what the type of a designator is
abbrev pub designator_type : Designator → TypeRef
designator_type d = variable_type (designator_view d)

-- what the type of an expression is
abbrev pub expr_type : TypedExpr → ExprType
expr_type e = type_of (expr_view e)
