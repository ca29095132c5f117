-- The variables, operators and constants for which cases are proved here.
use Rattle.ob_types.specs.declared.value.Value.{Value as Literal}
use Rattle.ob_types.specs.declared.value.Value.TheVariants as literal
use Rattle.ob_types.specs.declared.typed.Unary.{Unary}
use Rattle.ob_types.specs.declared.typed.Unary.TheVariants as unary
use Rattle.ob_types.specs.declared.typed.Binary.{Binary}
use Rattle.ob_types.specs.declared.typed.Binary.TheVariants as binary
use Rattle.ob_types.specs.declared.typed.Compared.TheVariants as compared
use Rattle.ob_types.specs.declared.typed.Variable.{Variable}
use Rattle.ob_types.specs.declared.typed.Variable.TheVariants as variable
use Rattle.ob_types.specs.declared.typed.Passing.TheVariants as passing

-- a scalar variable, or one by VAR that is neither a record nor an open array
abbrev pub Plain : Variable → Type 0
Plain (variable.Module m x) = Unit {0}
Plain (variable.Local x) = Unit {0}
Plain (variable.Parameter passing.Scalar x) = Unit {0}
Plain (variable.Parameter passing.Variable x) = Unit {0}
Plain (variable.Parameter passing.Structure x) = ⊥
Plain (variable.Parameter passing.OpenArray x) = ⊥
Plain (variable.Parameter passing.VariableRecord x) = ⊥
Plain (variable.Parameter passing.VariableOpenArray x) = ⊥

abbrev pub PlainBinary : Binary → Type 0
PlainBinary (binary.Add w) = Unit {0}
PlainBinary (binary.Subtract w) = Unit {0}
PlainBinary (binary.Multiply w) = Unit {0}
PlainBinary (binary.Quotient w) = Unit {0}
PlainBinary (binary.Compare r compared.Integer) = Unit {0}
PlainBinary (binary.Compare r compared.Char) = Unit {0}
PlainBinary (binary.Compare r compared.Boolean) = Unit {0}
PlainBinary o = ⊥

abbrev pub PlainUnary : Unary → Type 0
PlainUnary (unary.Negate w) = Unit {0}
PlainUnary unary.Not = Unit {0}
PlainUnary (unary.Abs w) = Unit {0}
PlainUnary (unary.Long w) = Unit {0}
PlainUnary unary.Ord = Unit {0}
PlainUnary (unary.Short w) = Unit {0}
PlainUnary o = ⊥

abbrev pub PlainLiteral : Literal → Type 0
PlainLiteral (literal.Set n) = ⊥
PlainLiteral c = Unit {0}
