-- How many lines the pieces of the scheme have.
use Rattle.std.specs.Prelude.{ℕ, suc, Option, Some, None}
use Rattle.ob_types.specs.declared.value.Value.{Value}
use Rattle.ob_types.specs.declared.value.Value.TheVariants as literal
use Rattle.ob_types.specs.declared.typed.Passing.{Passing}
use Rattle.ob_types.specs.declared.typed.Passing.TheVariants as passing
use Rattle.ob_types.specs.declared.typed.Variable.{Variable}
use Rattle.ob_types.specs.declared.typed.Variable.TheVariants as variable
use Rattle.ob_types.specs.declared.typed.Guarded.{Guarded}
use Rattle.ob_types.specs.declared.typed.Guarded.TheVariants as guarded
use Rattle.ob_types.specs.declared.typed.Unary.{Unary}
use Rattle.ob_types.specs.declared.typed.Unary.TheVariants as unary
use Rattle.ob_types.specs.declared.typed.Connective.{Connective}
use Rattle.ob_types.specs.declared.typed.Connective.TheVariants as connective
use Rattle.ob_types.specs.TypedSyntax.{Expr}
use Rattle.ob_scheme.specs.declared.want.Want.{Want}
use Rattle.ob_scheme.specs.declared.want.Want.TheVariants as want
use Rattle.ob_scheme.specs.Lines.{behind}
use Rattle.ob_scheme.specs.Context.{Context}
use Rattle.ob_scheme.specs.Expressions.{end_expr}
use Rattle.ob_scheme.specs.Statements.{for_place, end_for_test}

-- behind a place
abbrev pub place_size : Want → ℕ
place_size want.Value = 1
place_size want.Place = 0
place_size (want.Room n) = 0
place_size want.PlaceAndTag = 1
place_size want.Tag = 0
place_size want.PlaceAndLength = 1
place_size want.Length = 0

-- behind the value of a pointer, to an array of so many elements or an open one
abbrev pub measure_size : Option ℕ → ℕ
measure_size None = 1
measure_size (Some n) = 2

abbrev pub pointer_size : Want → Option ℕ → ℕ
pointer_size want.Value n = 2
pointer_size want.Place n = 1
pointer_size (want.Room m) n = 1
pointer_size want.PlaceAndTag n = 1
pointer_size want.Tag n = 0
pointer_size want.PlaceAndLength n = measure_size n
pointer_size want.Length n = 3

-- behind the guard of a VAR record
abbrev pub dropped_size : Want → ℕ
dropped_size want.Value = 0
dropped_size want.Place = 1
dropped_size (want.Room n) = 1
dropped_size want.PlaceAndTag = 0
dropped_size want.Tag = 0
dropped_size want.PlaceAndLength = 0
dropped_size want.Length = 0

-- behind a guard
abbrev pub guard_size : Guarded → Want → ℕ
guard_size guarded.Pointer w = place_size w
guard_size guarded.Record w = dropped_size w

-- a parameter of two words
abbrev pub pair_size : Want → ℕ
pair_size want.Value = 2
pair_size want.Place = 2
pair_size (want.Room n) = 2
pair_size want.PlaceAndTag = 4
pair_size want.Tag = 2
pair_size want.PlaceAndLength = 4
pair_size want.Length = 2

abbrev pub parameter_size : Passing → Want → ℕ
parameter_size passing.Scalar w = suc (place_size w)
parameter_size passing.Structure w = suc (suc (place_size w))
parameter_size passing.OpenArray w = pair_size w
parameter_size passing.Variable w = suc (suc (place_size w))
parameter_size passing.VariableRecord w = pair_size w
parameter_size passing.VariableOpenArray w = pair_size w

abbrev pub variable_size : Want → Variable → ℕ
variable_size w (variable.Module m x) = suc (place_size w)
variable_size w (variable.Local x) = suc (place_size w)
variable_size w (variable.Parameter how x) = parameter_size how w

-- a string, whose length is wanted or not
abbrev pub text_size : Want → ℕ
text_size want.Value = 1
text_size want.Place = 1
text_size (want.Room n) = 1
text_size want.PlaceAndTag = 1
text_size want.Tag = 1
text_size want.PlaceAndLength = 2
text_size want.Length = 1

abbrev pub constant_size : Want → Value → ℕ
constant_size w (literal.Bool b) = 1
constant_size w (literal.Char n) = 1
constant_size w (literal.Int z) = 1
constant_size w (literal.Set n) = 1
constant_size w (literal.Str text) = text_size w
constant_size w literal.Nil = 1

abbrev pub unary_size : Unary → ℕ
unary_size (unary.Negate w) = 1
unary_size unary.Not = 1
unary_size unary.Complement = 1
unary_size (unary.Abs w) = 1
unary_size unary.Cap = 1
unary_size unary.Chr = 1
unary_size (unary.Long w) = 0
unary_size unary.Odd = 1
unary_size unary.Ord = 0
unary_size (unary.Short w) = 1
unary_size unary.Element = 1

-- between the operands of & and OR, and behind them
abbrev pub between : Connective → ℕ
between connective.And = 1
between connective.Or = 3

abbrev pub joined : Connective → ℕ
joined connective.And = 2
joined connective.Or = 0

-- behind the end, the start and the test of FOR
abbrev pub end_for_head : Context → Variable → (start stop : Expr) → ℕ → ℕ
end_for_head c v start stop pc = end_for_test c v (suc (end_expr c want.Value start (behind (for_place c v) (suc (end_expr c want.Value stop (suc pc))))))
