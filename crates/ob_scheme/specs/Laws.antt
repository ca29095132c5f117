-- Laws of the scheme.
use Rattle.std.specs.Prelude.{◌≡◌, ℕ, ◌+◌, length}
use Rattle.ob_types.specs.TypedSyntax.{Expr, Stmts}
use Rattle.ob_scheme.specs.declared.want.Want.{Want}
use Rattle.ob_scheme.specs.Context.{Context}
use Rattle.ob_scheme.specs.Expressions.{end_expr, expr_code}
use Rattle.ob_scheme.specs.Statements.{end_stmts, stmts_code}

-- The code of an expression ends where it is said to end.
abbrev pub ExpressionsEnd : Type 0
ExpressionsEnd = (c : Context) (w : Want) (e : Expr) (pc : ℕ) → end_expr c w e pc ≡ pc + length (expr_code c w e pc)

-- So does the code of statements, wherever EXIT leads and whichever words FOR and CASE have.
abbrev pub StatementsEnd : Type 0
StatementsEnd = (c : Context) (s : Stmts) (pc t x : ℕ) → end_stmts c s pc ≡ pc + length (stmts_code c s pc t x)
