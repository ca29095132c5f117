-- Statements that hold no others.
use Rattle.std.specs.Prelude.{ℕ, List}
use Rattle.ob_types.specs.TypedSyntax.{Stmt}
use Rattle.ob_scheme.specs.Lines.{Line}
use Rattle.ob_scheme.specs.Context.{Context}
use Rattle.ob_scheme.specs.Statements.{stmt_code}

-- their code, which has no word of FOR or CASE, and leaves no LOOP
abbrev pub straight_code : Context → Stmt → ℕ → List Line
straight_code c s pc = stmt_code c s pc 0 0
