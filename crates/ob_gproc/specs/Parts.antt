-- The parts of a procedure, as its code and its row in the table come from them.
use Rattle.std.specs.Prelude.{ℕ, List, [], ◌∷◌, ◌++◌, map, Option}
use Rattle.ob_tree.specs.declared.pos.Pos.{Pos}
use Rattle.ob_tree.specs.declared.names.QName.{QName}
use Rattle.ob_types.specs.declared.types.TypeRef.{TypeRef}
use Rattle.ob_types.specs.declared.desc.Desc.{Desc}
use Rattle.ob_types.specs.declared.typed.Passing.{Passing}
use Rattle.ob_types.specs.declared.typed.Passing.TheVariants as passing
use Rattle.ob_types.specs.declared.typed.TypedParameter.{TypedParameter}
use Rattle.ob_types.specs.TypedSyntax.{Stmts}
use Rattle.ob_instr.specs.declared.procedure.Param.{Param}
use Rattle.ob_instr.specs.declared.procedure.Param.TheVariants as param
use Rattle.ob_instr.specs.declared.procedure.Procedure.{Procedure as Row}
use Rattle.ob_layout.specs.Words.{words_of}
use Rattle.ob_scheme.specs.Descriptions.{open_words}
use Rattle.ob_scheme.specs.Lines.{Line}
use Rattle.ob_scheme.specs.Context.{Context, first_hidden, local_words}
use Rattle.ob_scheme.specs.Statements.{next_stmts, stmts_code}
use Rattle.ob_scheme.specs.Procedures.{closing, has_result}

-- its statements, and what stands at its end
abbrev pub parts_code : Context → Stmts → Option TypeRef → Pos → ℕ → List Line
parts_code c body outcome at pc = stmts_code c body pc (first_hidden c) 0 ++ closing outcome at ∷ []

abbrev pub param_in : (QName → Option Desc) → Passing → TypeRef → Param
param_in types passing.Scalar t = param.Scalar
param_in types passing.Structure t = param.Value (words_of types t)
param_in types passing.OpenArray t = param.ValueArray (open_words types t)
param_in types passing.Variable t = param.Var
param_in types passing.VariableRecord t = param.VarRecord
param_in types passing.VariableOpenArray t = param.VarArray

abbrev pub params_in : (QName → Option Desc) → List TypedParameter → List Param
params_in types ps = map (λ p. param_in types p.passing p.of) ps

abbrev pub parts_row : Context → Stmts → Option TypeRef → ℕ → Row
parts_row c body outcome pc = record { entry = pc; params = params_in c.types c.parameters; locals = next_stmts c body (local_words c); has_result = has_result outcome }
