-- The code of a module: its body, and behind it its procedures in their order.
use Rattle.std.specs.Prelude.{ℕ, suc, List, [], ◌∷◌, ◌++◌, map, Option, Some, None, Bool, true, false}
use Rattle.ob_trap.specs.declared.trap.Trap.TheVariants as trap
use Rattle.ob_trap.specs.Numbers.{trap_number}
use Rattle.ob_tree.specs.declared.pos.Pos.{Pos}
use Rattle.ob_tree.specs.declared.names.QName.{QName}
use Rattle.ob_tree.specs.declared.ident.Mark.TheVariants as mark
use Rattle.ob_types.specs.declared.types.TypeRef.{TypeRef}
use Rattle.ob_types.specs.declared.desc.Desc.{Desc}
use Rattle.ob_types.specs.declared.typed.Passing.TheVariants as passing
use Rattle.ob_types.specs.declared.typed.Passing.{Passing}
use Rattle.ob_types.specs.TypedSyntax.{Procedure, Module}
use Rattle.ob_instr.specs.declared.opcode.Opcode.TheVariants as op
use Rattle.ob_instr.specs.declared.procedure.Param.{Param}
use Rattle.ob_instr.specs.declared.procedure.Param.TheVariants as param
use Rattle.ob_instr.specs.declared.procedure.Procedure.{Procedure as Row}
use Rattle.ob_scheme.specs.Lines.{Line, bare, placed_two, count}
use Rattle.ob_scheme.specs.Descriptions.{open_words}
use Rattle.ob_scheme.specs.Context.{Context, words, local_words, first_hidden}
use Rattle.ob_scheme.specs.Statements.{end_stmts, next_stmts, stmts_code}

-- a module's body stands as a proper procedure without parameters and locals
abbrev pub body_of : Module → Procedure
body_of m = record { name = []; mark = mark.Hidden; at = record { line = 0; col = 0 }; binding = None; parameters = []; result = None; locals = []; body = m.body }

abbrev pub all_procedures : Module → List Procedure
all_procedures m = body_of m ∷ m.procedures

abbrev pub has_result : Option TypeRef → Bool
has_result None = false
has_result (Some t) = true

-- a function that comes to its end traps
abbrev pub closing : Option TypeRef → Pos → Line
closing None at = bare op.Ret
closing (Some t) at = placed_two op.Trap (count (trap_number trap.NoReturn)) (count 0) at

module _ (types : QName → Option Desc) (m : Module) where
  abbrev pub within : Procedure → Context
  within p = record { types = types; unit = m; parameters = p.parameters; locals = p.locals }

  abbrev pub end_procedure : Procedure → ℕ → ℕ
  end_procedure p pc = suc (end_stmts (within p) p.body pc)

  abbrev pub procedure_code : Procedure → ℕ → List Line
  procedure_code p pc = stmts_code (within p) p.body pc (first_hidden (within p)) 0 ++ closing p.result p.at ∷ []

  abbrev pub procedures_code : List Procedure → ℕ → List Line
  procedures_code [] pc = []
  procedures_code (p ∷ ps) pc = procedure_code p pc ++ procedures_code ps (end_procedure p pc)

  -- ---- the table of procedures

  abbrev pub param_for : Context → Passing → TypeRef → Param
  param_for c passing.Scalar t = param.Scalar
  param_for c passing.Structure t = param.Value (words c t)
  param_for c passing.OpenArray t = param.ValueArray (open_words types t)
  param_for c passing.Variable t = param.Var
  param_for c passing.VariableRecord t = param.VarRecord
  param_for c passing.VariableOpenArray t = param.VarArray

  -- the words of the locals, and one for each FOR and CASE
  abbrev pub all_local_words : Procedure → ℕ
  all_local_words p = next_stmts (within p) p.body (local_words (within p))

  abbrev pub row_of : Procedure → ℕ → Row
  row_of p pc = record { entry = pc; params = map (λ x. param_for (within p) x.passing x.of) p.parameters; locals = all_local_words p; has_result = has_result p.result }

  abbrev pub rows_of : List Procedure → ℕ → List Row
  rows_of [] pc = []
  rows_of (p ∷ ps) pc = row_of p pc ∷ rows_of ps (end_procedure p pc)

  -- THE CODE OF THE MODULE, and its procedures
  abbrev pub module_code : List Line
  module_code = procedures_code (all_procedures m) 0

  abbrev pub module_rows : List Row
  module_rows = rows_of (all_procedures m) 0
