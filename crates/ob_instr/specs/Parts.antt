-- The spelling of procedures and positions in an object file.
use Rattle.std.specs.Prelude.{ℕ, zero, suc, ◌+◌, ◌≤◌, Bool, true, false, nat_le, List, [], ◌∷◌, Option, Some, None, if◌then◌else◌}
use Rattle.ob_format.specs.Format.{Format, byte, word32, list_of, parsed, such_that, made, ◌⊗◌}
use Rattle.ob_instr.specs.declared.procedure.Param.{Param}
use Rattle.ob_instr.specs.declared.procedure.Param.TheVariants as param
use Rattle.ob_instr.specs.declared.procedure.Procedure.{Procedure}
use Rattle.ob_instr.specs.declared.procedure.Position.{Position}

-- the most words of a type, of a parameter, and of a procedure's slots and locals
abbrev pub most_words : ℕ
most_words = 1048576

abbrev pub slots_of : Param → ℕ
slots_of param.Scalar = 1
slots_of param.Var = 1
slots_of param.VarRecord = 2
slots_of param.VarArray = 2
slots_of (param.Value n) = 1
slots_of (param.ValueArray n) = 2

abbrev pub slots : List Param → ℕ
slots [] = 0
slots (q ∷ params) = slots_of q + slots params

-- a kind of parameter by its number, and its words; words of the kinds 0 to 3 are 0
abbrev pub param_of : ℕ → ℕ → Option Param
param_of zero zero = Some param.Scalar
param_of (suc zero) zero = Some param.Var
param_of (suc (suc zero)) zero = Some param.VarRecord
param_of (suc (suc (suc zero))) zero = Some param.VarArray
param_of (suc (suc (suc (suc zero)))) n = if nat_le n most_words then Some (param.Value n) else None
param_of (suc (suc (suc (suc (suc zero))))) n = if nat_le n most_words then Some (param.ValueArray n) else None
param_of _ _ = None

abbrev pub param_at : ℕ × ℕ → Option Param
param_at p = param_of p.0 p.1

abbrev pub param_pair : Param → ℕ × ℕ
param_pair param.Scalar = (0, 0)
param_pair param.Var = (1, 0)
param_pair param.VarRecord = (2, 0)
param_pair param.VarArray = (3, 0)
param_pair (param.Value n) = (4, n)
param_pair (param.ValueArray n) = (5, n)

abbrev pub ParamFits : Param → Type 0
ParamFits param.Scalar = Unit {0}
ParamFits param.Var = Unit {0}
ParamFits param.VarRecord = Unit {0}
ParamFits param.VarArray = Unit {0}
ParamFits (param.Value n) = n ≤ most_words
ParamFits (param.ValueArray n) = n ≤ most_words

unfoldable pub param_form : Format Param
param_form = parsed (byte ⊗ word32) param_at param_pair ParamFits

abbrev pub flag_at : ℕ → Option Bool
flag_at zero = Some false
flag_at (suc zero) = Some true
flag_at (suc (suc n)) = None

abbrev pub flag_number : Bool → ℕ
flag_number false = 0
flag_number true = 1

-- a byte, 0 or 1
unfoldable pub flag : Format Bool
flag = parsed byte flag_at flag_number (λ _. Unit {0})

-- the entry, the kinds of the parameters, the words of the locals, and whether there is a result
unfoldable pub procedure : Format Procedure
procedure = such_that (made (word32 ⊗ list_of param_form ⊗ word32 ⊗ flag) (λ p. record { entry = p.0; params = p.1.0; locals = p.1.1.0; has_result = p.1.1.1 }) (λ q. (q.entry, (q.params, (q.locals, q.has_result))))) (λ q. nat_le (slots q.params + q.locals) most_words) (λ q. slots q.params + q.locals ≤ most_words)

-- the index of the instruction, the line and the column
unfoldable pub position : Format Position
position = made (word32 ⊗ word32 ⊗ word32) (λ p. record { at = p.0; pos = record { line = p.1.0; col = p.1.1 } }) (λ q. (q.at, (q.pos.line, q.pos.col)))
