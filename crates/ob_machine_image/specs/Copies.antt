-- Which arguments a call copies.
use Rattle.std.specs.Prelude.{Bool, true, false, ◌||◌, List, [], ◌∷◌}
use Rattle.ob_instr.specs.declared.procedure.Param.{Param}
use Rattle.ob_instr.specs.declared.procedure.Param.TheVariants as param

-- a parameter whose argument is copied
abbrev pub is_copied : Param → Bool
is_copied param.Scalar = false
is_copied param.Var = false
is_copied param.VarRecord = false
is_copied param.VarArray = false
is_copied (param.Value n) = true
is_copied (param.ValueArray n) = true

abbrev pub has_copies : List Param → Bool
has_copies [] = false
has_copies (q ∷ params) = is_copied q || has_copies params
