-- The copies that a call makes, parameter by parameter.
use Rattle.std.specs.Prelude.{ℕ, ◌+◌, ◌*◌, List, ◌∷◌, ℤ, pos, negsuc, Option, Some, None, if◌then◌else◌}
use Rattle.ob_mem.specs.Words.{are_there}
use Rattle.ob_instr.specs.declared.procedure.Param.{Param}
use Rattle.ob_instr.specs.declared.procedure.Param.TheVariants as param
use Rattle.ob_instr.specs.Rows.{with_copy}

-- how many words the copy of an array has, where it is there
abbrev pub array_size : ℕ → ℤ → ℤ → ℕ → Option ℕ
array_size len x (pos l) n = if are_there len x (l * n) then Some (l * n) else None
array_size len x (negsuc l) n = None

-- how many words the copy of a parameter's argument has, which is the first of the arguments
abbrev pub copy_size : ℕ → Param → List ℤ → Option ℕ
copy_size len param.Scalar (x ∷ args) = Some 0
copy_size len param.Var (x ∷ args) = Some 0
copy_size len param.VarRecord (x ∷ g ∷ args) = Some 0
copy_size len param.VarArray (x ∷ l ∷ args) = Some 0
copy_size len (param.Value n) (x ∷ args) = if are_there len x n then Some n else None
copy_size len (param.ValueArray n) (x ∷ l ∷ args) = array_size len x l n
copy_size len _ _ = None

abbrev pub added : Option ℕ → Option ℕ → Option ℕ
added None rest = None
added (Some n) None = None
added (Some n) (Some k) = Some (n + k)

abbrev pub with_array : List ℤ → ℕ → ℕ → ℤ → ℤ → ℕ → List ℤ
with_array words slot next x (pos l) n = with_copy words slot next x (l * n)
with_array words slot next x (negsuc l) n = words

-- the words after the copy of a parameter's argument was made
abbrev pub with_one : List ℤ → Param → List ℤ → ℕ → ℕ → List ℤ
with_one words (param.Value n) (x ∷ args) slot next = with_copy words slot next x n
with_one words (param.ValueArray n) (x ∷ l ∷ args) slot next = with_array words slot next x l n
with_one words _ _ slot next = words
