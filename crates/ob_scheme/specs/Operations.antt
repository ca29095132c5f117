-- The instructions of operators, relations and predeclared procedures, and the words of constants.
use Rattle.std.specs.Prelude.{ℕ, suc, ◌-◌, ◌^◌, nat_lt, List, [], ◌∷◌, ℤ, pos, negsuc, Bool, true, false, if◌then◌else◌}
use Rattle.ob_tree.specs.declared.pos.Pos.{Pos}
use Rattle.ob_types.specs.declared.value.Value.{Value}
use Rattle.ob_types.specs.declared.value.Value.TheVariants as literal
use Rattle.ob_types.specs.declared.typed.Width.{Width}
use Rattle.ob_types.specs.declared.typed.Width.TheVariants as width
use Rattle.ob_types.specs.declared.typed.Comparison.{Comparison}
use Rattle.ob_types.specs.declared.typed.Comparison.TheVariants as comparison
use Rattle.ob_types.specs.declared.typed.Unary.{Unary}
use Rattle.ob_types.specs.declared.typed.Unary.TheVariants as unary
use Rattle.ob_types.specs.declared.typed.Binary.{Binary}
use Rattle.ob_types.specs.declared.typed.Binary.TheVariants as binary
use Rattle.ob_types.specs.declared.typed.OutProcedure.{OutProcedure}
use Rattle.ob_types.specs.declared.typed.OutProcedure.TheVariants as out
use Rattle.ob_types.specs.declared.typed.Update.{Update}
use Rattle.ob_types.specs.declared.typed.Update.TheVariants as update
use Rattle.ob_instr.specs.declared.opcode.Opcode.{Opcode}
use Rattle.ob_instr.specs.declared.opcode.Opcode.TheVariants as op
use Rattle.ob_scheme.specs.Lines.{Line, count, bare, bare_at, placed}

-- the bytes of an integer type
abbrev pub bytes_of : Width → ℕ
bytes_of width.ShortInt = 1
bytes_of width.Integer = 2
bytes_of width.LongInt = 4

-- a set's word is signed, its element 31 being the sign
abbrev pub set_word : ℕ → ℤ
set_word n = if nat_lt n (2 ^ 31) then pos n else negsuc (2 ^ 32 - suc n)

abbrev pub truth_word : Bool → ℤ
truth_word false = pos 0
truth_word true = pos 1

-- the word of a scalar constant; a string has none
abbrev pub word_of : Value → ℤ
word_of (literal.Bool b) = truth_word b
word_of (literal.Char n) = pos n
word_of (literal.Int z) = z
word_of (literal.Set n) = set_word n
word_of (literal.Str text) = pos 0
word_of literal.Nil = pos 0

-- signs, ~ and the predeclared functions of one value; LONG and ORD leave the word as it is
abbrev pub unary_code : Unary → Pos → List Line
unary_code (unary.Negate w) at = placed op.Neg (count (bytes_of w)) at ∷ []
unary_code unary.Not at = bare op.Not ∷ []
unary_code unary.Complement at = bare op.Compl ∷ []
unary_code (unary.Abs w) at = placed op.Abs (count (bytes_of w)) at ∷ []
unary_code unary.Cap at = bare op.Cap ∷ []
unary_code unary.Chr at = bare_at op.Chr at ∷ []
unary_code (unary.Long w) at = []
unary_code unary.Odd at = bare op.Odd ∷ []
unary_code unary.Ord at = []
unary_code (unary.Short w) at = placed op.Range (count (bytes_of w)) at ∷ []
unary_code unary.Element at = bare_at op.Bit at ∷ []

abbrev pub comparison_code : Comparison → Opcode
comparison_code comparison.Equal = op.Eq
comparison_code comparison.NotEqual = op.Ne
comparison_code comparison.Less = op.Lt
comparison_code comparison.LessEqual = op.Le
comparison_code comparison.Greater = op.Gt
comparison_code comparison.GreaterEqual = op.Ge

-- operators, relations and ASH
abbrev pub binary_line : Binary → Pos → Line
binary_line (binary.Add w) at = placed op.Add (count (bytes_of w)) at
binary_line (binary.Subtract w) at = placed op.Sub (count (bytes_of w)) at
binary_line (binary.Multiply w) at = placed op.Mul (count (bytes_of w)) at
binary_line (binary.Quotient w) at = bare_at op.Div at
binary_line (binary.Remainder w) at = bare_at op.Mod at
binary_line binary.Union at = bare op.Union
binary_line binary.Difference at = bare op.Minus
binary_line binary.Intersection at = bare op.Meet
binary_line binary.SymmetricDifference at = bare op.Xor
binary_line binary.Range at = bare_at op.Bits at
binary_line binary.In at = bare_at op.In at
binary_line binary.Ash at = bare_at op.Ash at
binary_line (binary.Compare r compared) at = bare (comparison_code r)

-- a relation of strings and character arrays
abbrev pub relation_number : Comparison → ℕ
relation_number comparison.Equal = 0
relation_number comparison.NotEqual = 1
relation_number comparison.Less = 2
relation_number comparison.LessEqual = 3
relation_number comparison.Greater = 4
relation_number comparison.GreaterEqual = 5

abbrev pub out_number : OutProcedure → ℕ
out_number out.Char = 1
out_number out.Str = 2
out_number out.Int = 3
out_number out.Ln = 4

abbrev pub update_line : Update → Pos → Line
update_line (update.Inc w) at = placed op.Inc (count (bytes_of w)) at
update_line (update.Dec w) at = placed op.Dec (count (bytes_of w)) at
update_line update.Incl at = bare_at op.Incl at
update_line update.Excl at = bare_at op.Excl at
