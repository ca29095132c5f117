-- The numbers of strings and links: each string has the next place behind the module's variables and the strings before it, each
-- link the number of its first use.
use Rattle.std.specs.Prelude.{ℕ, suc, ◌+◌, List, [], ◌∷◌, ◌++◌, ℤ, pos, Option, Some, None, Bool, ◌&&◌, bytes_eq, if◌then◌else◌}
use Rattle.ob_tree.specs.declared.names.QName.{QName}
use Rattle.ob_tree.specs.declared.pos.Pos.{Pos}
use Rattle.ob_instr.specs.declared.opcode.Opcode.{Opcode}
use Rattle.ob_instr.specs.declared.instr.Instr.{Instr}
use Rattle.ob_instr.specs.declared.procedure.Position.{Position}
use Rattle.ob_obj.specs.declared.parts.StringConst.{StringConst}
use Rattle.ob_obj.specs.declared.parts.Link.{Link}
use Rattle.ob_scheme.specs.Lines.{Operand, Number, StringHere, OtherVariable, OtherProcedure, OtherType, Line}

-- the strings so far, the place of the next one, and the links so far
pub record Named : Type 0 where
  pub strings : List StringConst
  pub next : ℕ
  pub variables : List Link
  pub procedures : List Link
  pub types : List QName

-- none so far, behind so many words of variables
abbrev pub nothing_named : ℕ → Named
nothing_named words = record { strings = []; next = words; variables = []; procedures = []; types = [] }

abbrev pub same_link : Link → Link → Bool
same_link a b = bytes_eq a.name b.name && bytes_eq a.module b.module

abbrev pub same_type : QName → QName → Bool
same_type a b = bytes_eq a.object b.object && bytes_eq a.module b.module

-- where the first of those that are the same stands; for one that is not there the number that it would have
abbrev pub number_among : {A : Type 0} → (A → A → Bool) → List A → A → ℕ
number_among same [] x = 0
number_among same (y ∷ ys) x = if same x y then 0 else suc (number_among same ys x)

-- with one more at the end, if it is not there
abbrev pub with_one : {A : Type 0} → (A → A → Bool) → List A → A → List A
with_one same [] x = x ∷ []
with_one same (y ∷ ys) x = if same x y then y ∷ ys else y ∷ with_one same ys x

abbrev pub link_to : List ℕ → List ℕ → Link
link_to m x = record { «module» = m; name = x }

abbrev pub number_in : Named → Operand → ℤ
number_in n (Number z) = z
number_in n (StringHere text words) = pos n.next
number_in n (OtherVariable m x) = pos (number_among same_link n.variables (link_to m x))
number_in n (OtherProcedure m x) = pos (number_among same_link n.procedures (link_to m x))
number_in n (OtherType own q) = pos (own + number_among same_type n.types q)

abbrev pub with_operand : Named → Operand → Named
with_operand n (Number z) = n
with_operand n (StringHere text words) = record n { strings = n.strings ++ record { text = text; words = words } ∷ []; next = n.next + words }
with_operand n (OtherVariable m x) = record n { variables = with_one same_link n.variables (link_to m x) }
with_operand n (OtherProcedure m x) = record n { procedures = with_one same_link n.procedures (link_to m x) }
with_operand n (OtherType own q) = record n { types = with_one same_type n.types q }

abbrev pub instr : Opcode → ℤ → ℤ → Instr
instr o a b = record { op = o; a = a; b = b }

-- no line names something by both operands
abbrev pub instr_in : Named → Line → Instr
instr_in n l = instr l.op (number_in n l.a) (number_in n l.b)

abbrev pub with_line : Named → Line → Named
with_line n l = with_operand (with_operand n l.a) l.b

-- THE INSTRUCTIONS of lines, of which so much is named before, and what is named behind them
abbrev pub instrs_in : Named → List Line → List Instr
instrs_in n [] = []
instrs_in n (l ∷ ls) = instr_in n l ∷ instrs_in (with_line n l) ls

abbrev pub with_lines : Named → List Line → Named
with_lines n [] = n
with_lines n (l ∷ ls) = with_lines (with_line n l) ls

-- THE POSITIONS of lines that begin at an index
abbrev pub with_position : Option Pos → ℕ → List Position → List Position
with_position None pc rest = rest
with_position (Some at) pc rest = record { at = pc; pos = at } ∷ rest

abbrev pub positions_at : ℕ → List Line → List Position
positions_at pc [] = []
positions_at pc (l ∷ ls) = with_position l.at pc (positions_at (suc pc) ls)
