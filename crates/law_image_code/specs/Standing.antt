-- Lines that stand in the code of a module in an image: what their operands' numbers stand for there, and their positions.
use Rattle.std.specs.Prelude.{◌≡◌, ◌⊎◌, bytes_eq, if◌then◌else◌, ℕ, suc, ◌+◌, ◌<◌, List, [], ◌∷◌, ◌++◌, length, ℤ, pos, Option, Some, None, slice_get}
use Rattle.ob_tree.specs.declared.pos.Pos.{Pos}
use Rattle.ob_tdesc.specs.declared.descriptor.Descriptor.{Descriptor}
use Rattle.ob_instr.specs.Table.{position_at}
use Rattle.ob_meaning.specs.Values.{Program}
use Rattle.ob_scheme.specs.Lines.{Operand, Number, StringHere, OtherVariable, OtherProcedure, OtherType, Line}
use Rattle.law_simulation_relation.specs.Layout.{type_number, slot, slots_words, variables_in, module_offset}
use Rattle.law_simulation_relation.specs.Texts.{text_words, texts_in}
use Rattle.law_simulation_relation.specs.Relation.{number_of}
use Rattle.law_simulation_relation.specs.Stands.{Scope, FilledStands, instr}

-- where the next string is laid down
abbrev pub past : Operand → ℕ → ℕ
past (Number z) at = at
past (StringHere text words) at = at + words
past (OtherVariable m x) at = at
past (OtherProcedure m x) at = at
past (OtherType own q) at = at

-- how many record types a module has in an image
abbrev pub own_types_in : List Descriptor → List ℕ → ℕ
own_types_in [] m = 0
own_types_in (d ∷ ds) m = if bytes_eq m d.«module» then suc (own_types_in ds m) else own_types_in ds m

-- a string stands among the words of its module, filled with 0X to so many words
pub record StringThere (program : Program) (unit text : List ℕ) (n at : ℕ) : Type 0 where
  pub before : List ℤ
  pub behind : List ℤ
  pub is : texts_in program program unit ≡ before ++ (text_words text n ++ behind)
  pub offset : slots_words (variables_in program program unit) + length before ≡ at

module _ (program : Program) (unit : List ℕ) where
  abbrev pub StringIs : Operand → ℕ → Type 0
  StringIs (Number z) at = Unit {0}
  StringIs (StringHere text words) at = StringThere program unit text words at
  StringIs (OtherVariable m x) at = Unit {0}
  StringIs (OtherProcedure m x) at = Unit {0}
  StringIs (OtherType own q) at = Unit {0}

  -- the strings of lines stand one behind the other
  abbrev pub StringsStand : List Line → ℕ → Type 0
  StringsStand [] at = Unit {0}
  StringsStand (l ∷ ls) at = StringIs l.a at × (StringIs l.b (past l.a at) × StringsStand ls (past l.b (past l.a at)))

abbrev pub IsNumber : Operand → Type 0
IsNumber (Number z) = Unit {0}
IsNumber o = ⊥

module _ (sc : Scope) where
  -- a string is laid down at an offset and stands there; links have what they name
  abbrev pub OperandIs : Operand → ℕ → ℤ → Type 0
  OperandIs (Number z) at k = k ≡ z
  OperandIs (StringHere text words) at k = (k ≡ pos at) × FilledStands sc text words at
  OperandIs (OtherVariable m x) at k = (n : ℕ) × (k ≡ pos n) × (slice_get sc.u.variable_links n ≡ Some (suc (module_offset sc.program sc.program m + slot (variables_in sc.program sc.program m) x)))
  OperandIs (OtherProcedure m x) at k = (n : ℕ) × (k ≡ pos n) × (slice_get sc.u.procedure_links n ≡ Some (number_of sc.program (λ s q. Unit {0}) sc.img (record { «module» = m; object = x })))
  OperandIs (OtherType own q) at k = (n : ℕ) × (k ≡ pos n) × (own ≡ own_types_in sc.img.types sc.unit → slice_get sc.u.types n ≡ Some (type_number sc.img.types q))

  abbrev pub PositionIs : Option Pos → ℕ → Type 0
  PositionIs None pc = Unit {0}
  PositionIs (Some p) pc = position_at sc.u.positions pc ≡ p

  pub record LineStands (l : Line) (pc at : ℕ) : Type 0 where
    pub a : ℤ
    pub b : ℤ
    pub is : slice_get sc.u.code pc ≡ Some (instr l.op a b)
    -- no line names something by both operands
    pub first : IsNumber l.a ⊎ IsNumber l.b → OperandIs l.a at a
    pub second : IsNumber l.a ⊎ IsNumber l.b → OperandIs l.b at b
    pub place : PositionIs l.at pc

  -- lines one behind the other, with more code behind them
  abbrev pub LinesStand : List Line → ℕ → ℕ → Type 0
  LinesStand [] pc at = pc < length sc.u.code
  LinesStand (l ∷ ls) pc at = LineStands l pc at × LinesStand ls (suc pc) (past l.b (past l.a at))

  -- the same, as a thing of its own
  pub record Behind (ls : List Line) (pc at : ℕ) : Type 0 where
    pub lines : LinesStand ls pc at
