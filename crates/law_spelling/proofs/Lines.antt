-- Lines of code that have a spelling, by their operations.
use Rattle.std.proofs.Common.{◌≡◌, ℕ, suc, ◌+◌, ◌<◌, ◌≤◌, ◌^◌, true, false, List, [], ◌∷◌, ◌++◌, length, refl, ap, subst, ◌∙◌, arith}
use Rattle.std.specs.Prelude.{pos, ◌||◌, ◌&&◌, int_le, FitsSigned}
use Rattle.std.specs.Int.{w32}
use Rattle.ob_tree.specs.declared.pos.Pos.{Pos}
use Rattle.ob_instr.specs.declared.opcode.Opcode.{Opcode}
use Rattle.ob_instr.specs.declared.opcode.Opcode.TheVariants as op
use Rattle.ob_instr.specs.Spelling.{operands}
use Rattle.ob_obj.specs.Grammar.{can_stop, is_jump}
use Rattle.ob_scheme.specs.Lines.{Operand, Line, none, plain, placed, placed_two, count, jump, jump_if_false, jump_back, jump_back_if_false}
use Rattle.ob_scheme.specs.Numbers.{number_in}
use Rattle.law_spelling.specs.Coded.{PosFits}
use Rattle.law_spelling.specs.Lines.{OperandFits, LineFits, LinesFit}

pub word_fits : (n : ℕ) → n < 2 ^ 31 → FitsSigned w32 (pos n)
word_fits n h = record { sfits = h }

pub count_fits : (n : ℕ) → n < 2 ^ 31 → OperandFits (count n)
count_fits n h = word_fits n h

pub none_fits : OperandFits none
none_fits = word_fits 0 (omega arith)

pub names_one : (o : Opcode) (a : Operand) → operands o ≡ 1 → operands o < 1 → a ≡ none
names_one o a e l = absurd (omega (arith, e, l))

pub names_two : (o : Opcode) (a : Operand) → operands o ≡ 2 → operands o < 2 → a ≡ none
names_two o a e l = absurd (omega (arith, e, l))

two_names : (o : Opcode) (a : Operand) → operands o ≡ 2 → operands o < 1 → a ≡ none
two_names o a e l = absurd (omega (arith, e, l))

-- neither stops nor jumps
pub plain_fits : (pc : ℕ) (o : Opcode) (a : Operand) → can_stop o ≡ false → is_jump o ≡ false → (operands o < 1 → a ≡ none) → OperandFits a → LineFits pc (plain o a)
plain_fits pc o a s j n h = record {
  a = h;
  b = none_fits;
  no_a = n;
  no_b = λ l. refl;
  placed = λ m. ap (λ x. x || (is_jump o && int_le (number_in m a) (pos pc))) s ∙ ap (λ x. x && int_le (number_in m a) (pos pc)) j;
  at = tt;
}

pub placed_fits : (pc : ℕ) (o : Opcode) (a : Operand) (at : Pos) → can_stop o ≡ true → (operands o < 1 → a ≡ none) → OperandFits a → PosFits at → LineFits pc (placed o a at)
placed_fits pc o a at s n h p = record {
  a = h;
  b = none_fits;
  no_a = n;
  no_b = λ l. refl;
  placed = λ m. ap (λ x. x || (is_jump o && int_le (number_in m a) (pos pc))) s;
  at = p;
}

pub two_fit : (pc : ℕ) (o : Opcode) (a b : Operand) (at : Pos) → can_stop o ≡ true → operands o ≡ 2 → OperandFits a → OperandFits b → PosFits at → LineFits pc (placed_two o a b at)
two_fit pc o a b at s n h k p = record {
  a = h;
  b = k;
  no_a = two_names o a n;
  no_b = names_two o b n;
  placed = λ m. ap (λ x. x || (is_jump o && int_le (number_in m a) (pos pc))) s;
  at = p;
}

above : (t pc : ℕ) → pc < t → int_le (pos t) (pos pc) ≡ false
above t pc h = grind (arith, h)

not_above : (t pc : ℕ) → t ≤ pc → int_le (pos t) (pos pc) ≡ true
not_above t pc h = grind (arith, h)

-- on, to an index above its own
pub jump_fits : (pc t : ℕ) → pc < t → t < 2 ^ 31 → LineFits pc (jump t)
jump_fits pc t h l = record { a = count_fits t l; b = none_fits; no_a = names_one op.Jump (count t) refl; no_b = λ l. refl; placed = λ m. above t pc h; at = tt }

pub jump_if_fits : (pc t : ℕ) → pc < t → t < 2 ^ 31 → LineFits pc (jump_if_false t)
jump_if_fits pc t h l = record { a = count_fits t l; b = none_fits; no_a = names_one op.JumpF (count t) refl; no_b = λ l. refl; placed = λ m. above t pc h; at = tt }

-- back, or to itself
pub back_fits : (pc t : ℕ) (at : Pos) → t ≤ pc → t < 2 ^ 31 → PosFits at → LineFits pc (jump_back t at)
back_fits pc t at h l p = record { a = count_fits t l; b = none_fits; no_a = names_one op.Jump (count t) refl; no_b = λ l. refl; placed = λ m. not_above t pc h; at = p }

pub back_if_fits : (pc t : ℕ) (at : Pos) → t ≤ pc → t < 2 ^ 31 → PosFits at → LineFits pc (jump_back_if_false t at)
back_if_fits pc t at h l p = record { a = count_fits t l; b = none_fits; no_a = names_one op.JumpF (count t) refl; no_b = λ l. refl; placed = λ m. not_above t pc h; at = p }

-- one behind the other
pub lines_both : (pc end : ℕ) (a b : List Line) → end ≡ pc + length a → LinesFit pc a → LinesFit end b → LinesFit pc (a ++ b)
lines_both pc end [] b e h k = let same : end ≡ pc = omega (arith, e) in subst (λ n. LinesFit n b) same k
lines_both pc end (l ∷ a) b e h k = (h.0, lines_both (suc pc) end a b (omega (arith, e)) h.1 k)
