-- Lines of code that have a spelling where they stand.
use Rattle.std.specs.Prelude.{◌≡◌, ℕ, suc, ◌<◌, ◌≤◌, ◌^◌, List, [], ◌∷◌, length, Some, is_some, IfSome, FitsSigned}
use Rattle.std.specs.Int.{w32}
use Rattle.ob_tree.specs.declared.names.QName.{QName}
use Rattle.ob_types.specs.declared.types.TypeRef.{TypeRef}
use Rattle.ob_types.specs.declared.value.Value.TheVariants as literal
use Rattle.ob_types.specs.TypedSyntax.{Expr, Constant}
use Rattle.ob_instr.specs.Spelling.{operands}
use Rattle.ob_format.specs.Names.{name, object_name}
use Rattle.ob_obj.specs.Grammar.{has_position}
use Rattle.ob_scheme.specs.Lines.{Operand, Number, StringHere, OtherVariable, OtherProcedure, OtherType, Line, none}
use Rattle.ob_scheme.specs.Numbers.{Named, instr_in}
use Rattle.ob_scheme.specs.Context.{Context, words as words_in, variable_place, parameter_slot, local_slot, procedure_index, type_index, own_types}
use Rattle.ob_scheme.specs.Descriptions.{elements_of, field_place, method_number}
use Rattle.ob_scheme.specs.declared.want.Want.{Want}
use Rattle.ob_scheme.specs.declared.want.Want.TheVariants as want
use Rattle.law_spelling.specs.Coded.{PosFits}

-- a number that is a word, a string with room for its 0X, names of other modules; own types are not too many
abbrev pub OperandFits : Operand → Type 0
OperandFits (Number z) = FitsSigned w32 z
OperandFits (StringHere text words) = length text < words
OperandFits (OtherVariable m x) = name.fits m × name.fits x
OperandFits (OtherProcedure m x) = name.fits m × name.fits x
OperandFits (OtherType own q) = (own ≤ 2 ^ 24) × (name.fits q.«module» × object_name.fits q.object)

-- a line at that index: it names no more operands than its operation has, and has a position just where it can stop or goes back
pub record LineFits (pc : ℕ) (l : Line) : Type 0 where
  pub a : OperandFits l.a
  pub b : OperandFits l.b
  pub no_a : operands l.op < 1 → l.a ≡ none
  pub no_b : operands l.op < 2 → l.b ≡ none
  pub placed : (n : Named) → has_position pc (instr_in n l) ≡ is_some l.at
  pub at : IfSome l.at PosFits

-- lines that begin at an index
abbrev pub LinesFit : ℕ → List Line → Type 0
LinesFit pc [] = Unit {0}
LinesFit pc (l ∷ ls) = LineFits pc l × LinesFit (suc pc) ls

-- THE NUMBERS that code looks up have room, in a module and one of its procedures
pub record HasRoom (c : Context) : Type 0 where
  pub words : (t : TypeRef) → words_in c t < 2 ^ 31
  pub places : (q : QName) (x : List ℕ) → field_place c.types q x < 2 ^ 31
  pub numbers : (q : QName) (x : List ℕ) → method_number c.types q x < 2 ^ 31
  pub elements : (t : TypeRef) (n : ℕ) → elements_of c.types t ≡ Some n → n < 2 ^ 31
  pub variables : (x : List ℕ) → variable_place c x < 2 ^ 31
  pub parameters : (x : List ℕ) → suc (parameter_slot c x) < 2 ^ 31
  pub locals : (x : List ℕ) → local_slot c x < 2 ^ 31
  pub procedures : (x : List ℕ) → procedure_index c x < 2 ^ 31
  pub types : (x : List ℕ) → type_index c x < 2 ^ 31
  pub own : own_types c ≤ 2 ^ 24

-- a string that is wanted with so many words has fewer characters
abbrev pub RoomFits : Want → Expr → Type 0
RoomFits (want.Room n) (Constant (literal.Str text)) = length text < n
RoomFits w e = Unit {0}
