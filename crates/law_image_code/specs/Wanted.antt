-- What is wanted of designators and expressions, as what stands in the code, and where it ends.
use Rattle.std.specs.Prelude.{ℕ, suc}
use Rattle.ob_types.specs.declared.value.Value.{Value as Literal}
use Rattle.ob_types.specs.declared.value.Value.TheVariants as literal
use Rattle.ob_types.specs.TypedSyntax.{Desig, Expr, Constant}
use Rattle.ob_instr.specs.declared.opcode.Opcode.TheVariants as op
use Rattle.ob_meaning.specs.Values.{Program}
use Rattle.ob_scheme.specs.declared.want.Want.{Want}
use Rattle.ob_scheme.specs.declared.want.Want.TheVariants as want
use Rattle.ob_meaning.specs.Globals.{literal_words}
use Rattle.law_simulation_relation.specs.Ends.{is_open, type_form, end_place, end_tagged, end_open, end_tag, end_length, end_expr, end_address, end_record, end_array}
use Rattle.law_simulation_relation.specs.Stands.{Scope, Has, plain, with_a, fixed_length, form_of, Form2, PlaceCode, TaggedCode, OpenCode, TagCode, LengthCode, ExprCode, AddressCode, StructureCode, RecordCode, ArrayCode, et}

-- behind the place of a variable
abbrev pub place_end : Want → ℕ → ℕ
place_end want.Value pc = suc pc
place_end want.Place pc = pc
place_end (want.Room n) pc = pc
place_end want.PlaceAndTag pc = suc pc
place_end want.Tag pc = pc
place_end want.PlaceAndLength pc = suc pc
place_end want.Length pc = pc

module _ (program : Program) where
  abbrev pub desig_end : Want → Desig → ℕ → ℕ
  desig_end want.Value d pc = suc (end_place program d pc)
  desig_end want.Place d pc = end_place program d pc
  desig_end (want.Room n) d pc = end_place program d pc
  desig_end want.PlaceAndTag d pc = end_tagged program d pc
  desig_end want.Tag d pc = end_tag program d pc
  desig_end want.PlaceAndLength d pc = is_open (type_form program d) (end_open program d pc) (suc (end_place program d pc))
  desig_end want.Length d pc = end_length program d pc

  abbrev pub expr_end : Want → Expr → ℕ → ℕ
  expr_end want.Value e pc = end_expr program e pc
  expr_end want.Place e pc = end_address program e pc
  expr_end (want.Room n) e pc = end_address program e pc
  expr_end want.PlaceAndTag e pc = end_record program e pc
  expr_end want.Tag e pc = pc
  expr_end want.PlaceAndLength e pc = end_array program e pc
  expr_end want.Length e pc = pc

module _ (sc : Scope) where
  abbrev pub DesigStands : Want → Desig → ℕ → ℕ → Type 0
  DesigStands want.Value d pc at = PlaceCode sc d pc at × Has sc (end_place sc.program d pc) (plain op.Load)
  DesigStands want.Place d pc at = PlaceCode sc d pc at
  DesigStands (want.Room n) d pc at = PlaceCode sc d pc at
  DesigStands want.PlaceAndTag d pc at = TaggedCode sc d pc at
  DesigStands want.Tag d pc at = TagCode sc d pc
  DesigStands want.PlaceAndLength d pc at = Form2 sc (form_of sc d) (OpenCode sc d pc at) (PlaceCode sc d pc at × Has sc (end_place sc.program d pc) (with_a op.Int (fixed_length sc (form_of sc d))))
  DesigStands want.Length d pc at = LengthCode sc d pc at

  abbrev pub ExprStands : Want → Expr → ℕ → ℕ → Type 0
  ExprStands want.Value e pc at = ExprCode sc e pc at
  ExprStands want.Place e pc at = AddressCode sc e pc at
  ExprStands (want.Room n) e pc at = StructureCode sc e n pc at
  ExprStands want.PlaceAndTag e pc at = RecordCode sc e pc at
  ExprStands want.Tag e pc at = ⊥
  ExprStands want.PlaceAndLength e pc at = ArrayCode sc e pc at
  ExprStands want.Length e pc at = ⊥

  -- the words of its strings: one that fills an array has the words of the array
  abbrev pub constant_texts : Want → Literal → ℕ
  constant_texts (want.Room n) (literal.Str text) = n
  constant_texts w v = literal_words v

  abbrev pub texts_wanted : Want → Expr → ℕ
  texts_wanted w (Constant v) = constant_texts w v
  texts_wanted w e = et sc e
