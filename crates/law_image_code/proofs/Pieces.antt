-- The small pieces of the code of designators and operators.
use Rattle.std.proofs.Common.{◌≡◌, ℕ, suc, ◌+◌, List, [], ◌∷◌, ◌++◌, length, map, ℤ, refl, sym, ap, ◌∙◌, subst, arith, append_assoc, inl, inr, Some, None}
use Rattle.std.specs.Prelude.{take, replicate, pos, negsuc, ◌<◌, ◌^◌, Bool, true, false}
use Rattle.std.specs.Int.{w32, cast_signed}
use Rattle.ob_tree.specs.declared.pos.Pos.{Pos}
use Rattle.ob_tree.specs.declared.names.QName.{QName}
use Rattle.ob_types.specs.declared.types.TypeRef.{TypeRef}
use Rattle.ob_types.specs.declared.value.Value.{Value as Literal}
use Rattle.ob_types.specs.declared.value.Value.TheVariants as literal
use Rattle.ob_types.specs.declared.typed.Width.{Width}
use Rattle.ob_types.specs.declared.typed.Width.TheVariants as width
use Rattle.ob_types.specs.declared.typed.Comparison.{Comparison}
use Rattle.ob_types.specs.declared.typed.Comparison.TheVariants as comparison
use Rattle.ob_types.specs.declared.typed.Passing.{Passing}
use Rattle.ob_types.specs.declared.typed.Passing.TheVariants as passing
use Rattle.ob_types.specs.declared.typed.Variable.{Variable}
use Rattle.ob_types.specs.declared.typed.Variable.TheVariants as variable
use Rattle.ob_types.specs.declared.typed.Guarded.{Guarded}
use Rattle.ob_types.specs.declared.typed.Guarded.TheVariants as guarded
use Rattle.ob_types.specs.declared.typed.Unary.{Unary}
use Rattle.ob_types.specs.declared.typed.Unary.TheVariants as unary
use Rattle.ob_types.specs.declared.typed.Binary.{Binary}
use Rattle.ob_types.specs.declared.typed.Binary.TheVariants as binary
use Rattle.ob_types.specs.declared.typed.Update.{Update}
use Rattle.ob_types.specs.declared.typed.Update.TheVariants as update
use Rattle.ob_types.specs.declared.desc.Receiver.TheVariants as receiver
use Rattle.ob_types.specs.declared.typed.Callee.{Callee}
use Rattle.ob_types.specs.declared.typed.Callee.TheVariants as callee
use Rattle.ob_types.specs.declared.typed.Family.{Family}
use Rattle.ob_types.specs.declared.typed.OutProcedure.{OutProcedure}
use Rattle.ob_types.specs.declared.typed.OutProcedure.TheVariants as out
use Rattle.ob_types.specs.TypedSyntax.{Desig, OfVariable, Deref, Guard, Constant, ValueOf, Actuals, NoActual, AnActual}
use Rattle.ob_layout.specs.Room.{slots}
use Rattle.ob_types.specs.TypedKinds.{variable_type}
use Rattle.ob_instr.specs.declared.opcode.Opcode.{Opcode}
use Rattle.ob_instr.specs.declared.opcode.Opcode.TheVariants as op
use Rattle.ob_instr.specs.Rows.{truth}
use Rattle.ob_meaning.specs.Values.{form_in}
use Rattle.ob_scheme.specs.Lines.{Number, Line, count, plain, placed, placed_two, bare}
use Rattle.ob_scheme.specs.Descriptions.{elements_of, method_number}
use Rattle.ob_scheme.specs.Context.{Context, parameter_slot, local_slot, type_operand, named_operand, record_operand}
use Rattle.ob_scheme.specs.Operations.{bytes_of, set_word, truth_word, unary_code, binary_line, comparison_code, relation_number, out_number, update_line}
use Rattle.ob_scheme.specs.declared.want.Want.{Want}
use Rattle.ob_scheme.specs.declared.want.Want.TheVariants as want
use Rattle.ob_scheme.specs.Expressions.{pair_code, from_place, from_pointer, from_guard, measured_behind, length_operand, variable_code, string_line, constant_code, guard_want, guard_line, call_line, family_number, words_of_actuals, words_behind_receiver}
use Rattle.law_simulation_relation.specs.Layout.{slot}
use Rattle.law_simulation_relation.specs.Ends.{end_unary, end_place, end_tagged, end_variable}
use Rattle.law_simulation_relation.specs.Stands as code
use Rattle.law_simulation_relation.specs.Stands.{Scope, instr, with_a, bytes, Has, HasAt, HasType, PlaceCode, TaggedCode, OpenCode, Form2, form_of, fixed_length, record_name, TextStands, FilledStands}
use Rattle.law_simulation_relation.specs.Texts.{text_words}
use Rattle.law_image_code.specs.Standing.{LineStands, Behind}
use Rattle.law_image_code.specs.Fits.{IsWhole, CalleeFits, IsThere, IsKnown, IsArrayType, IsOpenType, IsRecordType, PlaceGives, OpenGives, TaggedGives, VariableGives, PointerGives, GuardGives, ConstantGives}
use Rattle.law_image_code.specs.Agrees.{Agrees}
use Rattle.law_image_code.specs.Wanted.{place_end, desig_end, expr_end, DesigStands, ExprStands, constant_texts}
use Rattle.law_image_code.proofs.Ends.{array_end, open_end, measured_array, measured_open}
use Rattle.law_image_code.proofs.Lines.{next, moved, no_texts, has_line, has_at, has_quiet, has_type, has_type_at, next_type, type_found, type_past, module_stands, declared_stands}

-- STRINGS

take_zero : (text : List ℕ) (k : ℕ) → take (suc (length text)) (map pos text ++ replicate (suc k) (pos 0)) ≡ map pos text ++ pos 0 ∷ []
take_zero [] k = refl
take_zero (n ∷ text) k = ap (λ l. pos n ∷ l) (take_zero text k)

-- with room for one word more there is one 0X
one_zero : (text : List ℕ) (k : ℕ) → k ≡ length text → text_words text (suc k) ≡ map pos text ++ pos 0 ∷ []
one_zero text k e = ap (λ n. take (suc n) (map pos text ++ replicate (suc k) (pos 0))) e ∙ take_zero text k

-- OPERATIONS

pub bytes_same : (w : Width) → bytes_of w ≡ bytes w
bytes_same width.ShortInt = refl
bytes_same width.Integer = refl
bytes_same width.LongInt = refl

pub relation_same : (r : Comparison) → relation_number r ≡ code.comparison_number r
relation_same comparison.Equal = refl
relation_same comparison.NotEqual = refl
relation_same comparison.Less = refl
relation_same comparison.LessEqual = refl
relation_same comparison.Greater = refl
relation_same comparison.GreaterEqual = refl

module _ (sc : Scope) where
  width_at : (o : Opcode) (w : Width) (p : Pos) (pc at : ℕ) → LineStands sc (placed o (count (bytes_of w)) p) pc at → HasAt sc pc (with_a o (bytes w)) p
  width_at o w p pc at h = subst (λ n. HasAt sc pc (with_a o n) p) (bytes_same w) (has_at sc o (pos (bytes_of w)) (pos 0) p pc at h)

  compared_at : (r : Comparison) (p : Pos) (pc at : ℕ) → LineStands sc (bare (comparison_code r)) pc at → HasAt sc pc (code.plain (code.comparison_code r)) p
  compared_at comparison.Equal p pc at h = has_quiet sc op.Eq p pc at refl h
  compared_at comparison.NotEqual p pc at h = has_quiet sc op.Ne p pc at refl h
  compared_at comparison.Less p pc at h = has_quiet sc op.Lt p pc at refl h
  compared_at comparison.LessEqual p pc at h = has_quiet sc op.Le p pc at refl h
  compared_at comparison.Greater p pc at h = has_quiet sc op.Gt p pc at refl h
  compared_at comparison.GreaterEqual p pc at h = has_quiet sc op.Ge p pc at refl h

  pub binary_stands : (o : Binary) (p : Pos) (pc at : ℕ) (rest : List Line) → Behind sc (binary_line o p ∷ rest) pc at → HasAt sc pc (code.binary_code o) p × Behind sc rest (suc pc) at
  binary_stands (binary.Add w) p pc at rest h = (width_at op.Add w p pc at h.lines.0, next sc h)
  binary_stands (binary.Subtract w) p pc at rest h = (width_at op.Sub w p pc at h.lines.0, next sc h)
  binary_stands (binary.Multiply w) p pc at rest h = (width_at op.Mul w p pc at h.lines.0, next sc h)
  binary_stands (binary.Quotient w) p pc at rest h = (has_at sc op.Div (pos 0) (pos 0) p pc at h.lines.0, next sc h)
  binary_stands (binary.Remainder w) p pc at rest h = (has_at sc op.Mod (pos 0) (pos 0) p pc at h.lines.0, next sc h)
  binary_stands binary.Union p pc at rest h = (has_quiet sc op.Union p pc at refl h.lines.0, next sc h)
  binary_stands binary.Difference p pc at rest h = (has_quiet sc op.Minus p pc at refl h.lines.0, next sc h)
  binary_stands binary.Intersection p pc at rest h = (has_quiet sc op.Meet p pc at refl h.lines.0, next sc h)
  binary_stands binary.SymmetricDifference p pc at rest h = (has_quiet sc op.Xor p pc at refl h.lines.0, next sc h)
  binary_stands binary.Range p pc at rest h = (has_at sc op.Bits (pos 0) (pos 0) p pc at h.lines.0, next sc h)
  binary_stands binary.In p pc at rest h = (has_at sc op.In (pos 0) (pos 0) p pc at h.lines.0, next sc h)
  binary_stands binary.Ash p pc at rest h = (has_at sc op.Ash (pos 0) (pos 0) p pc at h.lines.0, next sc h)
  binary_stands (binary.Compare r compared) p pc at rest h = (compared_at r p pc at h.lines.0, next sc h)

  pub unary_stands : (o : Unary) (p : Pos) (pc at : ℕ) (rest : List Line) → Behind sc (unary_code o p ++ rest) pc at → code.UnaryCode sc (code.unary_code o) pc p × Behind sc rest (end_unary o pc) at
  unary_stands (unary.Negate w) p pc at rest h = (width_at op.Neg w p pc at h.lines.0, next sc h)
  unary_stands unary.Not p pc at rest h = (has_quiet sc op.Not p pc at refl h.lines.0, next sc h)
  unary_stands unary.Complement p pc at rest h = (has_quiet sc op.Compl p pc at refl h.lines.0, next sc h)
  unary_stands (unary.Abs w) p pc at rest h = (width_at op.Abs w p pc at h.lines.0, next sc h)
  unary_stands unary.Cap p pc at rest h = (has_quiet sc op.Cap p pc at refl h.lines.0, next sc h)
  unary_stands unary.Chr p pc at rest h = (has_at sc op.Chr (pos 0) (pos 0) p pc at h.lines.0, next sc h)
  unary_stands (unary.Long w) p pc at rest h = (tt, h)
  unary_stands unary.Odd p pc at rest h = (has_quiet sc op.Odd p pc at refl h.lines.0, next sc h)
  unary_stands unary.Ord p pc at rest h = (tt, h)
  unary_stands (unary.Short w) p pc at rest h = (width_at op.Range w p pc at h.lines.0, next sc h)
  unary_stands unary.Element p pc at rest h = (has_at sc op.Bit (pos 0) (pos 0) p pc at h.lines.0, next sc h)

  pub update_stands : (o : Update) (p : Pos) (pc at : ℕ) (rest : List Line) → Behind sc (update_line o p ∷ rest) pc at → HasAt sc pc (code.update_code o) p × Behind sc rest (suc pc) at
  update_stands (update.Inc w) p pc at rest h = (width_at op.Inc w p pc at h.lines.0, next sc h)
  update_stands (update.Dec w) p pc at rest h = (width_at op.Dec w p pc at h.lines.0, next sc h)
  update_stands update.Incl p pc at rest h = (has_at sc op.Incl (pos 0) (pos 0) p pc at h.lines.0, next sc h)
  update_stands update.Excl p pc at rest h = (has_at sc op.Excl (pos 0) (pos 0) p pc at h.lines.0, next sc h)

  -- CONSTANTS

  truth_same : (b : Bool) → truth_word b ≡ truth b
  truth_same false = refl
  truth_same true = refl

  set_same : (n : ℕ) → n < 2 ^ 32 → set_word n ≡ cast_signed w32 n
  set_same n lt = refl

  int_stands : (z y : ℤ) (pc at : ℕ) (rest : List Line) → z ≡ y → Behind sc (plain op.Int (Number z) ∷ rest) pc at → Has sc pc (instr op.Int y (pos 0)) × Behind sc rest (suc pc) at
  int_stands z y pc at rest e h = (subst (λ k. Has sc pc (instr op.Int k (pos 0))) e (has_line sc op.Int z (pos 0) None pc at h.lines.0), next sc h)

  string_stands : (text : List ℕ) (n pc at : ℕ) (rest : List Line) → Behind sc (string_line text n ∷ rest) pc at → (Has sc pc (with_a op.Global at) × FilledStands sc text n at) × Behind sc rest (suc pc) (at + n)
  string_stands text n pc at rest h =
      let l = h.lines.0 in
      ((record { is = l.is ∙ ap (λ k. Some (instr op.Global k l.b)) (l.first (inr tt)).0 ∙ ap (λ k. Some (instr op.Global (pos at) k)) (l.second (inr tt)) }, (l.first (inr tt)).1), next sc h)

  -- a string with one 0X behind it
  text_there : (text : List ℕ) (at : ℕ) → FilledStands sc text (suc (length text)) at → TextStands sc text at
  text_there text at f = record {
    before = f.before;
    behind = f.behind;
    is = f.is ∙ ap (λ l. f.before ++ (l ++ f.behind)) (one_zero text (length text) refl) ∙ ap (λ l. f.before ++ l) (append_assoc (map pos text) (pos 0 ∷ []) f.behind);
    offset = f.offset;
  }

  word_stands : (z y : ℤ) (pc at : ℕ) (rest : List Line) → z ≡ y → Behind sc (plain op.Int (Number z) ∷ rest) pc at → Has sc pc (instr op.Int y (pos 0)) × Behind sc rest (suc pc) (at + 0)
  word_stands z y pc at rest e h = let i = int_stands z y pc at rest e h in (i.0, no_texts sc i.1)

  -- a string and the 0X behind it
  text_stands : (text : List ℕ) (pc at : ℕ) (rest : List Line) → Behind sc (string_line text (suc (length text)) ∷ rest) pc at → (Has sc pc (with_a op.Global at) × TextStands sc text at) × Behind sc rest (suc pc) (at + (length text + 1))
  text_stands text pc at rest h =
      let s = string_stands text (suc (length text)) pc at rest h in
      let e : at + suc (length text) ≡ at + (length text + 1) = omega arith in
      ((s.0.0, text_there text at s.0.1), moved sc _ _ refl e s.1)

  pub constant_stands : (w : Want) (v : Literal) (pc at : ℕ) (rest : List Line) → ConstantGives w v → Behind sc (constant_code w v ++ rest) pc at → ExprStands sc w (Constant v) pc at × Behind sc rest (expr_end sc.program w (Constant v) pc) (at + constant_texts sc w v)
  constant_stands want.Value (literal.Bool b) pc at rest g h = word_stands (truth_word b) (truth b) pc at rest (truth_same b) h
  constant_stands want.Value (literal.Char n) pc at rest g h = word_stands (pos n) (pos n) pc at rest refl h
  constant_stands want.Value (literal.Int z) pc at rest g h = word_stands z z pc at rest refl h
  constant_stands want.Value (literal.Set n) pc at rest g h = word_stands (set_word n) (cast_signed w32 n) pc at rest (set_same n g) h
  constant_stands want.Value (literal.Str text) pc at rest g h = absurd g
  constant_stands want.Value literal.Nil pc at rest g h = word_stands (pos 0) (pos 0) pc at rest refl h
  constant_stands want.Place (literal.Str text) pc at rest g h = text_stands text pc at rest h
  constant_stands (want.Room n) (literal.Str text) pc at rest g h = string_stands text n pc at rest h
  constant_stands want.PlaceAndLength (literal.Str text) pc at rest g h =
      let s = text_stands text pc at (plain op.Int (count (suc (length text))) ∷ rest) h in
      let i = int_stands (pos (suc (length text))) (pos (suc (length text))) (suc pc) (at + (length text + 1)) rest refl s.1 in
      ((s.0.0, (s.0.1, i.0)), i.1)
  constant_stands w v pc at rest g h = absurd g

  -- VARIABLES

  module _ (c : Context) (ag : Agrees sc c) where
    abbrev FromPlace : Want → TypeRef → ℕ → Type 0
    FromPlace want.Value t pc = Has sc pc (code.plain op.Load)
    FromPlace want.Place t pc = Unit {0}
    FromPlace (want.Room n) t pc = Unit {0}
    FromPlace want.PlaceAndTag t pc = HasType sc pc op.Tag (record_name sc (form_in sc.program t))
    FromPlace want.Tag t pc = Unit {0}
    FromPlace want.PlaceAndLength t pc = Has sc pc (with_a op.Int (fixed_length sc (form_in sc.program t)))
    FromPlace want.Length t pc = Unit {0}

    -- its record's name is what its descriptor is found by
    record_tag : (t : TypeRef) (pc at : ℕ) (rest : List Line) → IsRecordType sc.program c t → Behind sc (plain op.Tag (record_operand c t) ∷ rest) pc at → HasType sc pc op.Tag (record_name sc (form_in sc.program t)) × Behind sc rest (suc pc) at
    record_tag t pc at rest g h =
        let k : Behind sc (plain op.Tag (type_operand c g.0) ∷ rest) pc at = subst (λ o. Behind sc (plain op.Tag (named_operand c o) ∷ rest) pc at) (ag.described.records t g.0 g.1 g.2 g.3) h in
        (subst (λ f. HasType sc pc op.Tag (record_name sc f)) (sym g.3) (has_type sc c ag op.Tag g.0 None pc at g.4 k.lines.0), next_type sc c ag g.0 k)

    array_length : (t : TypeRef) (pc at : ℕ) (rest : List Line) → IsArrayType sc.program c t → Behind sc (plain op.Int (length_operand (elements_of c.types t)) ∷ rest) pc at → Has sc pc (with_a op.Int (fixed_length sc (form_in sc.program t))) × Behind sc rest (suc pc) at
    array_length t pc at rest g h =
        let k : Behind sc (plain op.Int (count g.0) ∷ rest) pc at = subst (λ o. Behind sc (plain op.Int (length_operand o) ∷ rest) pc at) (measured_array c sc.program ag.described t g) h in
        (subst (λ f. Has sc pc (with_a op.Int (fixed_length sc f))) (sym g.2) (has_line sc op.Int (pos g.0) (pos 0) None pc at k.lines.0), next sc k)

    pub from_place_stands : (w : Want) (t : TypeRef) (pc at : ℕ) (rest : List Line) → PlaceGives sc.program c w t → Behind sc (from_place c w t ++ rest) pc at → FromPlace w t pc × Behind sc rest (place_end w pc) at
    from_place_stands want.Value t pc at rest g h = (has_line sc op.Load (pos 0) (pos 0) None pc at h.lines.0, next sc h)
    from_place_stands want.Place t pc at rest g h = (tt, h)
    from_place_stands (want.Room n) t pc at rest g h = (tt, h)
    from_place_stands want.PlaceAndTag t pc at rest g h = record_tag t pc at rest g h
    from_place_stands want.Tag t pc at rest g h = absurd g
    from_place_stands want.PlaceAndLength t pc at rest g h = array_length t pc at rest g h
    from_place_stands want.Length t pc at rest g h = absurd g

    array_form : (t : TypeRef) (A B : Type 0) → IsArrayType sc.program c t → B → Form2 sc (form_in sc.program t) A B
    array_form t A B g x = subst (λ f. Form2 sc f A B) (sym g.2) x

    pub open_form : (t : TypeRef) (A B : Type 0) → IsOpenType sc.program c t → A → Form2 sc (form_in sc.program t) A B
    open_form t A B g x = subst (λ f. Form2 sc f A B) (sym g.1) x

    pub opened_form : (t : TypeRef) (A B : Type 0) → IsOpenType sc.program c t → Form2 sc (form_in sc.program t) A B → A
    opened_form t A B g x = subst (λ f. Form2 sc f A B) g.1 x

    -- what is wanted of a variable with a place of its own
    pub placed_stands : (w : Want) (d : Desig) (pc at q : ℕ) (rest : List Line) → PlaceGives sc.program c w (variable_type d) → (HasType sc (end_place sc.program d pc) op.Tag (record_name sc (form_of sc d)) → TaggedCode sc d pc at) → end_tagged sc.program d pc ≡ suc (end_place sc.program d pc) → PlaceCode sc d pc at → FromPlace w (variable_type d) (end_place sc.program d pc) × Behind sc rest (place_end w (end_place sc.program d pc)) q → DesigStands sc w d pc at × Behind sc rest (desig_end sc.program w d pc) q
    placed_stands want.Value d pc at q rest g tagged e pl x = ((pl, x.0), x.1)
    placed_stands want.Place d pc at q rest g tagged e pl x = (pl, x.1)
    placed_stands (want.Room n) d pc at q rest g tagged e pl x = (pl, x.1)
    placed_stands want.PlaceAndTag d pc at q rest g tagged e pl x = (tagged x.0, moved sc _ _ (sym e) refl x.1)
    placed_stands want.Tag d pc at q rest g tagged e pl x = absurd g
    placed_stands want.PlaceAndLength d pc at q rest g tagged e pl x =
        (array_form (variable_type d) (OpenCode sc d pc at) (PlaceCode sc d pc at × Has sc (end_place sc.program d pc) (with_a op.Int (fixed_length sc (form_of sc d)))) g (pl, x.0), moved sc _ _ (sym (array_end c sc.program (variable_type d) _ _ g)) refl x.1)
    placed_stands want.Length d pc at q rest g tagged e pl x = absurd g

    local_at : (k : ℕ) (x : List ℕ) (pc at : ℕ) → k ≡ slot sc.held x → LineStands sc (plain op.Local (count k)) pc at → Has sc pc (with_a op.Local (slot sc.held x))
    local_at k x pc at e h = subst (λ n. Has sc pc (with_a op.Local n)) e (has_line sc op.Local (pos k) (pos 0) None pc at h)

    second_at : (k : ℕ) (x : List ℕ) (pc at : ℕ) → k ≡ slot sc.held x → LineStands sc (plain op.Local (count (suc k))) pc at → Has sc pc (with_a op.Local (suc (slot sc.held x)))
    second_at k x pc at e h = subst (λ n. Has sc pc (with_a op.Local (suc n))) e (has_line sc op.Local (pos (suc k)) (pos 0) None pc at h)

    load_at : (pc at : ℕ) → LineStands sc (bare op.Load) pc at → Has sc pc (code.plain op.Load)
    load_at pc at h = has_line sc op.Load (pos 0) (pos 0) None pc at h

    own_stands : (v : Variable) (k : ℕ) (x : List ℕ) (w : Want) (t : TypeRef) (pc at : ℕ) (rest : List Line) → k ≡ slot sc.held x → PlaceGives sc.program c w t → Behind sc (plain op.Local (count k) ∷ (from_place c w t ++ rest)) pc at → Has sc pc (with_a op.Local (slot sc.held x)) × (FromPlace w t (suc pc) × Behind sc rest (place_end w (suc pc)) at)
    own_stands v k x w t pc at rest e g h = (local_at k x pc at e h.lines.0, from_place_stands w t (suc pc) at rest g (next sc h))

    held_stands : (k : ℕ) (x : List ℕ) (w : Want) (t : TypeRef) (pc at : ℕ) (rest : List Line) → k ≡ slot sc.held x → PlaceGives sc.program c w t → Behind sc (plain op.Local (count k) ∷ bare op.Load ∷ (from_place c w t ++ rest)) pc at → (Has sc pc (with_a op.Local (slot sc.held x)) × Has sc (suc pc) (code.plain op.Load)) × (FromPlace w t (suc (suc pc)) × Behind sc rest (place_end w (suc (suc pc))) at)
    held_stands k x w t pc at rest e g h = ((local_at k x pc at e h.lines.0, load_at (suc pc) at h.lines.1.0), from_place_stands w t (suc (suc pc)) at rest g (next sc (next sc h)))

    abbrev Words : List ℕ → ℕ → Type 0
    Words x pc = Has sc pc (with_a op.Local (slot sc.held x)) × Has sc (suc pc) (code.plain op.Load)

    tagged_stands : (w : Want) (k : ℕ) (x : List ℕ) (t : TypeRef) (pc at : ℕ) (rest : List Line) → k ≡ slot sc.held x → TaggedGives w → Behind sc (pair_code k w ++ rest) pc at → DesigStands sc w (OfVariable (variable.Parameter passing.VariableRecord x) t) pc at × Behind sc rest (desig_end sc.program w (OfVariable (variable.Parameter passing.VariableRecord x) t) pc) at
    tagged_stands want.Value k x t pc at rest e g h = absurd g
    tagged_stands want.Place k x t pc at rest e g h = ((local_at k x pc at e h.lines.0, load_at (suc pc) at h.lines.1.0), next sc (next sc h))
    tagged_stands (want.Room n) k x t pc at rest e g h = ((local_at k x pc at e h.lines.0, load_at (suc pc) at h.lines.1.0), next sc (next sc h))
    tagged_stands want.PlaceAndTag k x t pc at rest e g h = (((local_at k x pc at e h.lines.0, load_at (suc pc) at h.lines.1.0), (second_at k x (suc (suc pc)) at e h.lines.1.1.0, load_at (suc (suc (suc pc))) at h.lines.1.1.1.0)), next sc (next sc (next sc (next sc h))))
    tagged_stands want.Tag k x t pc at rest e g h = ((second_at k x pc at e h.lines.0, load_at (suc pc) at h.lines.1.0), next sc (next sc h))
    tagged_stands want.PlaceAndLength k x t pc at rest e g h = absurd g
    tagged_stands want.Length k x t pc at rest e g h = absurd g

    -- an open array, whose place and length stand in its two words
    opened_stands : (w : Want) (k : ℕ) (v : Variable) (x : List ℕ) (t : TypeRef) (pc at : ℕ) (rest : List Line) → k ≡ slot sc.held x → OpenGives sc.program c w t → end_variable v pc ≡ suc (suc pc) → (Words x pc → code.VariableCode sc v pc) → code.variable_name sc v ≡ x → Behind sc (pair_code k w ++ rest) pc at → DesigStands sc w (OfVariable v t) pc at × Behind sc rest (desig_end sc.program w (OfVariable v t) pc) at
    opened_stands want.Value k v x t pc at rest e g ends is name h = absurd g
    opened_stands want.Place k v x t pc at rest e g ends is name h = (is (local_at k x pc at e h.lines.0, load_at (suc pc) at h.lines.1.0), moved sc _ _ (sym ends) refl (next sc (next sc h)))
    opened_stands (want.Room n) k v x t pc at rest e g ends is name h = (is (local_at k x pc at e h.lines.0, load_at (suc pc) at h.lines.1.0), moved sc _ _ (sym ends) refl (next sc (next sc h)))
    opened_stands want.PlaceAndTag k v x t pc at rest e g ends is name h = absurd g
    opened_stands want.Tag k v x t pc at rest e g ends is name h = absurd g
    opened_stands want.PlaceAndLength k v x t pc at rest e g ends is name h = (
      open_form t (OpenCode sc (OfVariable v t) pc at) (PlaceCode sc (OfVariable v t) pc at × Has sc (end_place sc.program (OfVariable v t) pc) (with_a op.Int (fixed_length sc (form_in sc.program t)))) g
          (is (local_at k x pc at e h.lines.0, load_at (suc pc) at h.lines.1.0), subst (λ y. code.SecondCode sc y (suc (suc pc))) (sym name) (second_at k x (suc (suc pc)) at e h.lines.1.1.0, load_at (suc (suc (suc pc))) at h.lines.1.1.1.0)),
      moved sc _ _ (sym (open_end c sc.program t _ _ g)) refl (next sc (next sc (next sc (next sc h)))),
    )
    opened_stands want.Length k v x t pc at rest e g ends is name h = (subst (λ y. code.SecondCode sc y pc) (sym name) (second_at k x pc at e h.lines.0, load_at (suc pc) at h.lines.1.0), next sc (next sc h))

    pub variable_stands : (v : Variable) (w : Want) (t : TypeRef) (pc at : ℕ) (rest : List Line) → IsThere c v → VariableGives sc.program c v w t → Behind sc (variable_code c w v t ++ rest) pc at → DesigStands sc w (OfVariable v t) pc at × Behind sc rest (desig_end sc.program w (OfVariable v t) pc) at
    variable_stands (variable.Module m x) w t pc at rest there g h =
        let r = module_stands sc c ag m x (from_place c w t ++ rest) pc at h in
        placed_stands w (OfVariable (variable.Module m x) t) pc at at rest g (λ k. (r.0, k)) refl r.0 (from_place_stands w t (suc pc) at rest g r.1)
    variable_stands (variable.Local x) w t pc at rest there g h =
        let r = own_stands (variable.Local x) (local_slot c x) x w t pc at rest (ag.locals x there) g h in
        placed_stands w (OfVariable (variable.Local x) t) pc at at rest g (λ k. (r.0, k)) refl r.0 r.1
    variable_stands (variable.Parameter passing.Scalar x) w t pc at rest there g h =
        let r = own_stands (variable.Parameter passing.Scalar x) (parameter_slot c x) x w t pc at rest (ag.parameters x there) g h in
        placed_stands w (OfVariable (variable.Parameter passing.Scalar x) t) pc at at rest g (λ k. (r.0, k)) refl r.0 r.1
    variable_stands (variable.Parameter passing.Structure x) w t pc at rest there g h =
        let r = held_stands (parameter_slot c x) x w t pc at rest (ag.parameters x there) g h in
        placed_stands w (OfVariable (variable.Parameter passing.Structure x) t) pc at at rest g (λ k. (r.0, k)) refl r.0 r.1
    variable_stands (variable.Parameter passing.Variable x) w t pc at rest there g h =
        let r = held_stands (parameter_slot c x) x w t pc at rest (ag.parameters x there) g h in
        placed_stands w (OfVariable (variable.Parameter passing.Variable x) t) pc at at rest g (λ k. (r.0, k)) refl r.0 r.1
    variable_stands (variable.Parameter passing.OpenArray x) w t pc at rest there g h = opened_stands w (parameter_slot c x) (variable.Parameter passing.OpenArray x) x t pc at rest (ag.parameters x there) g refl (λ k. k) refl h
    variable_stands (variable.Parameter passing.VariableOpenArray x) w t pc at rest there g h = opened_stands w (parameter_slot c x) (variable.Parameter passing.VariableOpenArray x) x t pc at rest (ag.parameters x there) g refl (λ k. k) refl h
    variable_stands (variable.Parameter passing.VariableRecord x) w t pc at rest there g h = tagged_stands w (parameter_slot c x) x t pc at rest (ag.parameters x there) g h

    -- WHAT POINTERS POINT TO

    abbrev Loaded : Desig → ℕ → ℕ → Type 0
    Loaded d pc at = PlaceCode sc d pc at × Has sc (end_place sc.program d pc) (code.plain op.Load)

    pub pointer_stands : (w : Want) (d : Desig) (p : Pos) (t : TypeRef) (pc at q : ℕ) (rest : List Line) → PointerGives sc.program c w t → Loaded d pc at → Behind sc (from_pointer c w t p ++ rest) (suc (end_place sc.program d pc)) q → DesigStands sc w (Deref d p t) pc at × Behind sc rest (desig_end sc.program w (Deref d p t) pc) q
    pointer_stands want.Value d p t pc at q rest g l h = (((l.0, (l.1, has_at sc op.Deref (pos 0) (pos 0) p _ q h.lines.0)), load_at _ q h.lines.1.0), next sc (next sc h))
    pointer_stands want.Place d p t pc at q rest g l h = ((l.0, (l.1, has_at sc op.Deref (pos 0) (pos 0) p _ q h.lines.0)), next sc h)
    pointer_stands (want.Room n) d p t pc at q rest g l h = ((l.0, (l.1, has_at sc op.Deref (pos 0) (pos 0) p _ q h.lines.0)), next sc h)
    pointer_stands want.PlaceAndTag d p t pc at q rest g l h = ((l.0, (l.1, has_at sc op.Tagged (pos 0) (pos 0) p _ q h.lines.0)), next sc h)
    pointer_stands want.Tag d p t pc at q rest g l h = absurd g
    pointer_stands want.PlaceAndLength d p t pc at q rest (inl g) l h =
        let k : Behind sc (measured_behind (Some g.0) p ++ rest) (suc (end_place sc.program d pc)) q = subst (λ o. Behind sc (measured_behind o p ++ rest) (suc (end_place sc.program d pc)) q) (measured_array c sc.program ag.described t g) h in (
          array_form t (OpenCode sc (Deref d p t) pc at) (PlaceCode sc (Deref d p t) pc at × Has sc (end_place sc.program (Deref d p t) pc) (with_a op.Int (fixed_length sc (form_in sc.program t)))) g
              ((l.0, (l.1, has_at sc op.Deref (pos 0) (pos 0) p _ q k.lines.0)), subst (λ f. Has sc (suc (suc (end_place sc.program d pc))) (with_a op.Int (fixed_length sc f))) (sym g.2) (has_line sc op.Int (pos g.0) (pos 0) None _ q k.lines.1.0)),
          moved sc _ _ (sym (array_end c sc.program t _ _ g)) refl (next sc (next sc k)),
        )
    pointer_stands want.PlaceAndLength d p t pc at q rest (inr g) l h =
        let k : Behind sc (measured_behind None p ++ rest) (suc (end_place sc.program d pc)) q = subst (λ o. Behind sc (measured_behind o p ++ rest) (suc (end_place sc.program d pc)) q) (measured_open c sc.program ag.described t g) h in (
          open_form t (OpenCode sc (Deref d p t) pc at) (PlaceCode sc (Deref d p t) pc at × Has sc (end_place sc.program (Deref d p t) pc) (with_a op.Int (fixed_length sc (form_in sc.program t)))) g
              (l.0, (l.1, has_at sc op.Lenned (pos 0) (pos 0) p _ q k.lines.0)),
          moved sc _ _ (sym (open_end c sc.program t _ _ g)) refl (next sc k),
        )
    pointer_stands want.Length d p t pc at q rest g l h =
        ((l.0, (l.1, (has_at sc op.Deref (pos 0) (pos 0) p _ q h.lines.0, (has_line sc op.Offset (negsuc 0) (pos 0) None _ q h.lines.1.0, load_at _ q h.lines.1.1.0)))), next sc (next sc (next sc h)))

    -- GUARDS

    pub guard_stands : (w : Want) (g : Guarded) (d : Desig) (q : QName) (p : Pos) (t : TypeRef) (pc at k : ℕ) (rest : List Line) → IsKnown c q → GuardGives g w → DesigStands sc (guard_want g w) d pc at → Behind sc (guard_line c g q p ∷ (from_guard c g w t ++ rest)) (desig_end sc.program (guard_want g w) d pc) k → DesigStands sc w (Guard d g q p t) pc at × Behind sc rest (desig_end sc.program w (Guard d g q p t) pc) k
    guard_stands want.Value guarded.Pointer d q p t pc at k rest known g x h = let n = next_type sc c ag q h in (((x, has_type_at sc c ag op.GuardAt q p _ k known h.lines.0), load_at _ k n.lines.0), next sc n)
    guard_stands want.Place guarded.Pointer d q p t pc at k rest known g x h = ((x, has_type_at sc c ag op.GuardAt q p _ k known h.lines.0), next_type sc c ag q h)
    guard_stands (want.Room n) guarded.Pointer d q p t pc at k rest known g x h = ((x, has_type_at sc c ag op.GuardAt q p _ k known h.lines.0), next_type sc c ag q h)
    guard_stands want.Place guarded.Record d q p t pc at k rest known g x h = let n = next_type sc c ag q h in ((x, (has_type_at sc c ag op.GuardR q p _ k known h.lines.0, has_line sc op.Drop (pos 0) (pos 0) None _ k n.lines.0)), next sc n)
    guard_stands (want.Room m) guarded.Record d q p t pc at k rest known g x h = let n = next_type sc c ag q h in ((x, (has_type_at sc c ag op.GuardR q p _ k known h.lines.0, has_line sc op.Drop (pos 0) (pos 0) None _ k n.lines.0)), next sc n)
    guard_stands want.PlaceAndTag guarded.Record d q p t pc at k rest known g x h = ((x, has_type_at sc c ag op.GuardR q p _ k known h.lines.0), next_type sc c ag q h)
    guard_stands want.Tag guarded.Record d q p t pc at k rest known g x h = ((x, has_type_at sc c ag op.GuardR q p _ k known h.lines.0), next_type sc c ag q h)
    guard_stands want.Value guarded.Record d q p t pc at k rest known g x h = absurd g
    guard_stands want.PlaceAndLength guarded.Record d q p t pc at k rest known g x h = absurd g
    guard_stands want.Length guarded.Record d q p t pc at k rest known g x h = absurd g
    guard_stands w guarded.Pointer d q p t pc at k rest known g x h = absurd g

    -- THE VALUE OF A VARIABLE

    pub whole_stands : (w : Want) (d : Desig) (pc at : ℕ) → IsWhole w → DesigStands sc w d pc at → ExprStands sc w (ValueOf d) pc at
    whole_stands want.Value d pc at g x = x
    whole_stands want.Place d pc at g x = x
    whole_stands (want.Room n) d pc at g x = x
    whole_stands want.PlaceAndTag d pc at g x = x
    whole_stands want.Tag d pc at g x = absurd g
    whole_stands want.PlaceAndLength d pc at g x = x
    whole_stands want.Length d pc at g x = absurd g

    -- CALLS

    slots_same : (how : Passing) → slots how ≡ code.slots_passed how
    slots_same passing.Scalar = refl
    slots_same passing.Structure = refl
    slots_same passing.OpenArray = refl
    slots_same passing.Variable = refl
    slots_same passing.VariableRecord = refl
    slots_same passing.VariableOpenArray = refl

    pub operands_same : (es : Actuals) → words_of_actuals es ≡ code.operands_of es
    operands_same NoActual = refl
    operands_same (AnActual how t e rest) = ap (λ n. n + words_of_actuals rest) (slots_same how) ∙ ap (λ n. code.slots_passed how + n) (operands_same rest)

    behind_same : (es : Actuals) → words_behind_receiver es ≡ code.behind_receiver es
    behind_same NoActual = refl
    behind_same (AnActual how t e rest) = operands_same rest

    out_same : (o : OutProcedure) → out_number o ≡ code.out_code o
    out_same out.Char = refl
    out_same out.Str = refl
    out_same out.Int = refl
    out_same out.Ln = refl

    bound_at : (o : Opcode) (f : Family) (es : Actuals) (p : Pos) (pc at : ℕ) → LineStands sc (placed_two o (family_number c f) (count (words_behind_receiver es)) p) pc at → HasAt sc pc (instr o (pos (sc.method_number f)) (pos (code.behind_receiver es))) p
    bound_at o f es p pc at h = subst (λ n. HasAt sc pc (instr o (pos n) (pos (code.behind_receiver es))) p) (sym (ag.methods f)) (subst (λ n. HasAt sc pc (instr o (pos (method_number c.types f.owner f.name)) (pos n)) p) (behind_same es) (has_at sc o _ _ p pc at h))

    pub call_stands : (callee : Callee) (es : Actuals) (p : Pos) (pc at : ℕ) (rest : List Line) → CalleeFits sc.program c callee → Behind sc (call_line c callee es p ∷ rest) pc at → code.CallCode sc callee es pc p × Behind sc rest (suc pc) at
    call_stands (callee.Declared q) es p pc at rest f h = declared_stands sc c ag q p rest pc at f h
    call_stands (callee.Bound g receiver.Pointer) es p pc at rest f h = (bound_at op.CallP g es p pc at h.lines.0, next sc h)
    call_stands (callee.Bound g receiver.Record) es p pc at rest f h = (bound_at op.CallR g es p pc at h.lines.0, next sc h)
    call_stands (callee.Super base g r) es p pc at rest f h =
        let l = h.lines.0 in
        let t = type_found sc c ag base at l.a f (l.first (inr tt)) in
        let e : Some (instr op.CallS l.a l.b) ≡ Some (instr op.CallS (pos t.0) (pos (sc.method_number g))) = ap (λ x. Some (instr op.CallS x l.b)) t.1 ∙ ap (λ x. Some (instr op.CallS (pos t.0) x)) (l.second (inr tt)) ∙ ap (λ n. Some (instr op.CallS (pos t.0) (pos n))) (sym (ag.methods g)) in
        ((t.0, record { has = record { is = l.is ∙ e }; place = l.place }, t.2), moved sc _ _ refl (type_past sc c ag base at) (next sc h))
    call_stands (callee.Out o) es p pc at rest f h = (subst (λ n. HasAt sc pc (with_a op.Out n) p) (out_same o) (has_at sc op.Out _ _ p pc at h.lines.0), next sc h)
