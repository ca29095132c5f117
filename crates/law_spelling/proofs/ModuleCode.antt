-- The code of a module, and the rows of its procedures, have a spelling.
use Rattle.std.proofs.Common.{◌≡◌, ℕ, ◌+◌, ◌<◌, ◌≤◌, ◌^◌, true, false, List, [], ◌∷◌, length, map, Option, Some, None, refl, arith, length-append}
use Rattle.std.specs.Prelude.{nat_le}
use Rattle.std.specs.List.{AllByRecursion}
use Rattle.std.proofs.lemmas.Bool.{false≢true, and_parts, leb-true}
use Rattle.ob_trap.specs.declared.trap.Trap.TheVariants as trap
use Rattle.ob_trap.specs.NumberLaws.{number_small}
use Rattle.ob_trap.specs.Numbers.{trap_number}
use Rattle.ob_tree.specs.declared.pos.Pos.{Pos}
use Rattle.ob_tree.specs.declared.names.QName.{QName}
use Rattle.ob_types.specs.declared.types.TypeRef.{TypeRef}
use Rattle.ob_types.specs.declared.desc.Desc.{Desc}
use Rattle.ob_types.specs.declared.desc.Desc.TheVariants as desc
use Rattle.ob_types.specs.declared.typed.Passing.{Passing}
use Rattle.ob_types.specs.declared.typed.Passing.TheVariants as passing
use Rattle.ob_types.specs.declared.typed.TypedParameter.{TypedParameter}
use Rattle.ob_types.specs.TypedSyntax.{Procedure, Module}
use Rattle.ob_format.specs.Format.{list_of, word32}
use Rattle.ob_instr.specs.declared.opcode.Opcode.TheVariants as op
use Rattle.ob_instr.specs.Parts.{slots_of, slots as slots_in, ParamFits, param_form, flag, procedure}
use Rattle.ob_layout.specs.Lists.{sum_of}
use Rattle.ob_layout.specs.Words.{words_of}
use Rattle.ob_layout.specs.Room.{slots, frame_words}
use Rattle.ob_scheme.specs.Lines.{none, count}
use Rattle.ob_scheme.specs.Descriptions.{description, open_words_in}
use Rattle.ob_scheme.specs.Context.{Context, local_words, first_hidden}
use Rattle.ob_scheme.specs.Statements.{end_stmts, stmts_code}
use Rattle.ob_scheme.specs.Needs.{have_few_operands, need_stmts, most_operands}
use Rattle.ob_scheme.specs.Procedures.{closing, within, end_procedure, procedure_code, procedures_code, param_for, row_of, rows_of}
use Rattle.ob_scheme.proofs.Ends.{stmts_end}
use Rattle.law_spelling.specs.Coded.{PosFits, BodyIsCoded}
use Rattle.law_spelling.specs.Lines.{LineFits, LinesFit, HasRoom}
use Rattle.law_spelling.proofs.Lines.{count_fits, none_fits, plain_fits, two_fit, lines_both}
use Rattle.law_spelling.proofs.Exprs.{top}
use Rattle.law_spelling.proofs.Stmts.{stmts_next, stmts_lines}

closing_fits : (t : Option TypeRef) (at : Pos) (pc : ℕ) → PosFits at → LineFits pc (closing t at)
closing_fits None at pc p = plain_fits pc op.Ret none refl refl (λ l. refl) none_fits
closing_fits (Some t) at pc p = two_fit pc op.Trap (count (trap_number trap.NoReturn)) (count 0) at refl refl (count_fits (trap_number trap.NoReturn) (omega (arith, number_small trap.NoReturn))) (count_fits 0 (omega arith)) p

-- what is known of a procedure: what code looks up in it has room, its activation has, and its statements are coded
pub record IsReady (types : QName → Option Desc) (m : Module) (p : Procedure) : Type 0 where
  pub room : HasRoom (within types m p)
  pub frame : frame_words (words_of types) p ≤ 1048576
  pub coded : BodyIsCoded types m p

module _ (types : QName → Option Desc) (m : Module) where
  abbrev pub AreReady : List Procedure → Type 0
  AreReady ps = AllByRecursion (IsReady types m) ps

  pub ends_behind : (p : Procedure) (pc : ℕ) → end_procedure types m p pc ≡ pc + length (procedure_code types m p pc)
  ends_behind p pc =
      let c = within types m p in
      let a = stmts_code c p.body pc (first_hidden c) 0 in
      let e = stmts_end c p.body pc (first_hidden c) 0 in
      let f = length-append a (closing p.result p.at ∷ []) in
      omega (arith, e, f)

  one_lines : (p : Procedure) (pc : ℕ) → IsReady types m p → need_stmts (within types m p) p.body ≤ 256 → end_procedure types m p pc ≤ top → LinesFit pc (procedure_code types m p pc)
  one_lines p pc r n l =
      let c = within types m p in
      let q = end_stmts c p.body pc in
      let f = r.frame in
      lines_both pc q (stmts_code c p.body pc (first_hidden c) 0) (closing p.result p.at ∷ []) (stmts_end c p.body pc (first_hidden c) 0)
      (stmts_lines c r.room false p.body pc (first_hidden c) 0 r.coded.body n (omega (arith, l)) (omega (arith, f)) (λ e. absurd (false≢true e)) (omega arith))
      (closing_fits p.result p.at q r.coded.at, tt)

  -- THE CODE OF ALL PROCEDURES
  pub all_lines : (ps : List Procedure) (pc : ℕ) → AreReady ps → have_few_operands types m ps ≡ true → pc + length (procedures_code types m ps pc) ≤ top → LinesFit pc (procedures_code types m ps pc)
  all_lines [] pc r n l = tt
  all_lines (p ∷ ps) pc r n l =
      let q = end_procedure types m p pc in
      let e = ends_behind p pc in
      let f = length-append (procedure_code types m p pc) (procedures_code types m ps q) in
      let few = and_parts (nat_le (need_stmts (within types m p) p.body) most_operands) (have_few_operands types m ps) n in
      lines_both pc q (procedure_code types m p pc) (procedures_code types m ps q) e
      (one_lines p pc r.0 (leb-true _ 256 few.0) (omega (arith, l, e, f)))
      (all_lines ps q r.1 few.1 (omega (arith, l, e, f)))

  -- ---- rows

  param_slots : (c : Context) (how : Passing) (t : TypeRef) → slots_of (param_for types m c how t) ≡ slots how
  param_slots c passing.Scalar t = refl
  param_slots c passing.Structure t = refl
  param_slots c passing.OpenArray t = refl
  param_slots c passing.Variable t = refl
  param_slots c passing.VariableRecord t = refl
  param_slots c passing.VariableOpenArray t = refl

  params_slots : (c : Context) (xs : List TypedParameter) → slots_in (map (λ x. param_for types m c x.passing x.of) xs) ≡ sum_of (λ x. slots x.passing) xs
  params_slots c [] = refl
  params_slots c (x ∷ xs) = let a = param_slots c x.passing x.of in let b = params_slots c xs in omega (arith, a, b)

  some_slots : (how : Passing) → 1 ≤ slots how
  some_slots passing.Scalar = omega arith
  some_slots passing.Structure = omega arith
  some_slots passing.OpenArray = omega arith
  some_slots passing.Variable = omega arith
  some_slots passing.VariableRecord = omega arith
  some_slots passing.VariableOpenArray = omega arith

  few_params : (c : Context) (xs : List TypedParameter) → length (map (λ x. param_for types m c x.passing x.of) xs) ≤ sum_of (λ x. slots x.passing) xs
  few_params c [] = omega arith
  few_params c (x ∷ xs) = let a = some_slots x.passing in let b = few_params c xs in omega (arith, a, b)

  module _ (words_few : (t : TypeRef) → words_of types t ≤ 1048576) where
    open_few : (o : Option Desc) → open_words_in types o ≤ 1048576
    open_few None = omega arith
    open_few (Some (desc.Const v)) = omega arith
    open_few (Some (desc.Var a t)) = omega arith
    open_few (Some (desc.Proc s)) = omega arith
    open_few (Some (desc.Alias a t)) = omega arith
    open_few (Some (desc.Array a n t)) = omega arith
    open_few (Some (desc.OpenArray a t)) = words_few t
    open_few (Some (desc.Pointer a t)) = omega arith
    open_few (Some (desc.ProcType a s)) = omega arith
    open_few (Some (desc.Record r)) = omega arith

    param_fits : (p : Procedure) (how : Passing) (t : TypeRef) → ParamFits (param_for types m (within types m p) how t)
    param_fits p passing.Scalar t = tt
    param_fits p passing.Structure t = words_few t
    param_fits p passing.OpenArray t = open_few (description types t)
    param_fits p passing.Variable t = tt
    param_fits p passing.VariableRecord t = tt
    param_fits p passing.VariableOpenArray t = tt

    params_fit : (p : Procedure) (xs : List TypedParameter) → AllByRecursion param_form.fits (map (λ x. param_for types m (within types m p) x.passing x.of) xs)
    unfolding param_form
    params_fit p [] = tt
    params_fit p (x ∷ xs) = (param_fits p x.passing x.of, params_fit p xs)

    row_fits : (p : Procedure) (pc : ℕ) → frame_words (words_of types) p ≤ 1048576 → pc < 2 ^ 32 → procedure.fits (row_of types m p pc)
    unfolding procedure list_of flag word32
    row_fits p pc f l =
        let c = within types m p in
        let a = params_slots c p.parameters in
        let b = few_params c p.parameters in
        let n = stmts_next c p.body (local_words c) in
        ((l, ((omega (arith, b, f), params_fit p p.parameters), (omega (arith, n, f), tt))), omega (arith, a, n, f))

    pub rows_fit : (ps : List Procedure) (pc : ℕ) → AreReady ps → pc + length (procedures_code types m ps pc) ≤ top → AllByRecursion procedure.fits (rows_of types m ps pc)
    rows_fit [] pc r l = tt
    rows_fit (p ∷ ps) pc r l =
        let q = end_procedure types m p pc in
        let e = ends_behind p pc in
        let f = length-append (procedure_code types m p pc) (procedures_code types m ps q) in
        (row_fits p pc r.0.frame (omega (arith, l)), rows_fit ps q r.1 (omega (arith, l, e, f)))

  -- each entry lies in the code
  pub entries_inside : (ps : List Procedure) (pc end : ℕ) → pc + length (procedures_code types m ps pc) ≡ end → AllByRecursion (λ q. q.entry < end) (rows_of types m ps pc)
  entries_inside [] pc end is = tt
  entries_inside (p ∷ ps) pc end is =
      let c = within types m p in
      let q = end_procedure types m p pc in
      let e = ends_behind p pc in
      let f = length-append (procedure_code types m p pc) (procedures_code types m ps q) in
      let g = length-append (stmts_code c p.body pc (first_hidden c) 0) (closing p.result p.at ∷ []) in
      (omega (arith, is, f, g), entries_inside ps q end (omega (arith, is, e, f)))

  pub rows_many : (ps : List Procedure) (pc : ℕ) → length (rows_of types m ps pc) ≡ length ps
  rows_many [] pc = refl
  rows_many (p ∷ ps) pc = let e = rows_many ps (end_procedure types m p pc) in omega (arith, e)
