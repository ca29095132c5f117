-- The premises can be met for further forms: a module with a set, and a procedure with FOR downward, CASE without ELSE, INCL, operators on sets and ASSERT.
use Rattle.std.proofs.Common.{◌≡◌, ℕ, List, [], ◌∷◌, ◌++◌, Option, Some, None, ℤ, refl, sym, ap, ◌∙◌, subst, arith, inl}
use Rattle.std.specs.Prelude.{pos, negsuc, Bool, true, false, bytes_eq, if◌then◌else◌}
use Rattle.ob_trap.specs.declared.trap.Trap.TheVariants as trap
use Rattle.ob_trap.specs.Numbers.{trap_number}
use Rattle.ob_tree.specs.declared.pos.Pos.{Pos}
use Rattle.ob_tree.specs.declared.names.QName.{QName}
use Rattle.ob_tree.specs.declared.ident.Mark.TheVariants as mark
use Rattle.ob_types.specs.declared.types.Basic.TheVariants as basic
use Rattle.ob_types.specs.declared.types.TypeRef.{TypeRef}
use Rattle.ob_types.specs.declared.types.TypeRef.TheVariants as ref
use Rattle.ob_types.specs.declared.value.Value.TheVariants as literal
use Rattle.ob_types.specs.declared.typed.Width.TheVariants as width
use Rattle.ob_types.specs.declared.typed.Passing.TheVariants as passing
use Rattle.ob_types.specs.declared.typed.Variable.TheVariants as variable
use Rattle.ob_types.specs.declared.typed.Comparison.TheVariants as comparison
use Rattle.ob_types.specs.declared.typed.Compared.TheVariants as compared
use Rattle.ob_types.specs.declared.typed.Unary.TheVariants as unary
use Rattle.ob_types.specs.declared.typed.Binary.TheVariants as binary
use Rattle.ob_types.specs.declared.typed.Update.TheVariants as update
use Rattle.ob_types.specs.declared.typed.OutProcedure.TheVariants as out
use Rattle.ob_types.specs.declared.typed.Callee.TheVariants as callee
use Rattle.ob_types.specs.declared.typed.Assigned.TheVariants as assigned
use Rattle.ob_types.specs.TypedSyntax.{Desig, OfVariable, Expr, Constant, ValueOf, Monadic, Dyadic, Call, NoActual, AnActual, Assign, CallProper, Updated, Assert, Case, For, Nothing, Then, NoCase, OneCase, NoElse, Procedure, Module}
use Rattle.ob_instr.specs.declared.opcode.Opcode.TheVariants as op
use Rattle.ob_instr.specs.declared.instr.Instr.{Instr}
use Rattle.ob_instr.specs.declared.procedure.Position.{Position}
use Rattle.ob_instr.specs.declared.procedure.Procedure as machine_procedure
use Rattle.ob_instr.specs.Image.{ModuleImage, Image, World}
use Rattle.ob_meaning.specs.Values.{Program, bases_in, procedure_of, State}
use Rattle.ob_meaning.specs.Commands.{run_first, no_store, first_globals}
use Rattle.law_simulation_relation.specs.Stands.{instr, plain, with_a, literal_word}
use Rattle.law_simulation_relation.specs.Typed as typed
use Rattle.law_simulation_relation.specs.Typed.{boolean, set}
use Rattle.law_simulation_relation.proofs.Names.{bytes_true}
use Rattle.ob_meaning.specs.Results.{Res, Gives, Stops}
use Rattle.ob_meaning.specs.Meaning.{Flow}
use Rattle.ob_meaning.specs.Operators.{padded}
use Rattle.law_simulation.proofs.Whole.{command_simulates}
use Rattle.law_simulation.specs.Nothing.{none}
use Rattle.law_simulation.proofs.Nothing.{none_length}
use Rattle.law_simulation_relation.specs.Linked.{Linked, ProcedureStands, TypesStand}
use Rattle.law_simulation_relation.specs.Setting.{Setting, StandIn}
use Rattle.law_simulation_operators.specs.Procedures.{ValuesNumbered}
use Rattle.ob_types.specs.declared.typed.Family.{Family}
use Rattle.law_simulation_calls.specs.Signatures.{ValuesMatch}
use Rattle.law_simulation_calls.specs.Tables.{TablesStand, FamiliesStand}
use Rattle.law_simulation_calls.proofs.Unbound.{unbound}
use Rattle.law_simulation_records.specs.Bases.{BasesStand}
use Rattle.law_simulation.specs.Simulates.{ImageStands, Simulates}
use Rattle.law_simulation.specs.Slice.{AllIn, InStmts}

abbrev at : ℕ → Pos
at n = record { line = n; col = 1 }

abbrev m : List ℕ
m = 77 ∷ []

abbrev x : List ℕ
x = 120 ∷ []

abbrev s : List ℕ
s = 115 ∷ []

abbrev go_name : List ℕ
go_name = 71 ∷ []

abbrev go : QName
go = record { «module» = m; object = go_name }

abbrev long : TypeRef
long = ref.Basic basic.LongInt

abbrev number : ℕ → Expr
number n = Constant (literal.Int (pos n))

abbrev counter : Desig
counter = OfVariable (variable.Module m x) long

abbrev the_set : Desig
the_set = OfVariable (variable.Module m s) (ref.Basic basic.Set)

-- {2, 3, 31}
abbrev all_three : Expr
all_three = Constant (literal.Set 2147483660)

-- PROCEDURE G;
-- BEGIN
--   FOR x := 3 TO 1 BY -1 DO CASE x OF 1: INCL(s, 31) | 2..3: s := s + {x} END END;
--   ASSERT(s = {2, 3, 31}); Out.Int(x, 0)
-- END G
abbrev run_it : Procedure
run_it = record {
  name = go_name;
  mark = mark.Full;
  at = at 4;
  binding = None;
  parameters = [];
  result = None;
  locals = [];
  body =
      Then (For (variable.Module m x) width.LongInt (number 3) (number 1) (negsuc 0)
      (Then (Case (ValueOf counter)
      (OneCase (record { low = pos 1; high = pos 1 } ∷ []) (Then (Updated update.Incl the_set (number 31) (at 7)) Nothing)
      (OneCase (record { low = pos 2; high = pos 3 } ∷ []) (Then (Assign the_set assigned.Scalar (Dyadic binary.Union (ValueOf the_set) (Monadic unary.Element (ValueOf counter) (at 8)) (at 9)) (at 10)) Nothing)
      NoCase))
      NoElse (at 6))
      Nothing)
      (at 5))
      (Then (Assert (Dyadic (binary.Compare comparison.Equal compared.Set) (ValueOf the_set) all_three (at 11)) (pos 1) (at 12))
      (Then (CallProper (Call (callee.Out out.Int) (AnActual passing.Scalar long (ValueOf counter) (AnActual passing.Scalar long (number 0) NoActual)) (at 13) None))
      Nothing));
}

abbrev unit : Module
unit = record {
  name = m;
  imports = [];
  constants = [];
  types = [];
  variables = record { name = x; mark = mark.Hidden; of = long } ∷ record { name = s; mark = mark.Hidden; of = ref.Basic basic.Set } ∷ [];
  procedures = run_it ∷ [];
  body = Nothing;
  mentioned = record { objects = []; types = []; lengths = [] };
}

abbrev program : Program
program = unit ∷ []

abbrev placed : ℕ → ℕ → Position
placed pc n = record { at = pc; pos = at n }

abbrev int : ℤ → Instr
int z = instr op.Int z (pos 0)

abbrev code : List Instr
code =
    plain op.Ret
    ∷ with_a op.Local 0 ∷ int (pos 1) ∷ plain op.Store
    ∷ with_a op.Global 0 ∷ int (pos 3) ∷ plain op.Store
    ∷ with_a op.Global 0 ∷ plain op.Load ∷ with_a op.Local 0 ∷ plain op.Load ∷ plain op.Ge ∷ with_a op.JumpF 59
    ∷ with_a op.Local 1 ∷ with_a op.Global 0 ∷ plain op.Load ∷ plain op.Store
    ∷ with_a op.Local 1 ∷ plain op.Load ∷ int (pos 1) ∷ plain op.Ge ∷ with_a op.JumpF 28
    ∷ with_a op.Local 1 ∷ plain op.Load ∷ int (pos 1) ∷ plain op.Le ∷ with_a op.JumpF 28 ∷ with_a op.Jump 29
    ∷ with_a op.Jump 33
    ∷ with_a op.Global 1 ∷ int (pos 31) ∷ plain op.Incl ∷ with_a op.Jump 55
    ∷ with_a op.Local 1 ∷ plain op.Load ∷ int (pos 2) ∷ plain op.Ge ∷ with_a op.JumpF 44
    ∷ with_a op.Local 1 ∷ plain op.Load ∷ int (pos 3) ∷ plain op.Le ∷ with_a op.JumpF 44 ∷ with_a op.Jump 45
    ∷ with_a op.Jump 54
    ∷ with_a op.Global 1 ∷ with_a op.Global 1 ∷ plain op.Load ∷ with_a op.Global 0 ∷ plain op.Load ∷ plain op.Bit ∷ plain op.Union ∷ plain op.Store ∷ with_a op.Jump 55
    ∷ with_a op.Trap (trap_number trap.NoCase)
    ∷ with_a op.Global 0 ∷ int (negsuc 0) ∷ with_a op.Inc 4 ∷ with_a op.Jump 7
    ∷ with_a op.Global 1 ∷ plain op.Load ∷ int (literal_word (literal.Set 2147483660)) ∷ plain op.Eq ∷ instr op.Assert (pos 1) (pos 0)
    ∷ with_a op.Global 0 ∷ plain op.Load ∷ int (pos 0) ∷ with_a op.Out 3 ∷ plain op.Ret ∷ []

abbrev entry_at : ℕ → ℕ → machine_procedure.Procedure
entry_at n locals = record { entry = n; params = []; locals = locals; has_result = false }

abbrev loaded : ModuleImage
loaded = record {
  name = m;
  code = code;
  positions = placed 31 7 ∷ placed 50 8 ∷ placed 51 9 ∷ placed 54 6 ∷ placed 57 5 ∷ placed 58 5 ∷ placed 62 11 ∷ placed 63 12 ∷ placed 67 13 ∷ [];
  procedures = entry_at 0 0 ∷ entry_at 1 2 ∷ [];
  first = 1;
  variables = [];
  commands = (go_name, 1) ∷ [];
  strings = [];
  variable_links = [];
  procedure_links = [];
  types = [];
}

abbrev image : Image
image = record { modules = loaded ∷ []; types = []; next = 3; room = record { globals = 262144; stack = 1048576; activations = 4096; operands = 256 } }

abbrev setting : Setting
setting = record {
  program = program;
  has = λ s q. false;
  img = image;
  heap = 1000;
  behind = none 262142;
  ok = (tt, (((refl, tt), (tt, tt)), tt));
  globals = refl;
  stack = refl;
  activations = refl;
  operands = refl;
  heap_few = omega arith;
}

go_stands : ProcedureStands setting go run_it
go_stands = record {
  m = 0;
  u = loaded;
  is = record { is = refl };
  named = refl;
  first = refl;
  methods = λ f. 0;
  entry = entry_at 1 2;
  found = refl;
  kinds = tt;
  locals = refl;
  small = omega arith;
  gives = refl;
  at = 0;
  code = ((record { is = refl }, (record { is = refl }, (record { is = refl }, (record { is = refl }, (record { is = refl }, (record { is = refl }, ((record { is = refl }, (record { is = refl }, (record { is = refl }, (record { is = refl }, (record { is = refl }, record { is = refl }))))), (((record { is = refl }, ((record { is = refl }, record { is = refl }), (record { is = refl }, ((((record { is = refl }, (record { is = refl }, (record { is = refl }, (record { is = refl }, record { is = refl })))), ((record { is = refl }, (record { is = refl }, (record { is = refl }, (record { is = refl }, (record { is = refl }, record { is = refl }))))), (omega arith, (omega arith, (record { is = refl }, omega arith))))), (((record { is = refl }, (record { is = refl }, record { has = record { is = refl }; place = refl })), tt), (record { is = refl }, (omega arith, (((record { is = refl }, (record { is = refl }, (record { is = refl }, (record { is = refl }, record { is = refl })))), ((record { is = refl }, (record { is = refl }, (record { is = refl }, (record { is = refl }, (record { is = refl }, record { is = refl }))))), (omega arith, (omega arith, (record { is = refl }, omega arith))))), (((record { is = refl }, (((record { is = refl }, record { is = refl }), (((record { is = refl }, record { is = refl }), record { has = record { is = refl }; place = refl }), record { has = record { is = refl }; place = tt })), record { is = refl })), tt), (record { is = refl }, (omega arith, tt)))))))), record { has = record { is = refl }; place = refl })))), tt), (record { is = refl }, (record { is = refl }, (record { has = record { is = refl }; place = refl }, (record { has = record { is = refl }; place = refl }, omega arith)))))))))))), ((((record { is = refl }, record { is = refl }), (record { is = refl }, record { has = record { is = refl }; place = tt })), record { has = record { is = refl }; place = refl }), ((((record { is = refl }, record { is = refl }), (record { is = refl }, tt)), record { has = record { is = refl }; place = refl }), tt)));
  last = record { is = refl };
  inside = omega arith;
  need = omega arith;
  ok = (
    (
      ((tt, refl), tt),
      (
        (width.LongInt, refl, refl),
        (
          (width.LongInt, refl, refl),
          (
            (tt, refl),
            (
              refl,
              (
                (
                  inl (((tt, refl), tt), (tt, typed.itself)),
                  (
                    (tt, refl),
                    (
                      (
                        ((((tt, refl), tt), ((width.LongInt, refl, refl), refl)), tt),
                        (((((tt, refl), tt), ((set, set, set, typed.union, (((tt, refl), tt), (tt, typed.itself)), ((((tt, refl), tt), (tt, typed.itself)), typed.itself), typed.itself), tt)), tt), tt),
                      ),
                      tt,
                    ),
                  ),
                ),
                tt,
              ),
            ),
          ),
        ),
      ),
    ),
    (
      (set, set, boolean, typed.sets comparison.Equal tt, (((tt, refl), tt), (tt, typed.itself)), (omega arith, refl), typed.itself),
      (((refl, ((((tt, refl), tt), (tt, typed.itself)), ((width.LongInt, refl, refl), tt))), refl, (refl, refl, (refl, refl, tt))), tt),
    ),
  );
  different = ((refl, tt), (tt, tt));
  forms = (tt, (tt, tt));
}

abbrev found_in : QName → Option Procedure
found_in q = procedure_of program q

-- the procedure is the only one
by_name : (P : QName → Procedure → Type 0) → P go run_it → (q : QName) (r : Procedure) → found_in q ≡ Some r → P q r
by_name P g q r e = in_module (bytes_eq q.module m) refl e
  where
    in_module : (z : Bool) → bytes_eq q.module m ≡ z → (if z then (if bytes_eq q.object go_name then Some run_it else None) else None) ≡ Some r → P q r
    in_module false f h = absurd (cc)
    in_module true f h = first (bytes_eq q.object go_name) refl h
      where
        same : bytes_eq q.object go_name ≡ true → go ≡ q
        same f2 = ap (λ (z : List ℕ). record { «module» = z; object = go_name }) (sym (bytes_true q.module m f)) ∙ ap (λ (z : List ℕ). record { «module» = q.module; object = z }) (sym (bytes_true q.object go_name f2))

        first : (z : Bool) → bytes_eq q.object go_name ≡ z → (if z then Some run_it else None) ≡ Some r → P q r
        first false f2 h = absurd (cc)
        first true f2 h = let e2 : run_it ≡ r = cc in subst (λ q. P q r) (same f2) (subst (λ r. P go r) e2 g)

linked : Linked setting
linked q r e = by_name (λ q r. ProcedureStands setting q r) go_stands q r e

all_in : AllIn setting
all_in q r e = by_name (λ q r. InStmts r.body) ((tt, (tt, (tt, ((tt, ((((tt, tt), tt), (((tt, (tt, tt)), tt), tt)), tt)), tt)))), ((tt, tt), ((tt, tt), tt))) q r e

-- the state and the words in which it is run
abbrev begins : State
begins = record { store = record no_store { globals = λ n y. first_globals program unit.variables y }; calls = []; made = []; turns = 100; out = [] }

abbrev words : World
words = record { words = pos 0 ∷ pos 0 ∷ (none 262142 ++ (none 1048576 ++ none 1000)); stack = 262145; heap = 1310721; turns = 100; out = [] }

stands : StandIn setting [] begins words
stands = record {
  stack_free = none 1048576;
  heap_free = none 1000;
  words = refl;
  globals_size = omega (arith, none_length 262142);
  stack_size = omega (arith, none_length 1048576);
  heap_size = omega (arith, none_length 1000);
  stack = refl;
  heap_next = refl;
  turns = refl;
  out = refl;
  modules_fine = ((tt, ((pos 0, refl, refl), (tt, ((_, refl), tt)))), tt);
  calls_fine = tt;
  objects_fine = tt;
}

-- there is no record type, and no variable of a procedure type
no_types : TypesStand setting
no_types q line e = absurd (cc)

no_bases : BasesStand setting
no_bases = record { lines = λ q line e. absurd (cc); extends = λ q line e b h. absurd (cc); tags = λ n lt. absurd (omega (arith, lt)) }

no_values : ValuesNumbered setting
no_values s q e = absurd (cc)

no_match : ValuesMatch setting
no_match s q p e found = absurd (cc)

-- and no bound procedure
no_tables : (methods : Family → ℕ) → TablesStand setting methods
no_tables methods t f q is e = absurd (unbound unit (λ t f. refl) (bases_in program t) f q e)

no_families : FamiliesStand setting
no_families t f k q p built near found rk d own sub = absurd (unbound unit (λ t f. refl) (bases_in program t) f q near)

stands_so : ImageStands setting
stands_so = record { linked = linked; types = no_types; bases = no_bases; numbered = no_values; match = no_match; tables = λ q p found. no_tables ((linked q p found).methods); families = no_families }

-- the machine's run ends as the command's meaning
pub tried : Simulates setting (record { «module» = 0; proc = 1 }) words (run_first program 1000 go run_it begins)
tried = command_simulates setting stands_so all_in go run_it refl refl refl begins words refl stands

abbrev output : Res Flow → List ℕ
output (Gives f s) = s.out
output (Stops y s) = []

-- whose assertion holds, and whose output is the text of 0
pub printed : output (run_first program 1000 go run_it begins) ≡ padded (pos 0) (pos 0)
printed = refl
