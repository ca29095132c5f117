-- The premises can be met where strings stand behind a module's variables: a string in an array, and texts that are written.
use Rattle.std.proofs.lemmas.List.{length-replicate}
use Rattle.std.proofs.Common.{◌≡◌, ℕ, List, [], ◌∷◌, ◌++◌, length, Option, Some, None, ℤ, refl, sym, ap, ◌∙◌, subst, arith}
use Rattle.std.specs.Prelude.{pos, Bool, true, false, replicate, bytes_eq, if◌then◌else◌}
use Rattle.ob_tree.specs.declared.pos.Pos.{Pos}
use Rattle.ob_tree.specs.declared.names.QName.{QName}
use Rattle.ob_tree.specs.declared.ident.Mark.TheVariants as mark
use Rattle.ob_types.specs.declared.types.Basic.TheVariants as basic
use Rattle.ob_types.specs.declared.types.TypeRef.{TypeRef}
use Rattle.ob_types.specs.declared.types.TypeRef.TheVariants as ref
use Rattle.ob_types.specs.declared.desc.Desc.TheVariants as desc
use Rattle.ob_types.specs.declared.value.Value.TheVariants as literal
use Rattle.ob_types.specs.declared.typed.Passing.TheVariants as passing
use Rattle.ob_types.specs.declared.typed.Variable.TheVariants as variable
use Rattle.ob_types.specs.declared.typed.OutProcedure.TheVariants as out
use Rattle.ob_types.specs.declared.typed.Callee.TheVariants as callee
use Rattle.ob_types.specs.declared.typed.Assigned.TheVariants as assigned
use Rattle.ob_types.specs.TypedSyntax.{Desig, OfVariable, Expr, Constant, ValueOf, Call, NoActual, AnActual, Stmt, Assign, CallProper, Nothing, Then, Procedure, Module}
use Rattle.ob_instr.specs.declared.opcode.Opcode.TheVariants as op
use Rattle.ob_instr.specs.declared.instr.Instr.{Instr}
use Rattle.ob_instr.specs.declared.procedure.Position.{Position}
use Rattle.ob_instr.specs.declared.procedure.Procedure as machine_procedure
use Rattle.ob_instr.specs.Image.{ModuleImage, Image, World}
use Rattle.ob_meaning.specs.Values.{Program, bases_in, description, described, Fields, form_within, RecordForm, procedure_of, State}
use Rattle.ob_meaning.specs.Commands.{run_first, no_store, first_globals}
use Rattle.ob_meaning.specs.Results.{Res, Gives, Stops}
use Rattle.ob_meaning.specs.Meaning.{Flow}
use Rattle.law_simulation_relation.specs.Stands.{plain, with_a}
use Rattle.law_simulation_relation.proofs.Names.{bytes_true}
use Rattle.law_simulation_relation.specs.Linked.{Linked, ProcedureStands, TypesStand}
use Rattle.law_simulation_relation.specs.Setting.{Setting, StandIn}
use Rattle.law_simulation_records.specs.Bases.{BasesStand}
use Rattle.law_simulation_operators.specs.Procedures.{ValuesNumbered}
use Rattle.ob_types.specs.declared.typed.Family.{Family}
use Rattle.law_simulation_calls.specs.Signatures.{ValuesMatch}
use Rattle.law_simulation_calls.specs.Tables.{TablesStand, FamiliesStand}
use Rattle.law_simulation_calls.proofs.Unbound.{unbound}
use Rattle.law_simulation.proofs.Whole.{command_simulates}
use Rattle.law_simulation.specs.Simulates.{ImageStands, Simulates}
use Rattle.law_simulation.specs.Slice.{AllIn, InStmts}

abbrev at : ℕ → Pos
at n = record { line = n; col = 1 }

abbrev m : List ℕ
m = 77 ∷ []

abbrev s_name : List ℕ
s_name = 115 ∷ []

abbrev go_name : List ℕ
go_name = 71 ∷ []

abbrev type_name : List ℕ
type_name = 84 ∷ []

abbrev named : List ℕ → QName
named y = record { «module» = m; object = y }

abbrev four : TypeRef
four = ref.Named (named type_name)

abbrev s_place : Desig
s_place = OfVariable (variable.Module m s_name) four

abbrev string : List ℕ → Expr
string text = Constant (literal.Str text)

abbrev ab : List ℕ
ab = 97 ∷ 98 ∷ []

abbrev c : List ℕ
c = 99 ∷ []

abbrev writes : Expr → ℕ → Stmt
writes e n = CallProper (Call (callee.Out out.Str) (AnActual passing.OpenArray four e NoActual) (at n) None)

-- TYPE T = ARRAY 4 OF CHAR; VAR s: T; PROCEDURE G; BEGIN s := "ab"; Out.String(s); Out.String("c") END G
abbrev run_it : Procedure
run_it = record {
  name = go_name;
  mark = mark.Full;
  at = at 1;
  binding = None;
  parameters = [];
  result = None;
  locals = [];
  body = Then (Assign s_place assigned.Text (string ab) (at 2)) (Then (writes (ValueOf s_place) 3) (Then (writes (string c) 4) Nothing));
}

abbrev unit : Module
unit = record {
  name = m;
  imports = [];
  constants = [];
  types = record { name = type_name; desc = desc.Array mark.Hidden 4 (ref.Basic basic.Char) } ∷ [];
  variables = record { name = s_name; mark = mark.Hidden; of = four } ∷ [];
  procedures = run_it ∷ [];
  body = Nothing;
  mentioned = record { objects = []; types = []; lengths = [] };
}

abbrev program : Program
program = unit ∷ []

abbrev placed : ℕ → ℕ → Position
placed pc n = record { at = pc; pos = at n }

abbrev entry_at : ℕ → machine_procedure.Procedure
entry_at n = record { entry = n; params = []; locals = 0; has_result = false }

-- the strings stand at the offsets 4 and 7
abbrev code : List Instr
code =
    plain op.Ret
    ∷ with_a op.Global 0 ∷ with_a op.Global 4 ∷ with_a op.Copy 3
    ∷ with_a op.Global 0 ∷ with_a op.Int 4 ∷ with_a op.Out 2
    ∷ with_a op.Global 7 ∷ with_a op.Int 2 ∷ with_a op.Out 2
    ∷ plain op.Ret ∷ []

abbrev loaded : ModuleImage
loaded = record {
  name = m;
  code = code;
  positions = placed 6 3 ∷ placed 9 4 ∷ [];
  procedures = entry_at 0 ∷ entry_at 1 ∷ [];
  first = 1;
  variables = [];
  commands = (go_name, 1) ∷ [];
  strings = [];
  variable_links = [];
  procedure_links = [];
  types = [];
}

abbrev image : Image
image = record { modules = loaded ∷ []; types = []; next = 10; room = record { globals = 262144; stack = 1048576; activations = 4096; operands = 256 } }

-- so many words, which the checker does not write out
pub none : ℕ → List ℤ
none n = replicate n (pos 0)

none_length : (n : ℕ) → length (none n) ≡ n
unfolding none
none_length n = length-replicate n (pos 0)

abbrev setting : Setting
setting = record {
  program = program;
  has = λ s q. false;
  img = image;
  heap = 1000;
  behind = none 262135;
  ok = (tt, ((tt, tt), tt));
  globals = refl;
  stack = refl;
  activations = refl;
  operands = refl;
  heap_few = omega arith;
}

go_stands : ProcedureStands setting (named go_name) run_it
go_stands = record {
  m = 0;
  u = loaded;
  is = record { is = refl };
  named = refl;
  first = refl;
  methods = λ f. 0;
  entry = entry_at 1;
  found = refl;
  kinds = tt;
  locals = refl;
  small = omega arith;
  gives = refl;
  at = 4;
  code = (
    (record { is = refl }, ((record { is = refl }, record { before = []; behind = pos 99 ∷ pos 0 ∷ []; is = refl; offset = refl }), record { is = refl })),
    (
      (((record { is = refl }, record { is = refl }), tt), record { has = record { is = refl }; place = refl }),
      (
        (((record { is = refl }, (record { before = pos 97 ∷ pos 98 ∷ pos 0 ∷ []; behind = []; is = refl; offset = refl }, record { is = refl })), tt), record { has = record { is = refl }; place = refl }),
        tt,
      ),
    ),
  );
  last = record { is = refl };
  inside = omega arith;
  need = omega arith;
  ok = (
    (((tt, refl), tt), (4, refl, (4, refl, omega arith, (omega arith, (omega arith, tt))), tt)),
    (
      ((refl, ((((tt, refl), tt), refl), tt)), refl, refl),
      (((refl, ((omega arith, tt), tt)), refl, refl), tt),
    ),
  );
  different = tt;
  forms = tt;
}

abbrev found_in : QName → Option Procedure
found_in q = procedure_of program q

-- there is no other procedure
by_name : (P : QName → Procedure → Type 0) → P (named go_name) run_it → (q : QName) (r : Procedure) → found_in q ≡ Some r → P q r
by_name P g q r e = in_module (bytes_eq q.module m) refl e
  where
    in_module : (z : Bool) → bytes_eq q.module m ≡ z → (if z then (if bytes_eq q.object go_name then Some run_it else None) else None) ≡ Some r → P q r
    in_module false f h = absurd (cc)
    in_module true f h = only (bytes_eq q.object go_name) refl h
      where
        same : (y : List ℕ) → bytes_eq q.object y ≡ true → named y ≡ q
        same y f2 = ap (λ (z : List ℕ). record { «module» = z; object = y }) (sym (bytes_true q.module m f)) ∙ ap (λ (z : List ℕ). record { «module» = q.module; object = z }) (sym (bytes_true q.object y f2))

        only : (z : Bool) → bytes_eq q.object go_name ≡ z → (if z then Some run_it else None) ≡ Some r → P q r
        only false f2 h = absurd (cc)
        only true f2 h = let e2 : run_it ≡ r = cc in subst (λ q. P q r) (same go_name f2) (subst (λ r. P (named go_name) r) e2 g)

linked : Linked setting
linked q r e = by_name (λ q r. ProcedureStands setting q r) go_stands q r e

all_in : AllIn setting
all_in q r e = by_name (λ q r. InStmts r.body) (tt, (tt, (tt, tt))) q r e

-- the state and the words in which it is run
abbrev begins : State
begins = record { store = record no_store { globals = λ n y. first_globals program unit.variables y }; calls = []; made = []; turns = 100; out = [] }

abbrev words : World
words = record { words = pos 0 ∷ pos 0 ∷ pos 0 ∷ pos 0 ∷ pos 97 ∷ pos 98 ∷ pos 0 ∷ pos 99 ∷ pos 0 ∷ (none 262135 ++ (none 1048576 ++ none 1000)); stack = 262145; heap = 1310721; turns = 100; out = [] }

stands : StandIn setting [] begins words
stands = record {
  stack_free = none 1048576;
  heap_free = none 1000;
  words = refl;
  globals_size = omega (arith, none_length 262135);
  stack_size = omega (arith, none_length 1048576);
  heap_size = omega (arith, none_length 1000);
  stack = refl;
  heap_next = refl;
  turns = refl;
  out = refl;
  modules_fine = ((((omega arith, omega arith), tt), ((refl, λ i lt. (0, omega arith, refl)), tt)), tt);
  calls_fine = tt;
  objects_fine = tt;
}

-- there is no record type
never : (q : QName) (line : List QName) (fs : Fields) (a b : Bool) → described (form_within (description program) 0) q (if a then (if b then Some (desc.Array mark.Hidden 4 (ref.Basic basic.Char)) else None) else None) ≡ RecordForm (q ∷ line) fs → ⊥
never q line fs true true e = absurd (cc)
never q line fs true false e = absurd (cc)
never q line fs false b e = absurd (cc)

no_types : TypesStand setting
no_types q line e = absurd (never q line _ (bytes_eq q.module m) (bytes_eq q.object type_name) e)

no_bases : BasesStand setting
no_bases = record { lines = λ q line e. absurd (never q line _ (bytes_eq q.module m) (bytes_eq q.object type_name) e); extends = λ q line e b h. absurd (never q line _ (bytes_eq q.module m) (bytes_eq q.object type_name) e); tags = λ n lt. absurd (omega (arith, lt)) }

no_values : ValuesNumbered setting
no_values s q e = absurd (cc)

no_match : ValuesMatch setting
no_match s q p e found = absurd (cc)

-- and no bound procedure
no_tables : (methods : Family → ℕ) → TablesStand setting methods
no_tables methods t f q is e = absurd (unbound unit (λ t f. refl) (bases_in program t) f q e)

no_families : FamiliesStand setting
no_families t f k q p built near found rk d own sub = absurd (unbound unit (λ t f. refl) (bases_in program t) f q near)

stands_so : ImageStands setting
stands_so = record { linked = linked; types = no_types; bases = no_bases; numbered = no_values; match = no_match; tables = λ q p found. no_tables ((linked q p found).methods); families = no_families }

-- and the machine's run ends as the command's meaning
pub tried : Simulates setting (record { «module» = 0; proc = 1 }) words (run_first program 1000 (named go_name) run_it begins)
tried = command_simulates setting stands_so all_in (named go_name) run_it refl refl refl begins words refl stands

abbrev output : Res Flow → List ℕ
output (Gives f s) = s.out
output (Stops y s) = []

-- whose output is both texts
pub printed : output (run_first program 1000 (named go_name) run_it begins) ≡ 97 ∷ 98 ∷ 99 ∷ []
printed = refl
