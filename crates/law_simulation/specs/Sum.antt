-- A module with a variable, a procedure with a parameter by VAR and one by value, a loop, calls and output, its image, and what the machine
-- writes.
use Rattle.std.proofs.Common.{◌≡◌, ℕ, List, [], ◌∷◌, ◌++◌, None}
use Rattle.std.specs.Prelude.{pos, false}
use Rattle.ob_tree.specs.declared.pos.Pos.{Pos}
use Rattle.ob_tree.specs.declared.names.QName.{QName}
use Rattle.ob_tree.specs.declared.ident.Mark.TheVariants as mark
use Rattle.ob_types.specs.declared.types.Basic.TheVariants as basic
use Rattle.ob_types.specs.declared.types.TypeRef.{TypeRef}
use Rattle.ob_types.specs.declared.types.TypeRef.TheVariants as ref
use Rattle.ob_types.specs.declared.value.Value.TheVariants as literal
use Rattle.ob_types.specs.declared.typed.Width.TheVariants as width
use Rattle.ob_types.specs.declared.typed.Passing.TheVariants as passing
use Rattle.ob_types.specs.declared.typed.Variable.TheVariants as variable
use Rattle.ob_types.specs.declared.typed.Comparison.TheVariants as comparison
use Rattle.ob_types.specs.declared.typed.Compared.TheVariants as compared
use Rattle.ob_types.specs.declared.typed.Binary.TheVariants as binary
use Rattle.ob_types.specs.declared.typed.OutProcedure.TheVariants as out
use Rattle.ob_types.specs.declared.typed.Callee.TheVariants as callee
use Rattle.ob_types.specs.declared.typed.Assigned.TheVariants as assigned
use Rattle.ob_types.specs.TypedSyntax.{Desig, OfVariable, Expr, Constant, ValueOf, Dyadic, Call, NoActual, AnActual, Assign, CallProper, While, Nothing, Then, Procedure, Module}
use Rattle.ob_instr.specs.declared.opcode.Opcode.TheVariants as op
use Rattle.ob_instr.specs.declared.instr.Instr.{Instr}
use Rattle.ob_instr.specs.declared.procedure.Param.{Param}
use Rattle.ob_instr.specs.declared.procedure.Param.TheVariants as param
use Rattle.ob_instr.specs.declared.procedure.Position.{Position}
use Rattle.ob_instr.specs.declared.procedure.Procedure as machine_procedure
use Rattle.ob_instr.specs.Image.{ModuleImage, Image, World}
use Rattle.ob_meaning.specs.Values.{Program, State}
use Rattle.ob_meaning.specs.Commands.{no_store, first_globals}
use Rattle.law_simulation_relation.specs.Stands.{instr, plain, with_a}
use Rattle.law_simulation.specs.Nothing.{none}
use Rattle.ob_instr.specs.Table.{Ends}
use Rattle.ob_instr.specs.Image.{Done}

abbrev pub at : ℕ → Pos
at n = record { line = n; col = 1 }

abbrev pub m : List ℕ
m = 77 ∷ []

abbrev pub x : List ℕ
x = 120 ∷ []

abbrev pub p : List ℕ
p = 112 ∷ []

abbrev pub k : List ℕ
k = 107 ∷ []

abbrev pub add_name : List ℕ
add_name = 65 ∷ []

abbrev pub go_name : List ℕ
go_name = 71 ∷ []

abbrev pub named : List ℕ → QName
named y = record { «module» = m; object = y }

abbrev pub long : TypeRef
long = ref.Basic basic.LongInt

abbrev pub number : ℕ → Expr
number n = Constant (literal.Int (pos n))

abbrev pub global : Desig
global = OfVariable (variable.Module m x) long

abbrev pub by_var : Desig
by_var = OfVariable (variable.Parameter passing.Variable p) long

abbrev pub by_value : Desig
by_value = OfVariable (variable.Parameter passing.Scalar k) long

-- PROCEDURE A(VAR p: LONGINT; k: LONGINT); BEGIN p := p + k END A
abbrev pub add : Procedure
add = record {
  name = add_name;
  mark = mark.Hidden;
  at = at 1;
  binding = None;
  parameters = record { name = p; passing = passing.Variable; of = long } ∷ record { name = k; passing = passing.Scalar; of = long } ∷ [];
  result = None;
  locals = [];
  body = Then (Assign by_var assigned.Scalar (Dyadic (binary.Add width.LongInt) (ValueOf by_var) (ValueOf by_value) (at 2)) (at 3)) Nothing;
}

-- PROCEDURE G; BEGIN x := 1; WHILE x < 5 DO A(x, 2) END; Out.Int(x, 0) END G
abbrev pub run_it : Procedure
run_it = record {
  name = go_name;
  mark = mark.Full;
  at = at 4;
  binding = None;
  parameters = [];
  result = None;
  locals = [];
  body =
      Then (Assign global assigned.Scalar (number 1) (at 5))
      (Then (While (Dyadic (binary.Compare comparison.Less compared.Integer) (ValueOf global) (number 5) (at 6)) (Then (CallProper (Call (callee.Declared (named add_name)) (AnActual passing.Variable long (ValueOf global) (AnActual passing.Scalar long (number 2) NoActual)) (at 7) None)) Nothing) (at 8))
      (Then (CallProper (Call (callee.Out out.Int) (AnActual passing.Scalar long (ValueOf global) (AnActual passing.Scalar long (number 0) NoActual)) (at 9) None))
      Nothing));
}

abbrev pub unit : Module
unit = record {
  name = m;
  imports = [];
  constants = [];
  types = [];
  variables = record { name = x; mark = mark.Hidden; of = long } ∷ [];
  procedures = add ∷ run_it ∷ [];
  body = Nothing;
  mentioned = record { objects = []; types = []; lengths = [] };
}

abbrev pub program : Program
program = unit ∷ []

abbrev pub placed : ℕ → ℕ → Position
placed pc n = record { at = pc; pos = at n }

abbrev pub entry_at : ℕ → List Param → machine_procedure.Procedure
entry_at n params = record { entry = n; params = params; locals = 0; has_result = false }

abbrev pub code : List Instr
code =
    plain op.Ret
    ∷ with_a op.Local 0 ∷ plain op.Load ∷ with_a op.Local 0 ∷ plain op.Load ∷ plain op.Load ∷ with_a op.Local 1 ∷ plain op.Load ∷ with_a op.Add 4 ∷ plain op.Store ∷ plain op.Ret
    ∷ with_a op.Global 0 ∷ instr op.Int (pos 1) (pos 0) ∷ plain op.Store
    ∷ with_a op.Global 0 ∷ plain op.Load ∷ instr op.Int (pos 5) (pos 0) ∷ plain op.Lt ∷ with_a op.JumpF 23
    ∷ with_a op.Global 0 ∷ instr op.Int (pos 2) (pos 0) ∷ with_a op.Call 1 ∷ with_a op.Jump 14
    ∷ with_a op.Global 0 ∷ plain op.Load ∷ instr op.Int (pos 0) (pos 0) ∷ with_a op.Out 3 ∷ plain op.Ret ∷ []

abbrev pub loaded : ModuleImage
loaded = record {
  name = m;
  code = code;
  positions = placed 8 2 ∷ placed 17 6 ∷ placed 21 7 ∷ placed 22 8 ∷ placed 26 9 ∷ [];
  procedures = entry_at 0 [] ∷ entry_at 1 (param.Var ∷ param.Scalar ∷ []) ∷ entry_at 11 [] ∷ [];
  first = 1;
  variables = [];
  commands = (go_name, 2) ∷ [];
  strings = [];
  variable_links = [];
  procedure_links = [];
  types = [];
}

abbrev pub image : Image
image = record { modules = loaded ∷ []; types = []; next = 2; room = record { globals = 262144; stack = 1048576; activations = 4096; operands = 256 } }

-- the state and the words in which it is run
abbrev pub begins : State
begins = record { store = record no_store { globals = λ n y. first_globals program unit.variables y }; calls = []; made = []; turns = 100; out = [] }

abbrev pub words : World
words = record { words = pos 0 ∷ (none 262143 ++ (none 1048576 ++ none 1000)); stack = 262145; heap = 1310721; turns = 100; out = [] }

-- The run of G ends, and has written the character 5.
pub record Example : Type 0 where
  pub after : World
  pub ends : Ends image (record { «module» = 0; proc = 2 }) words Done after
  pub text : after.out ≡ 53 ∷ []
