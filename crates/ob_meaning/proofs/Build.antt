-- Short words for small programs, for the worked programs beside this.
use Rattle.std.specs.Prelude.{ℕ, List, [], ◌∷◌, ℤ, pos, Option, Some, None}
use Rattle.ob_trap.specs.declared.trap.Trap.{Trap}
use Rattle.ob_tree.specs.declared.pos.Pos.{Pos}
use Rattle.ob_tree.specs.declared.names.QName.{QName}
use Rattle.ob_tree.specs.declared.ident.Mark.TheVariants as mark
use Rattle.ob_types.specs.declared.types.Basic.TheVariants as basic
use Rattle.ob_types.specs.declared.types.TypeRef.{TypeRef}
use Rattle.ob_types.specs.declared.types.TypeRef.TheVariants as ref
use Rattle.ob_types.specs.declared.desc.Desc.{Desc}
use Rattle.ob_types.specs.declared.desc.Desc.TheVariants as desc
use Rattle.ob_types.specs.declared.desc.Field.{Field as RecordField}
use Rattle.ob_types.specs.declared.desc.Receiver.{Receiver}
use Rattle.ob_types.specs.declared.value.Value.TheVariants as literal
use Rattle.ob_types.specs.declared.typed.Width.TheVariants as width
use Rattle.ob_types.specs.declared.typed.Passing.{Passing}
use Rattle.ob_types.specs.declared.typed.Passing.TheVariants as passing
use Rattle.ob_types.specs.declared.typed.Variable.TheVariants as variable
use Rattle.ob_types.specs.declared.typed.Comparison.{Comparison}
use Rattle.ob_types.specs.declared.typed.Compared.TheVariants as compared
use Rattle.ob_types.specs.declared.typed.Binary.TheVariants as binary
use Rattle.ob_types.specs.declared.typed.Update.TheVariants as update
use Rattle.ob_types.specs.declared.typed.OutProcedure.TheVariants as out
use Rattle.ob_types.specs.declared.typed.Family.{Family}
use Rattle.ob_types.specs.declared.typed.Callee.TheVariants as callee
use Rattle.ob_types.specs.declared.typed.Assigned.TheVariants as assigned
use Rattle.ob_types.specs.declared.typed.Label.{Label}
use Rattle.ob_types.specs.declared.typed.TypedType.{TypedType}
use Rattle.ob_types.specs.declared.typed.TypedVariable.{TypedVariable}
use Rattle.ob_types.specs.declared.typed.TypedParameter.{TypedParameter}
use Rattle.ob_types.specs.declared.typed.Binding.{Binding}
use Rattle.ob_types.specs.TypedSyntax.{Desig, OfVariable, Expr, Constant, Dyadic, Call, Actuals, NoActual, AnActual, Stmt, Assign, CallProper, Updated, Stmts, Nothing, Then, NoBranch, Branch, If, Procedure, Module}
use Rattle.ob_meaning.specs.Results.{Why, Trapped, Spent}
use Rattle.ob_meaning.specs.Commands.{nothing_loaded, Ended, command}

abbrev pub at : ℕ → ℕ → Pos
at l c = record { line = l; col = c }

-- where nothing can trap
abbrev pub nowhere : Pos
nowhere = at 0 0

abbrev pub named : List ℕ → List ℕ → QName
named m x = record { «module» = m; object = x }

-- TYPES

abbrev pub long : TypeRef
long = ref.Basic basic.LongInt

abbrev pub char : TypeRef
char = ref.Basic basic.Char

abbrev pub truth : TypeRef
truth = ref.Basic basic.Boolean

abbrev pub short : TypeRef
short = ref.Basic basic.ShortInt

abbrev pub sets : TypeRef
sets = ref.Basic basic.Set

abbrev pub type_of : List ℕ → Desc → TypedType
type_of x d = record { name = x; desc = d }

abbrev pub a_field : List ℕ → TypeRef → RecordField
a_field x t = record { name = x; mark = mark.Full; place = 0; of = t }

-- the meaning asks neither for words and places nor for the bound procedures that a record's description names
abbrev pub record_type : Option TypeRef → List RecordField → Desc
record_type base fields = desc.Record (record { mark = mark.Full; base = base; fields = fields; methods = []; words = 0; procedures = 0 })

abbrev pub pointer_type : TypeRef → Desc
pointer_type t = desc.Pointer mark.Full t

abbrev pub array_type : ℕ → TypeRef → Desc
array_type n t = desc.Array mark.Full n t

abbrev pub open_type : TypeRef → Desc
open_type t = desc.OpenArray mark.Full t

abbrev pub procedure_type : Desc
procedure_type = desc.ProcType mark.Full (record { params = []; result = None })

-- DESIGNATORS AND EXPRESSIONS

-- a module's variable, a local variable, a parameter
abbrev pub global : List ℕ → List ℕ → TypeRef → Desig
global m x t = OfVariable (variable.Module m x) t

abbrev pub own : List ℕ → TypeRef → Desig
own x t = OfVariable (variable.Local x) t

abbrev pub parameter : Passing → List ℕ → TypeRef → Desig
parameter how x t = OfVariable (variable.Parameter how x) t

abbrev pub num : ℕ → Expr
num n = Constant (literal.Int (pos n))

abbrev pub int : ℤ → Expr
int z = Constant (literal.Int z)

abbrev pub letter : List ℕ → Expr
letter [] = Constant (literal.Char 0)
letter (c ∷ cs) = Constant (literal.Char c)

abbrev pub text : List ℕ → Expr
text s = Constant (literal.Str s)

abbrev pub nil : Expr
nil = Constant literal.Nil

abbrev pub plus : Expr → Expr → Pos → Expr
plus a b p = Dyadic (binary.Add width.LongInt) a b p

abbrev pub compare : Comparison → Expr → Expr → Expr
compare r a b = Dyadic (binary.Compare r compared.Integer) a b nowhere

-- actual parameters; the type of the formal one is asked by the code alone
abbrev pub scalar : Expr → Actuals → Actuals
scalar e rest = AnActual passing.Scalar long e rest

abbrev pub passed : Passing → Expr → Actuals → Actuals
passed how e rest = AnActual how long e rest

abbrev pub function : QName → Actuals → Pos → Expr
function q es p = Call (callee.Declared q) es p (Some long)

-- STATEMENTS

abbrev pub block : List Stmt → Stmts
block [] = Nothing
block (s ∷ ss) = Then s (block ss)

abbrev pub set_to : Desig → Expr → Pos → Stmt
set_to d e p = Assign d assigned.Scalar e p

abbrev pub call : QName → Actuals → Pos → Stmt
call q es p = CallProper (Call (callee.Declared q) es p None)

abbrev pub family_of : QName → List ℕ → Family
family_of q x = record { owner = q; name = x }

abbrev pub call_bound : QName → List ℕ → Receiver → Actuals → Pos → Stmt
call_bound q x r es p = CallProper (Call (callee.Bound (family_of q x) r) es p None)

abbrev pub out_int : Expr → ℕ → Pos → Stmt
out_int e n p = CallProper (Call (callee.Out out.Int) (scalar e (scalar (num n) NoActual)) p None)

abbrev pub out_char : Expr → Pos → Stmt
out_char e p = CallProper (Call (callee.Out out.Char) (scalar e NoActual) p None)

abbrev pub out_text : Expr → Pos → Stmt
out_text e p = CallProper (Call (callee.Out out.Str) (passed passing.OpenArray e NoActual) p None)

abbrev pub out_line : Pos → Stmt
out_line p = CallProper (Call (callee.Out out.Ln) NoActual p None)

abbrev pub when : Expr → List Stmt → List Stmt → Stmt
when e body otherwise = If (Branch e (block body) NoBranch) (block otherwise)

abbrev pub increase : Desig → Expr → Pos → Stmt
increase d e p = Updated (update.Inc width.LongInt) d e p

abbrev pub label : ℕ → ℕ → Label
label a b = record { low = pos a; high = pos b }

-- DECLARATIONS

abbrev pub variable_of : List ℕ → TypeRef → TypedVariable
variable_of x t = record { name = x; mark = mark.Hidden; of = t }

abbrev pub parameter_of : List ℕ → Passing → TypeRef → TypedParameter
parameter_of x how t = record { name = x; passing = how; of = t }

abbrev pub procedure : List ℕ → Option Binding → List TypedParameter → Option TypeRef → List TypedVariable → Pos → List Stmt → Procedure
procedure x binding params result locals p body = record {
  name = x;
  mark = mark.Full;
  at = p;
  binding = binding;
  parameters = params;
  result = result;
  locals = locals;
  body = block body;
}

-- a command, or another proper procedure without parameters and variables
abbrev pub proper : List ℕ → List Stmt → Procedure
proper x body = procedure x None [] None [] nowhere body

abbrev pub bound_to : QName → Receiver → Family → Option Binding
bound_to q r f = Some (record { owner = q; receiver = r; family = f })

abbrev pub unit_of : List ℕ → List TypedType → List TypedVariable → List Procedure → List Stmt → Module
unit_of m types vars procs body = record {
  name = m;
  imports = [];
  constants = [];
  types = types;
  variables = vars;
  procedures = procs;
  body = block body;
  mentioned = record { objects = []; types = []; lengths = [] };
}

-- RUNS

-- a module is loaded, and its command is run, with so many turns and a heap of 1,048,576 words
abbrev pub run : Module → ℕ → List ℕ → Ended
run m turns x = command nothing_loaded (m ∷ []) 1048576 turns (named m.name x)

-- a further command
abbrev pub next : Ended → QName → ℕ → Ended
next e q turns = command e.system [] 1048576 turns q

abbrev pub outcome : Ended → Option Why × List ℕ
outcome e = (e.why, e.out)

abbrev pub ends : List ℕ → Option Why × List ℕ
ends s = (None, s)

abbrev pub traps : Trap → List ℕ → Pos → List ℕ → Option Why × List ℕ
traps kind m p s = (Some (Trapped kind (pos 0) m p), s)

abbrev pub spent : List ℕ → Pos → List ℕ → Option Why × List ℕ
spent m p s = (Some (Spent m p), s)

abbrev pub traps_with : Trap → ℤ → List ℕ → Pos → List ℕ → Option Why × List ℕ
traps_with kind number m p s = (Some (Trapped kind number m p), s)

-- several modules are loaded, and a command of the last is run
abbrev pub run_all : List Module → QName → ℕ → Ended
run_all ms q turns = command nothing_loaded ms 1048576 turns q
