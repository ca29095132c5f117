-- What a command does, over the modules that are loaded and those that it brings in.
use Rattle.std.specs.Prelude.{ℕ, List, [], ◌∷◌, ◌++◌, Bool, true, false, not, ◌&&◌, if◌then◌else◌, Option, Some, None, is_none}
use Rattle.ob_tree.specs.declared.names.QName.{QName}
use Rattle.ob_tree.specs.declared.ident.Mark.{Mark}
use Rattle.ob_tree.specs.declared.ident.Mark.TheVariants as mark
use Rattle.ob_format.specs.Names.{is_identifier}
use Rattle.ob_types.specs.declared.typed.TypedVariable.{TypedVariable}
use Rattle.ob_types.specs.TypedSyntax.{Procedure, Module}
use Rattle.ob_meaning.specs.Values.{changed, Program, procedure_named, procedure_of, form_in, Value, Nil, first, Store, State, AnObject}
use Rattle.ob_meaning.specs.Results.{M, Res, Gives, Stops, Why}
use Rattle.ob_meaning.specs.Meaning.{Flow, execs}
use Rattle.ob_meaning.specs.Calls.{begun, around, calling}

-- what is loaded: the modules in the order in which they came, the values of their variables and of all objects, and what these
-- objects are
pub record System : Type 0 where
  pub program : Program
  pub store : Store
  pub made : List AnObject

abbrev pub no_store : Store
no_store = record { globals = λ m x. Nil; locals = λ k x. Nil; objects = λ n. Nil }

abbrev pub nothing_loaded : System
nothing_loaded = record { program = []; store = no_store; made = [] }

-- how a command ends: at its end, or by a stop; what is then loaded; the turns left, and what was written
pub record Ended : Type 0 where
  pub why : Option Why
  pub system : System
  pub turns : ℕ
  pub out : List ℕ

-- A MODULE JOINS

abbrev pub first_globals : Program → List TypedVariable → List ℕ → Value
first_globals program [] = λ x. Nil
first_globals program (v ∷ vs) = changed (first_globals program vs) v.name (first (form_in program v.of))

-- with its variables at their first values
abbrev pub with_module : Program → Module → State → State
with_module program m s = record s { store = record s.store { globals = changed s.store.globals m.name (first_globals program m.variables) } }

-- FIRST CALLS

-- a body or a command begins with no active call; no turn is spent, and there is room
abbrev pub body_procedure : Module → Procedure
body_procedure m = record {
  name = [];
  mark = mark.Hidden;
  at = record { line = 0; col = 0 };
  binding = None;
  parameters = [];
  result = None;
  locals = [];
  body = m.body;
}

-- a body has no name
abbrev pub body_name : Module → QName
body_name m = record { «module» = m.name; object = [] }

abbrev pub run_first : Program → ℕ → QName → Procedure → M Flow
run_first program heap q p = λ s. execs p.body (around program heap s.turns (calling program heap s.turns) q.module) (begun program q p [] s)

-- no call is active behind the end
abbrev pub at_rest : State → State
at_rest s = record s { calls = [] }

-- COMMANDS

abbrev pub is_hidden : Mark → Bool
is_hidden mark.Hidden = true
is_hidden m = false

abbrev pub is_none_of : {A : Type 0} → List A → Bool
is_none_of [] = true
is_none_of (x ∷ xs) = false

-- exported, of module level, without parameters and without a result
abbrev pub is_command : Procedure → Bool
is_command p = not (is_hidden p.mark) && (is_identifier p.name && (is_none p.binding && (is_none_of p.parameters && is_none p.result)))

abbrev pub when_command : Option Procedure → Option Procedure
when_command None = None
when_command (Some p) = if is_command p then Some p else None

-- the command of that name of a module
abbrev pub command_named : Module → List ℕ → Option Procedure
command_named m x = when_command (procedure_named m.procedures x)

abbrev pub end_with : Option Why → Program → State → Ended
end_with why program s = record { why = why; system = record { program = program; store = s.store; made = s.made }; turns = s.turns; out = s.out }

abbrev pub end_of : Program → Res Flow → Ended
end_of program (Gives f s) = end_with None program s
end_of program (Stops why s) = end_with (Some why) program s

-- the command's procedure
abbrev pub run_found : Option Procedure → Program → ℕ → QName → State → Ended
run_found None program heap q s = end_with None program s
run_found (Some p) program heap q s = end_of program (run_first program heap q p s)

abbrev pub run_command : Program → ℕ → QName → State → Ended
run_command program heap q s = run_found (procedure_of program q) program heap q s

-- after a body: the next ones, or a stop, after which the later modules have not joined
abbrev pub and_then : Program → Res Flow → (State → Ended) → Ended
and_then program (Gives f s) rest = rest (at_rest s)
and_then program (Stops why s) rest = end_with (Some why) program s

-- each module that comes in joins, and its body is run; then the command
abbrev pub run_bodies : Program → List Module → ℕ → QName → State → Ended
run_bodies program [] heap q s = run_command program heap q s
run_bodies program (m ∷ ms) heap q s =
    and_then (program ++ m ∷ []) (run_first (program ++ m ∷ []) heap (body_name m) (body_procedure m) (with_module (program ++ m ∷ []) m s))
    (run_bodies (program ++ m ∷ []) ms heap q)

abbrev pub command_begins : System → ℕ → State
command_begins system turns = record { store = system.store; calls = []; made = system.made; turns = turns; out = [] }

-- a command with so many turns, over what is loaded and the modules that it brings in
abbrev pub command : System → List Module → ℕ → ℕ → QName → Ended
command system plan heap turns q = run_bodies system.program plan heap q (command_begins system turns)
