-- The laws: what is well typed is of the forms for which the law of simulation is proved.
use Rattle.std.specs.Prelude.{◌≡◌, ℕ, List, Option, Bool, true}
use Rattle.ob_tree.specs.declared.names.QName.{QName}
use Rattle.ob_types.specs.declared.types.TypeRef.{TypeRef}
use Rattle.ob_types.specs.TypedSyntax.{Stmts, Module}
use Rattle.ob_meaning.specs.Values.{Program, Held, Formals}
use Rattle.ob_meaning.specs.Commands.{body_name, body_procedure}
use Rattle.law_simulation_relation.specs.Typed as typed
use Rattle.law_simulation_relation.specs.Setting.{Setting}
use Rattle.law_simulation_relation.specs.Linked.{Linked, ProcedureStands}
use Rattle.law_simulation.specs.Slice.{InStmts, AllIn}

-- procedures that may be values, as a setting tells them
abbrev pub Having : (Formals → QName → Bool) → Formals → QName → Type 0
Having has fs q = has fs q ≡ true

-- Well typed statements are in the slice.
abbrev pub StatementsAreIn : Type 0
StatementsAreIn = (program : Program) (has : Formals → QName → Bool) (unit : List ℕ) (held : List Held) (result : Option TypeRef) (xs : Stmts) (in_loop : Bool) → typed.StmtsOk program (Having has) unit held result xs in_loop → InStmts xs

-- Procedures that stand in an image are well typed, so their bodies are in the slice.
abbrev pub ProceduresAreIn : Type 0
ProceduresAreIn = (c : Setting) → Linked c → AllIn c

-- So is the body of a module that stands there.
abbrev pub BodiesAreIn : Type 0
BodiesAreIn = (c : Setting) (m : Module) → ProcedureStands c (body_name m) (body_procedure m) → InStmts m.body
