-- What the law says: a run by the table ends as the meaning ends, and the words left stand for the state left.
use Rattle.std.specs.Prelude.{◌≡◌, [], None}
use Rattle.ob_tree.specs.declared.names.QName.{QName}
use Rattle.ob_tree.specs.declared.proc_ref.ProcRef.{ProcRef}
use Rattle.ob_types.specs.TypedSyntax.{Procedure, Module}
use Rattle.std.specs.Prelude.{Some}
use Rattle.ob_instr.specs.Image as image
use Rattle.ob_instr.specs.Image.{World, End}
use Rattle.ob_instr.specs.Table.{Ends}
use Rattle.ob_meaning.specs.Values as values
use Rattle.ob_meaning.specs.Values.{State}
use Rattle.ob_meaning.specs.Results.{Res, Gives, Stops}
use Rattle.ob_meaning.specs.Meaning.{Flow}
use Rattle.ob_meaning.specs.Commands.{run_first, at_rest, body_name, body_procedure}
use Rattle.law_simulation_relation.specs.Layout.{module_number}
use Rattle.law_simulation_relation.specs.Relation.{number_of, call_start}
use Rattle.law_simulation_relation.specs.Setting.{Setting, StandIn, stopped, has_of}
use Rattle.law_simulation_relation.specs.Linked.{Linked, ProcedureStands, TypesStand}
use Rattle.law_simulation_records.specs.Bases.{BasesStand}
use Rattle.law_simulation_operators.specs.Procedures.{ValuesNumbered}
use Rattle.law_simulation_calls.specs.Signatures.{ValuesMatch}
use Rattle.law_simulation_calls.specs.Tables.{TablesStand, FamiliesStand}
use Rattle.law_simulation.specs.Slice.{InStmts, AllIn}

-- what the law asks of an image: it has each procedure and each record type with its bases, and tells the procedures that variables may have as values, which match the signatures of these variables; the tables of its record types have the bound procedures, which are alike where they redefine one another
pub record ImageStands (c : Setting) : Type 0 where
  pub linked : Linked c
  pub types : TypesStand c
  pub bases : BasesStand c
  pub numbered : ValuesNumbered c
  pub match : ValuesMatch c
  pub tables : (q : QName) (p : Procedure) (found : values.procedure_of c.program q ≡ Some p) → TablesStand c ((linked q p found).methods)
  pub families : FamiliesStand c

module _ (c : Setting) where
  -- the words with no activation
  abbrev pub idle : World → World
  idle w = record w { stack = call_start c.program (has_of c) c.img [] }

  -- the same end, and the words left stand for the state left
  abbrev pub Same : Res Flow → End → World → Type 0
  Same (Gives f s) end w = (end ≡ image.Done) × StandIn c [] (at_rest s) (idle w)
  Same (Stops y s) end w = (end ≡ stopped c y) × StandIn c [] (at_rest s) (idle w)

  pub record Simulates (r : ProcRef) (w : World) (result : Res Flow) : Type 0 where
    pub end : End
    pub after : World
    pub run_ends : Ends c.img r w end after
    pub same : Same result end after

-- of a proper command without parameters, over any state without active calls and any words that stand for it
abbrev pub CommandsSimulate : Type 0
CommandsSimulate = (c : Setting) → ImageStands c → AllIn c → (q : QName) (p : Procedure) → values.procedure_of c.program q ≡ Some p → p.parameters ≡ [] → p.result ≡ None → (s : State) (w : World) → s.calls ≡ [] → StandIn c s.calls s w → Simulates c (number_of c.program (has_of c) c.img q) w (run_first c.program c.heap q p s)

-- of a module's body, which is its procedure 0
abbrev pub BodiesSimulate : Type 0
BodiesSimulate = (c : Setting) → ImageStands c → AllIn c → (m : Module) (ps : ProcedureStands c (body_name m) (body_procedure m)) → TablesStand c ps.methods → InStmts m.body → (s : State) (w : World) → s.calls ≡ [] → StandIn c s.calls s w → Simulates c (record { «module» = module_number c.program m.name; proc = 0 }) w (run_first c.program c.heap (body_name m) (body_procedure m) s)
