-- The laws, whole.
use Rattle.ob_meaning.specs.Commands.{body_name, body_procedure}
use Rattle.law_simulation_relation.specs.Layout.{static_held}
use Rattle.law_simulation_relation.specs.Setting.{has_of}
use Rattle.std.specs.Prelude.{false}
use Rattle.law_simulation.specs.Laws.{Having, StatementsAreIn, ProceduresAreIn, BodiesAreIn}
use Rattle.law_simulation.proofs.Statements.{in_stmts}

pub statements_are_in : StatementsAreIn
statements_are_in program has unit held result xs in_loop h = in_stmts program (Having has) unit held result xs in_loop h

pub procedures_are_in : ProceduresAreIn
procedures_are_in c linked q p found = let ps = linked q p found in in_stmts c.program (has_of c) q.module (static_held c.program p) p.result p.body false ps.ok

pub bodies_are_in : BodiesAreIn
bodies_are_in c m ps = let p = body_procedure m in in_stmts c.program (has_of c) (body_name m).module (static_held c.program p) p.result m.body false ps.ok
