use Rattle.std.proofs.Common.{List, refl, map}
use Rattle.ob_uses_roots.proofs.Parting.{turn, over}
use Rattle.ob_types.specs.declared.typed.TypedProcedure.{TypedProcedure}
use Rattle.ob_types.specs.TypedView.{procedure_view}
use Rattle.std.specs.List.{flat_map}
use Rattle.ob_uses_roots.specs.Counts.{counts_of_procedure}
use Rattle.ob_uses_roots.proofs.decls.count_procedures.Goals as goal

pub procedures-preserved : goal.procedures-preserved
procedures-preserved g c = turn (λ (p : TypedProcedure). counts_of_procedure (g.T.Types.types c.args.types.now) (procedure_view p)) (λ (ps : List TypedProcedure). flat_map (counts_of_procedure (g.T.Types.types c.args.types.now)) (map procedure_view ps)) (λ _ _. refl) c.args.procedures.now c.procedures.procedure-index c.procedure-item.result c.procedures.found c.count_procedure.new.found _ c.procedures-test.true c.procedure-item.is c.in_ok-count_procedure.ensures c.procedures.invariant

pub returns : goal.returns
returns g c = over (λ (ps : List TypedProcedure). flat_map (counts_of_procedure (g.T.Types.types c.args.types.now)) (map procedure_view ps)) refl c.args.procedures.now c.procedures.procedure-index c.procedures.found _ c.procedures-test.false c.procedures.invariant
