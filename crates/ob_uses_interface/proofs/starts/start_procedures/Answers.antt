use Rattle.std.proofs.Common.{true, List, refl, map}
use Rattle.std.specs.List.{filter, flat_map}
use Rattle.ob_types.specs.declared.typed.TypedProcedure.{TypedProcedure}
use Rattle.ob_types.specs.TypedView.{procedure_view}
use Rattle.ob_types.specs.Maps.{signature_types}
use Rattle.ob_uses.specs.Objects.{signature_of, is_exported}
use Rattle.ob_uses.proofs.Leading.{turn, over}
use Rattle.ob_uses_interface.proofs.Starting.{variables_cons, procedures_cons}
use Rattle.ob_uses_interface.proofs.starts.start_procedures.Goals as goal

pub procedures-preserved : goal.procedures-preserved
procedures-preserved c = turn true c.args.own.now (λ (xs : List TypedProcedure). flat_map (λ p. signature_types (signature_of p)) (filter is_exported (map procedure_view xs))) procedures_cons c.args.procedures.now c.procedures.procedure-index c.procedure-item.result c.procedures.left.items c.start_procedure.new.left.items _ c.procedures-test.true c.procedure-item.is c.in_ok-start_procedure.ensures c.procedures.invariant

pub returns : goal.returns
returns c = over true c.args.own.now (λ (xs : List TypedProcedure). flat_map (λ p. signature_types (signature_of p)) (filter is_exported (map procedure_view xs))) refl c.args.procedures.now c.procedures.procedure-index c.procedures.left.items _ c.procedures-test.false c.procedures.invariant
