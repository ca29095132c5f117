use Rattle.std.proofs.Common.{List, [], ◌∷◌, refl, map}
use Rattle.std.specs.List.{filter}
use Rattle.ob_types.specs.declared.typed.TypedProcedure.{TypedProcedure}
use Rattle.ob_types.specs.TypedView.{procedure_view}
use Rattle.ob_uses.specs.Objects.{is_exported}
use Rattle.ob_uses_interface.specs.Entries.{entry_of}
use Rattle.ob_uses.specs.Objects.{procedure_object}
use Rattle.ob_uses.proofs.Looping.{one_more, all_done}
use Rattle.ob_uses_interface.proofs.Objecting.{entries_cons}
use Rattle.ob_uses_interface.proofs.objects.add_procedures.Goals as goal

pub procedures-preserved : goal.procedures-preserved
procedures-preserved c =
    one_more (λ (x : TypedProcedure). map (entry_of c.args.«module».now) (map procedure_object (filter (is_exported) (procedure_view x ∷ [])))) (λ (xs : List TypedProcedure). map (entry_of c.args.«module».now) (map procedure_object (filter (is_exported) (map procedure_view xs)))) (λ x xs. entries_cons c.args.«module».now procedure_object (is_exported) (procedure_view x) (map procedure_view xs))
    c.args.procedures.now c.procedures.procedure-index c.procedure-item.result c.procedures.found.items c.add_procedure.new.found.items _ c.procedures-test.true c.procedure-item.is c.in_ok-add_procedure.ensures c.procedures.invariant

pub returns : goal.returns
returns c = all_done (λ (xs : List TypedProcedure). map (entry_of c.args.«module».now) (map procedure_object (filter (is_exported) (map procedure_view xs)))) refl c.args.procedures.now c.procedures.procedure-index c.procedures.found.items _ c.procedures-test.false c.procedures.invariant
