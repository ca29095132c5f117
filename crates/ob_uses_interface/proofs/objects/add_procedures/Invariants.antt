use Rattle.std.proofs.Common.{◌≡◌, ◌++◌, drop, map}
use Rattle.std.specs.List.{filter}
use Rattle.ob_types.specs.TypedView.{procedure_view}
use Rattle.ob_uses.specs.Objects.{is_exported}
use Rattle.ob_uses_interface.specs.Entries.{entry_of}
use Rattle.ob_uses.specs.Objects.{procedure_object}
use Rattle.ob_uses_interface.proofs.objects.add_procedures.Given as goal

abbrev pub invariant-procedures : goal.invariant-procedures
invariant-procedures l = l.found.items ++ map (entry_of l.«module») (map procedure_object (filter (is_exported) (map procedure_view (drop l.procedure-index l.procedures)))) ≡ l.initial.found.items ++ map (entry_of l.«module») (map procedure_object (filter (is_exported) (map procedure_view l.procedures)))
