use Rattle.std.proofs.Common.{◌≡◌, drop}
use Rattle.ob_uses_roots.specs.Noted.{noted}
use Rattle.std.specs.List.{flat_map}
use Rattle.std.proofs.Common.{map}
use Rattle.ob_types.specs.TypedView.{procedure_view}
use Rattle.ob_uses_roots.specs.Counts.{counts_of_procedure}
use Rattle.ob_uses_roots.proofs.decls.count_procedures.Given as goal

-- what was noted, and the rest after it, is the whole
abbrev pub invariant-procedures : goal.invariant-procedures
invariant-procedures g l = noted l.found (flat_map (counts_of_procedure (g.T.Types.types l.types)) (map procedure_view (drop l.procedure-index l.procedures))) ≡ noted l.initial.found (flat_map (counts_of_procedure (g.T.Types.types l.types)) (map procedure_view l.procedures))
