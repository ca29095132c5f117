use Rattle.std.specs.Prelude.{map}
use Rattle.std.proofs.Common.{◌≡◌, ◌++◌, drop}
use Rattle.ob_types.specs.TypedView.{procedure_view, module_view}
use Rattle.ob_scheme.specs.Object.{definitions_among}
use Rattle.ob_gproc.proofs.records.definitions_in.Given as goal

-- those so far, and those of the rest
abbrev pub invariant-procedures : goal.invariant-procedures
invariant-procedures g l = l.found ++ definitions_among (g.T.Types.types l.scope.types.now) (module_view l.scope.unit.now) l.owner (map procedure_view (drop l.procedure-index l.procedures)) l.index ≡ definitions_among (g.T.Types.types l.scope.types.now) (module_view l.scope.unit.now) l.owner (map procedure_view l.procedures) 1
