use Rattle.std.specs.Prelude.{map}
use Rattle.std.proofs.Common.{◌≡◌, ◌++◌, drop}
use Rattle.ob_types.specs.TypedView.{procedure_view, module_view}
use Rattle.ob_scheme.specs.Object.{commands_among}
use Rattle.ob_gproc.proofs.exported.commands_in.Given as goal

-- those so far, and those of the rest
abbrev pub invariant-procedures : goal.invariant-procedures
invariant-procedures g l = l.found ++ commands_among (g.T.Types.types l.scope.types.now) (module_view l.scope.unit.now) (map procedure_view (drop l.procedure-index l.procedures)) l.index ≡ commands_among (g.T.Types.types l.scope.types.now) (module_view l.scope.unit.now) (map procedure_view l.procedures) 1
