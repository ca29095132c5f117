use Rattle.std.proofs.Common.{◌≡◌, ◌++◌, drop}
use Rattle.ob_types.specs.TypedView.{module_view}
use Rattle.ob_scheme.specs.Object.{records_in}
use Rattle.ob_gproc.proofs.records.records_in.Given as goal

-- those so far, and those of the rest
abbrev pub invariant-types : goal.invariant-types
invariant-types g l = l.records ++ records_in (g.T.Types.types l.scope.types.now) (module_view l.scope.unit.now) l.code.named.types (drop l.named-index l.list) ≡ records_in (g.T.Types.types l.scope.types.now) (module_view l.scope.unit.now) l.code.named.types l.list
