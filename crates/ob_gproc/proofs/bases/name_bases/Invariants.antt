use Rattle.std.proofs.Common.{◌≡◌, drop}
use Rattle.ob_types.specs.TypedView.{module_view}
use Rattle.ob_scheme.specs.Object.{with_bases}
use Rattle.ob_gproc.specs.Named.{with_types}
use Rattle.ob_gproc.proofs.bases.name_bases.Given as goal

-- the links so far, and those of the rest behind them
abbrev pub invariant-types : goal.invariant-types
invariant-types g l = with_types l.code (with_bases (g.T.Types.types l.types) (module_view l.unit) l.code.named.types (drop l.named-index l.list)) ≡ with_types l.initial.code (with_bases (g.T.Types.types l.types) (module_view l.unit) l.initial.code.named.types l.list)
