use Rattle.std.proofs.Common.{◌≡◌, ◌++◌, drop}
use Rattle.ob_rules.specs.Depth.{kept_of, names_held}
use Rattle.ob_cdecl_bound.proofs.depth.kept_of.Given as goal

abbrev pub invariant-types : goal.invariant-types
invariant-types g l = l.kept ++ kept_of (names_held (g.T.Types.types l.here)) (drop l.t-index l.types) ≡ kept_of (names_held (g.T.Types.types l.here)) l.types
