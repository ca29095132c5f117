use Rattle.std.proofs.Common.{◌≡◌, drop}
use Rattle.std.specs.List.{list_all}
use Rattle.ob_rules.specs.Shapes.{is_held}
use Rattle.ob_cdecl_bound.proofs.depth.are_held.Given as goal

abbrev pub invariant-all : goal.invariant-all
invariant-all g l = list_all (is_held (g.T.Types.types l.types)) l.all ≡ list_all (is_held (g.T.Types.types l.types)) (drop l.t-index l.all)
