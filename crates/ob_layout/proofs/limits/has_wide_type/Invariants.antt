use Rattle.std.proofs.Common.{◌≡◌, drop}
use Rattle.std.specs.List.{list_any}
use Rattle.ob_layout.specs.Room.{is_wide}
use Rattle.ob_layout.proofs.limits.has_wide_type.Given as goal

abbrev pub invariant-types : goal.invariant-types
invariant-types g l = list_any (is_wide (g.T.Types.types l.types)) (drop l.of-index l.all) ≡ list_any (is_wide (g.T.Types.types l.types)) l.all
