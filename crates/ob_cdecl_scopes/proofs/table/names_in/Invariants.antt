use Rattle.std.proofs.Common.{◌≡◌, map, take}
use Rattle.std.specs.Prelude.{reverse}
use Rattle.ob_cdecl_scopes.proofs.table.names_in.Given as goal

abbrev pub invariant-items : goal.invariant-items
invariant-items g l = l.names ≡ map g.T.Named.name (reverse (take l.item-index l.items))
