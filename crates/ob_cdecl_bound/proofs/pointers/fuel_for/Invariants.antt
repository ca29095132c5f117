use Rattle.std.proofs.Common.{◌≡◌, ◌+◌, ◌≤◌, suc, drop, length}
use Rattle.ob_cdecl_bound.specs.Told.{left_pointers}
use Rattle.ob_cdecl_bound.proofs.pointers.fuel_for.Given as goal

abbrev pub invariant-all : goal.invariant-all
invariant-all l = record { rest : l.fuel + length (left_pointers (drop l.left-index l.all)) ≡ suc (length (left_pointers l.all)); within : l.fuel ≤ l.left-index + 1 }
