use Rattle.std.proofs.Common.{◌≡◌, take}
use Rattle.ob_cdecl_bound.proofs.depth.copy_all.Given as goal

abbrev pub invariant-types : goal.invariant-types
invariant-types l = l.all ≡ take l.t-index l.types
