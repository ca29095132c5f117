use Rattle.std.proofs.Common.{◌≡◌, ◌++◌, drop}
use Rattle.ob_cdecl.specs.Order.{coming_within}
use Rattle.ob_cdecl.proofs.described.coming_within.Given as goal

abbrev pub invariant-declarations : goal.invariant-declarations
invariant-declarations l = l.all ++ coming_within (drop l.d-index l.decls) ≡ coming_within l.decls
