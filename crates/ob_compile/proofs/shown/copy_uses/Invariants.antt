use Rattle.std.proofs.Common.{◌≡◌, ◌++◌, drop}
use Rattle.ob_compile.proofs.shown.copy_uses.Given as goal

abbrev pub invariant-uses : goal.invariant-uses
invariant-uses l = l.all ++ drop l.of-index l.uses ≡ l.uses
