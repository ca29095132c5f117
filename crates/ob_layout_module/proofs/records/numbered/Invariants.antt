use Rattle.std.proofs.Common.{◌≡◌, ◌++◌, drop}
use Rattle.ob_layout.specs.LaidOut.{numbered}
use Rattle.ob_layout_module.proofs.records.numbered.Given as goal

abbrev pub invariant-methods : goal.invariant-methods
invariant-methods l = l.all ++ numbered l.number (drop l.method-index l.methods) ≡ numbered l.from l.methods
