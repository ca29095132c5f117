use Rattle.std.proofs.Common.{◌≡◌, drop}
use Rattle.ob_uses_roots.specs.Noted.{noted}
use Rattle.ob_uses_roots.specs.Counts.{shapes}
use Rattle.ob_uses_roots.proofs.decls.count_named_types.Given as goal

-- what was noted, and the rest after it, is the whole
abbrev pub invariant-types : goal.invariant-types
invariant-types l = noted l.found (shapes (drop l.t-index l.types)) ≡ noted l.initial.found (shapes l.types)
