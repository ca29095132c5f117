use Rattle.std.proofs.Common.{◌≡◌, ◌-◌, length}
use Rattle.ob_cdecl_scopes.specs.Scopes.{at_start}
use Rattle.ob_rules.specs.Depth.{kept, kept_within}
use Rattle.ob_cdecl_bound.proofs.depth.kept.Given as goal

abbrev pub invariant-rounds : goal.invariant-rounds
invariant-rounds g l = kept_within (record (at_start l.unit (g.E.Types.types l.imported)) { own = l.types }) (length l.types - l.round) l.all ≡ kept (record (at_start l.unit (g.E.Types.types l.imported)) { own = l.types })
