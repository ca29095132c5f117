use Rattle.std.proofs.Common.{◌≡◌, drop}
use Rattle.ob_rules.specs.Judged as judged
use Rattle.ob_rules.specs.Designators as spec
use Rattle.ob_cexpr_designator.proofs.places.with_guards.Given as goal

abbrev pub invariant-guards : goal.invariant-guards
invariant-guards g l = spec.with_guards (g.T.Types.types l.types) l.at l.variable l.guards (judged.sound l.fn.place) ≡ spec.with_guards (g.T.Types.types l.types) l.at l.variable (drop l.guard-index l.guards) (record { node = l.guarded; notes = judged.no_notes })
