use Rattle.std.proofs.Common.{◌≡◌, drop}
use Rattle.ob_uses_roots.specs.Noted.{noted}
use Rattle.ob_types.specs.TypedView.{actuals_view}
use Rattle.ob_uses_roots.specs.Counts.{formals}
use Rattle.ob_uses_roots.proofs.calls.note_formals.Given as goal

-- what was noted, and the rest after it, is the whole
abbrev pub invariant-formals : goal.invariant-formals
invariant-formals l = noted l.found (formals (actuals_view (drop l.actual-index l.actuals))) ≡ noted l.initial.found (formals (actuals_view l.actuals))
