use Rattle.std.proofs.Common.{◌≡◌, drop}
use Rattle.ob_uses_roots.specs.Noted.{noted}
use Rattle.std.proofs.Common.{map}
use Rattle.ob_uses_roots.specs.Counts.{shapes}
use Rattle.ob_uses_roots.proofs.notes.note_params.Given as goal

-- what was noted, and the rest after it, is the whole
abbrev pub invariant-params : goal.invariant-params
invariant-params l = noted l.found (shapes (map (λ p. p.1) (drop l.param-index l.params))) ≡ noted l.initial.found (shapes (map (λ p. p.1) l.params))
