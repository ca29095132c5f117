use Rattle.std.proofs.Common.{◌≡◌, drop}
use Rattle.ob_uses_roots.specs.Noted.{noted}
use Rattle.std.specs.List.{flat_map}
use Rattle.ob_uses_roots.specs.Counts.{both}
use Rattle.ob_uses_roots.proofs.decls.count_fields.Given as goal

-- what was noted, and the rest after it, is the whole
abbrev pub invariant-fields : goal.invariant-fields
invariant-fields l = noted l.found (flat_map (λ f. both f.of) (drop l.field-index l.fields)) ≡ noted l.initial.found (flat_map (λ f. both f.of) l.fields)
