use Rattle.std.proofs.Common.{◌≡◌, ◌++◌, drop, map}
use Rattle.ob_cdecl_bound.proofs.parts.add_fields.Given as goal

abbrev pub invariant-fields : goal.invariant-fields
invariant-fields l = l.types ++ map (λ f. f.of) (drop l.field-index l.fields) ≡ l.fn.types ++ map (λ f. f.of) l.fields
