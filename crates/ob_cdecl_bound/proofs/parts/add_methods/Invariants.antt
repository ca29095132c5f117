use Rattle.std.proofs.Common.{◌≡◌, ◌++◌, drop}
use Rattle.std.specs.List.{flat_map}
use Rattle.ob_types.specs.Maps.{signature_types}
use Rattle.ob_cdecl_bound.proofs.parts.add_methods.Given as goal

abbrev pub invariant-methods : goal.invariant-methods
invariant-methods l = l.types ++ flat_map (λ m. signature_types m.signature) (drop l.method-index l.methods) ≡ l.fn.types ++ flat_map (λ m. signature_types m.signature) l.methods
