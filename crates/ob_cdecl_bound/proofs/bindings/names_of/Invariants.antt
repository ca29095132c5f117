use Rattle.std.proofs.Common.{◌≡◌, ◌++◌, drop, map}
use Rattle.ob_cdecl_bound.proofs.bindings.names_of.Given as goal

abbrev pub invariant-types : goal.invariant-types
invariant-types l = l.names ++ map (λ t. t.name) (drop l.t-index l.types) ≡ map (λ t. t.name) l.types
