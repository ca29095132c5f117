use Rattle.std.proofs.Common.{◌≡◌, ◌++◌, drop, map}
use Rattle.ob_cdecl_bound.proofs.parts.add_params.Given as goal

abbrev pub invariant-params : goal.invariant-params
invariant-params l = l.types ++ map (λ p. p.1) (drop l.param-index l.params) ≡ l.fn.types ++ map (λ p. p.1) l.params
