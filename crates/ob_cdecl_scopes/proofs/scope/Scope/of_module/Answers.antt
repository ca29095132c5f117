use Rattle.std.proofs.Common.{◌≡◌, true, sym, subst}
use Rattle.ob_cdecl_scopes.specs.Descending.{are_within}
use Rattle.ob_cdecl_scopes.proofs.Predeclaring.{within_one}
use Rattle.ob_cdecl_scopes.proofs.scope.Scope.of_module.Goals as goal

pub invariant_of-result-clause-scopes_fall : goal.invariant_of-result-clause-scopes_fall
invariant_of-result-clause-scopes_fall g c = subst (λ l. are_within 1 l ≡ true) (sym c.in_ok-known.ensures) within_one
