use Rattle.std.proofs.Common.{◌-◌, ◌≡◌, true, length, sym, subst}
use Rattle.ob_cdecl_scopes.specs.Descending.{are_within}
use Rattle.ob_cdecl_scopes.proofs.Bodying.{within_dropped}
use Rattle.ob_cdecl_scopes.proofs.scope.Scope.cut_names.Goals as goal

pub invariant_of-self-clause-scopes_fall : goal.invariant_of-self-clause-scopes_fall
invariant_of-self-clause-scopes_fall g c =
    let s = c.args.self.now in
    subst (λ l. are_within s.scope l ≡ true) (sym c.cut.ensures) (within_dropped s.scope (length s.known - c.args.mark.known) s.known s.scopes_fall)
