use Rattle.std.proofs.Common.{◌≡◌, ◌++◌, true, sym, subst}
use Rattle.ob_cdecl_scopes.specs.Descending.{are_within}
use Rattle.ob_cdecl_scopes.proofs.Bodying.{within_behind}
use Rattle.ob_cdecl_scopes.proofs.moves.put_all.Goals as goal

pub returns-in_err-push-clause-stays : goal.returns-in_err-push-clause-stays
returns-in_err-push-clause-stays c =
    let all : are_within c.args.scope (c.names.rest.items ++ c.names.known) ≡ true = subst (λ l. are_within c.args.scope l ≡ true) (sym c.names.invariant) c.requires in
    subst (λ l. are_within c.args.scope l ≡ true) (sym c.in_err-push.ensures.err) (within_behind c.args.scope c.names.rest.items c.names.known all)
