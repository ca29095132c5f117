use Rattle.std.proofs.Common.{◌≡◌, ◌++◌, true, sym, subst}
use Rattle.ob_cdecl_scopes.specs.Descending.{are_within}
use Rattle.ob_cdecl_scopes.proofs.Bodying.{within_behind}
use Rattle.ob_cdecl_scopes.proofs.moves.put_back.Goals as goal

pub returns-in_err-push-in-Some-clause-stays : goal.returns-in_err-push-in-Some-clause-stays
returns-in_err-push-in-Some-clause-stays c =
    let all : are_within c.args.scope (c.names.aside.items ++ c.names.known) ≡ true = subst (λ l. are_within c.args.scope l ≡ true) (sym c.names.invariant.all) c.requires in
    subst (λ l. are_within c.args.scope l ≡ true) (sym c.in_err-push-in-Some.ensures.err) (within_behind c.args.scope c.names.aside.items c.names.known all)

pub returns-clause-stays : goal.returns-clause-stays
returns-clause-stays c =
    let all : are_within c.args.scope (c.names.aside.items ++ c.names.known) ≡ true = subst (λ l. are_within c.args.scope l ≡ true) (sym c.names.invariant.all) c.requires in
    within_behind c.args.scope c.names.aside.items c.names.known all
