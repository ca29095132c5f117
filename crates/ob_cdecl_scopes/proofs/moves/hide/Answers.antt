use Rattle.std.proofs.Common.{◌≡◌, ◌∷◌, ◌++◌, true, sym, ap, subst, ◌∙◌}
use Rattle.ob_cdecl_scopes.specs.Descending.{are_within}
use Rattle.ob_cdecl_scopes.proofs.Bodying.{taken_more, first_of, within_dropped}
use Rattle.ob_cdecl_scopes.proofs.moves.hide.Goals as goal

pub names-preserved : goal.names-preserved
names-preserved c =
    let k = c.in-Some.k in
    let ks = c.names.known in
    record {
      all = taken_more c.names.aside.items c.push.new.self.items (c.args.aside.now.items ++ c.args.known.now) ks c.pop.new.self k c.in_ok-push-in-Some.ensures.items (first_of ks k c.in-Some.ensures.first ∙ ap (λ l. k ∷ l) (sym c.pop.ensures.rest)) c.names.invariant.all;
      fall = subst (λ l. are_within c.args.scope l ≡ true) (sym c.pop.ensures.rest) (within_dropped c.args.scope 1 ks c.names.invariant.fall);
    }

pub returns-in_err-push-in-Some-clause-stays : goal.returns-in_err-push-in-Some-clause-stays
returns-in_err-push-in-Some-clause-stays c = subst (λ l. are_within c.args.scope l ≡ true) (sym c.pop.ensures.rest) (within_dropped c.args.scope 1 c.names.known c.names.invariant.fall)
