use Rattle.std.proofs.Common.{◌≡◌, List, [], ◌∷◌, length, arith, refl, sym, ap, subst, ◌∙◌}
use Rattle.ob_tree.specs.declared.names.QName.{QName}
use Rattle.ob_uses.specs.declared.pair.Pair.{Pair}
use Rattle.ob_uses.specs.Ways.{leads_by, has_pair, paired}
use Rattle.ob_uses.proofs.Going.{Going, begins, ended, passed, entered, falls_entered}
use Rattle.ob_uses.proofs.reach.search.Goals as goal

none_left : (qs : List QName) → length qs ≡ 0 → qs ≡ []
none_left [] e = refl
none_left (q ∷ qs) e = absurd (omega (arith, e))

pub reach-init : goal.reach-init
reach-init g c =
    let leads = leads_by c.args.way (g.T.Types.types c.args.types.now) c.args.own.now in
    subst (λ (ps : List Pair). Going leads c.args.starts.now c.args.aspect ps c.in_ok-left.left.items) (sym c.new-seen.ensures.empty)
    (subst (λ (l : List QName). Going leads c.args.starts.now c.args.aspect [] l) (sym c.in_ok-left.ensures) (begins leads c.args.starts.now c.args.aspect))

pub reach-preserved-in_ok-insert : goal.reach-preserved-in_ok-insert
reach-preserved-in_ok-insert g c =
    entered (leads_by c.args.way (g.T.Types.types c.args.types.now) c.args.own.now) c.args.starts.now c.args.aspect c.reach.seen.keys c.insert.new.self.keys c.reach.left.items c.pop.new.self.items c.add_found.new.left.items c.in-Some.object
    c.in-Some.ensures.items c.in_ok-insert.ensures.updates.0 c.in_ok-add_found.ensures c.reach.invariant

pub reach-preserved : goal.reach-preserved
reach-preserved g c =
    passed (leads_by c.args.way (g.T.Types.types c.args.types.now) c.args.own.now) c.args.starts.now c.args.aspect c.reach.seen.keys c.reach.left.items c.pop.new.self.items c.in-Some.object
    c.in-Some.ensures.items (sym c.contains.ensures ∙ c.if-not-contains.false) c.reach.invariant

pub reach-preserved-else-not-contains : goal.reach-preserved-else-not-contains
reach-preserved-else-not-contains g c =
    passed (leads_by c.args.way (g.T.Types.types c.args.types.now) c.args.own.now) c.args.starts.now c.args.aspect c.reach.seen.keys c.reach.left.items c.pop.new.self.items c.in-Some.object
    c.in-Some.ensures.items (sym c.contains.ensures ∙ c.if-not-contains.false) c.reach.invariant

pub reach-smaller-in_ok-insert : goal.reach-smaller-in_ok-insert
reach-smaller-in_ok-insert g c =
    falls_entered c.args.way (g.T.Types.types c.args.types.now) c.args.own.now c.args.aspect c.reach.seen.keys c.insert.new.self.keys (g.T.Types.finite c.args.types.now).0 c.reach.left.items c.pop.new.self.items c.add_found.new.left.items c.in-Some.object
    (g.T.Types.finite c.args.types.now).1 c.in-Some.ensures.items (sym c.contains.ensures ∙ c.if-not-contains.true) c.in_ok-insert.ensures.updates.0 c.in_ok-add_found.ensures

pub returns : goal.returns
returns g c = ended (leads_by c.args.way (g.T.Types.types c.args.types.now) c.args.own.now) c.args.starts.now c.args.aspect c.reach.seen.keys
    (subst (λ (l : List QName). Going (leads_by c.args.way (g.T.Types.types c.args.types.now) c.args.own.now) c.args.starts.now c.args.aspect c.reach.seen.keys l) (none_left c.reach.left.items (sym c.reach.left.ok.0 ∙ c.in_default.ensures.cases.0)) c.reach.invariant)
