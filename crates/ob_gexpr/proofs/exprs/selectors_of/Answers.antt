use Rattle.std.proofs.Common.{◌≤◌, sym, ap, ◌∙◌, subst, arith}
use Rattle.std.specs.List.{All}
use Rattle.std.proofs.lemmas.List.Elements.{All-push}
use Rattle.ob_types.specs.declared.typed.Designator.{size-Designator}
use Rattle.ob_types.specs.declared.typed.Designator.TheViews.{sized-Field, sized-Index, sized-Deref, sized-Guard}
use Rattle.ob_types.specs.TypedView.{designator_view}
use Rattle.ob_scheme.specs.declared.want.Want.TheVariants as want
use Rattle.ob_scheme.specs.Coded.{appended, place_in}
use Rattle.ob_scheme.specs.Expressions.{desig_code}
use Rattle.ob_gexpr.specs.Chains.{with_selector, outward}
use Rattle.ob_gexpr.proofs.Links.{inward_turn, field_step, index_step, deref_step, guard_step, variable_step}
use Rattle.ob_gexpr.proofs.exprs.selectors_of.Goals as goal

pub links-preserved-in-Field : goal.links-preserved-in-Field
links-preserved-in-Field c = record {
  within = subst (All (λ p. size-Designator p.1.now ≤ size-Designator c.args.d.now)) (sym c.in_ok-push.ensures.items) (All-push (λ p. size-Designator p.1.now ≤ size-Designator c.args.d.now) c.links.links.items (c.links.wanted, c.links.rest) c.links.invariant.within c.links.invariant.no_deeper);
  no_deeper = grind (arith, sized-Field, c.in-Field.is, c.get-rest.ensures, c.links.invariant.no_deeper);
  whole = λ x k.
      ap (λ l. outward (λ p. with_selector x p.0 (designator_view p.1.now)) l (appended k (desig_code x want.Place (designator_view c.get-rest.result.now) (place_in k)))) c.in_ok-push.ensures.items
      ∙ inward_turn (λ p. with_selector x p.0 (designator_view p.1.now)) c.links.links.items (c.links.wanted, c.links.rest) _ _ _ (field_step x c.links.wanted c.links.rest.now c.in-Field.inner c.get-rest.result.now c.in-Field.owner c.in-Field.name c.in-Field.of k c.in-Field.is c.get-rest.ensures) (c.links.invariant.whole x k);
}

pub links-preserved-in-Index : goal.links-preserved-in-Index
links-preserved-in-Index c = record {
  within = subst (All (λ p. size-Designator p.1.now ≤ size-Designator c.args.d.now)) (sym c.in_ok-push.ensures.items) (All-push (λ p. size-Designator p.1.now ≤ size-Designator c.args.d.now) c.links.links.items (c.links.wanted, c.links.rest) c.links.invariant.within c.links.invariant.no_deeper);
  no_deeper = grind (arith, sized-Index, c.in-Index.is, c.get-rest-in-Index.ensures, c.links.invariant.no_deeper);
  whole = λ x k.
      ap (λ l. outward (λ p. with_selector x p.0 (designator_view p.1.now)) l (appended k (desig_code x c.want_for_index-wanted.result (designator_view c.get-rest-in-Index.result.now) (place_in k)))) c.in_ok-push.ensures.items
      ∙ inward_turn (λ p. with_selector x p.0 (designator_view p.1.now)) c.links.links.items (c.links.wanted, c.links.rest) _ _ _ (index_step x c.links.wanted c.want_for_index-wanted.result c.links.rest.now c.in-Index.inner c.get-rest-in-Index.result.now c.in-Index.length c.in-Index.index c.in-Index.pos c.in-Index.of k c.in-Index.is c.get-rest-in-Index.ensures c.want_for_index-wanted.ensures) (c.links.invariant.whole x k);
}

pub links-preserved-in-Deref : goal.links-preserved-in-Deref
links-preserved-in-Deref c = record {
  within = subst (All (λ p. size-Designator p.1.now ≤ size-Designator c.args.d.now)) (sym c.in_ok-push.ensures.items) (All-push (λ p. size-Designator p.1.now ≤ size-Designator c.args.d.now) c.links.links.items (c.links.wanted, c.links.rest) c.links.invariant.within c.links.invariant.no_deeper);
  no_deeper = grind (arith, sized-Deref, c.in-Deref.is, c.get-rest-in-Deref.ensures, c.links.invariant.no_deeper);
  whole = λ x k.
      ap (λ l. outward (λ p. with_selector x p.0 (designator_view p.1.now)) l (appended k (desig_code x want.Value (designator_view c.get-rest-in-Deref.result.now) (place_in k)))) c.in_ok-push.ensures.items
      ∙ inward_turn (λ p. with_selector x p.0 (designator_view p.1.now)) c.links.links.items (c.links.wanted, c.links.rest) _ _ _ (deref_step x c.links.wanted c.links.rest.now c.in-Deref.inner c.get-rest-in-Deref.result.now c.in-Deref.pos c.in-Deref.of k c.in-Deref.is c.get-rest-in-Deref.ensures) (c.links.invariant.whole x k);
}

pub links-preserved : goal.links-preserved
links-preserved c = record {
  within = subst (All (λ p. size-Designator p.1.now ≤ size-Designator c.args.d.now)) (sym c.in_ok-push.ensures.items) (All-push (λ p. size-Designator p.1.now ≤ size-Designator c.args.d.now) c.links.links.items (c.links.wanted, c.links.rest) c.links.invariant.within c.links.invariant.no_deeper);
  no_deeper = grind (arith, sized-Guard, c.in-Guard.is, c.get-rest-in-Guard.ensures, c.links.invariant.no_deeper);
  whole = λ x k.
      ap (λ l. outward (λ p. with_selector x p.0 (designator_view p.1.now)) l (appended k (desig_code x c.want_for_guard-wanted.result (designator_view c.get-rest-in-Guard.result.now) (place_in k)))) c.in_ok-push.ensures.items
      ∙ inward_turn (λ p. with_selector x p.0 (designator_view p.1.now)) c.links.links.items (c.links.wanted, c.links.rest) _ _ _ (guard_step x c.links.wanted c.want_for_guard-wanted.result c.links.rest.now c.in-Guard.inner c.get-rest-in-Guard.result.now c.in-Guard.guarded c.in-Guard.target c.in-Guard.pos c.in-Guard.of k c.in-Guard.is c.get-rest-in-Guard.ensures c.want_for_guard-wanted.ensures) (c.links.invariant.whole x k);
}

pub returns-in-Variable-clause-whole : goal.returns-in-Variable-clause-whole
returns-in-Variable-clause-whole c = λ x k.
    ap (λ l. outward (λ p. with_selector x p.0 (designator_view p.1.now)) l k) c.in_ok-push.ensures.items
    ∙ inward_turn (λ p. with_selector x p.0 (designator_view p.1.now)) c.links.links.items (c.links.wanted, c.links.rest) _ _ _ (variable_step x c.links.wanted c.links.rest.now c.in-Variable.variable c.in-Variable.of k c.in-Variable.is) (c.links.invariant.whole x k)
