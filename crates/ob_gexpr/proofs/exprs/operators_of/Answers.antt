use Rattle.std.proofs.Common.{◌≤◌, sym, ap, ◌∙◌, subst, arith}
use Rattle.std.specs.Option.{option_map, option_copied}
use Rattle.std.specs.List.{All}
use Rattle.std.proofs.lemmas.List.Elements.{All-push}
use Rattle.ob_types.specs.declared.typed.TypedExpr.{size-TypedExpr}
use Rattle.ob_types.specs.TypedView.{expr_view}
use Rattle.ob_scheme.specs.declared.want.Want.TheVariants as want
use Rattle.ob_scheme.specs.Coded.{appended, place_in}
use Rattle.ob_scheme.specs.Expressions.{expr_code}
use Rattle.ob_gexpr.specs.Chains.{with_operator, outward}
use Rattle.ob_gexpr.proofs.Links.{inward_turn, operator_more, operator_end}
use Rattle.ob_gexpr.proofs.exprs.operators_of.Goals as goal

pub links-preserved : goal.links-preserved
links-preserved c = record {
  within = subst (All (λ p. size-TypedExpr p.1.now ≤ size-TypedExpr c.args.e.now)) (sym c.in_ok-push.ensures.items) (All-push (λ p. size-TypedExpr p.1.now ≤ size-TypedExpr c.args.e.now) c.links.links.items (c.links.wanted, c.links.rest) c.links.invariant.within c.links.invariant.no_deeper);
  no_deeper = let h = c.in-Some.ensures.smaller in omega (arith, h, c.links.invariant.no_deeper);
  whole = λ x k.
      ap (λ l. outward (λ p. with_operator x p.0 (expr_view p.1.now)) l (appended k (expr_code x want.Value (expr_view c.in-Some.left.now) (place_in k)))) c.in_ok-push.ensures.items
      ∙ inward_turn (λ p. with_operator x p.0 (expr_view p.1.now)) c.links.links.items (c.links.wanted, c.links.rest) _ _ _ (operator_more x c.links.wanted (expr_view c.links.rest.now) (expr_view c.in-Some.left.now) k (ap (λ r. option_map expr_view (option_copied r)) (sym c.in-Some.is) ∙ c.left_of.ensures.is)) (c.links.invariant.whole x k);
}

pub returns-clause-whole : goal.returns-clause-whole
returns-clause-whole c = λ x k.
    ap (λ l. outward (λ p. with_operator x p.0 (expr_view p.1.now)) l k) c.in_ok-push-2.ensures.items
    ∙ inward_turn (λ p. with_operator x p.0 (expr_view p.1.now)) c.links.links.items (c.links.wanted, c.links.rest) _ _ _ (operator_end x c.links.wanted (expr_view c.links.rest.now) k c.left_of.result c.in_default.not-Some c.left_of.ensures.is) (c.links.invariant.whole x k)
