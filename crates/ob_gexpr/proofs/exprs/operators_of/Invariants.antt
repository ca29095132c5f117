use Rattle.std.proofs.Common.{◌≡◌, ◌≤◌}
use Rattle.std.specs.List.{All}
use Rattle.ob_types.specs.declared.typed.TypedExpr.{size-TypedExpr}
use Rattle.ob_types.specs.TypedView.{expr_view}
use Rattle.ob_scheme.specs.Context.{Context}
use Rattle.ob_scheme.specs.Coded.{Coded, appended, place_in}
use Rattle.ob_scheme.specs.Expressions.{expr_code}
use Rattle.ob_gexpr.specs.Chains.{with_operator, outward}
use Rattle.ob_gexpr.proofs.exprs.operators_of.Given as goal

-- what stands in front of here, and behind it the operators so far, are the whole
abbrev pub invariant-links : goal.invariant-links
invariant-links l = record {
  within : All (λ p. size-TypedExpr p.1.now ≤ size-TypedExpr l.e) l.links.items;
  no_deeper : size-TypedExpr l.rest ≤ size-TypedExpr l.e;
  whole : (c : Context) (k : Coded) → outward (λ p. with_operator c p.0 (expr_view p.1.now)) l.links.items (appended k (expr_code c l.wanted (expr_view l.rest) (place_in k))) ≡ appended k (expr_code c l.fn.want (expr_view l.e) (place_in k));
}

abbrev pub decreases-links : goal.decreases-links
decreases-links l = size-TypedExpr l.rest
