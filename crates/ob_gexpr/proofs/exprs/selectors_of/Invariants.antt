use Rattle.std.proofs.Common.{◌≡◌, ◌≤◌}
use Rattle.std.specs.List.{All}
use Rattle.ob_types.specs.declared.typed.Designator.{size-Designator}
use Rattle.ob_types.specs.TypedView.{designator_view}
use Rattle.ob_scheme.specs.Context.{Context}
use Rattle.ob_scheme.specs.Coded.{Coded, appended, place_in}
use Rattle.ob_scheme.specs.Expressions.{desig_code}
use Rattle.ob_gexpr.specs.Chains.{with_selector, outward}
use Rattle.ob_gexpr.proofs.exprs.selectors_of.Given as goal

-- what stands in front of here, and behind it the selectors so far, are the whole
abbrev pub invariant-links : goal.invariant-links
invariant-links l = record {
  within : All (λ p. size-Designator p.1.now ≤ size-Designator l.d) l.links.items;
  no_deeper : size-Designator l.rest ≤ size-Designator l.d;
  whole : (c : Context) (k : Coded) → outward (λ p. with_selector c p.0 (designator_view p.1.now)) l.links.items (appended k (desig_code c l.wanted (designator_view l.rest) (place_in k))) ≡ appended k (desig_code c l.fn.want (designator_view l.d) (place_in k));
}
