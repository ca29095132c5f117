use Rattle.std.proofs.Common.{◌≡◌, ℕ, ◌+◌, ◌*◌, ◌≤◌, drop}
use Rattle.std.specs.Prelude.{nat_le, ◌&&◌}
use Rattle.std.specs.List.{list_all}
use Rattle.ob_rules.specs.Depth.{is_within}
use Rattle.ob_cdecl_bound.specs.Heights.{AreHeights}
use Rattle.ob_cdecl_bound.proofs.depth.+heights.Given as goal

abbrev pub decreases-height_within : goal.decreases-height_within
decreases-height_within g l = 3 * l.left + 1

abbrev pub decreases-named_height : goal.decreases-named_height
decreases-named_height g l = 3 * l.left

abbrev pub decreases-heights : goal.decreases-heights
decreases-heights g l = 3 * l.left + 2

abbrev pub invariant-heights-parts : goal.invariant-heights-parts
invariant-heights-parts g l = record {
  known : AreHeights (g.T.Types.types l.types) l.known;
  most : (n : ℕ) → list_all (λ t. is_within (g.T.Types.types l.types) n t) l.parts ≡ nat_le l.most n && list_all (λ t. is_within (g.T.Types.types l.types) n t) (drop l.part-index l.parts);
  within : l.most ≤ l.left;
}
