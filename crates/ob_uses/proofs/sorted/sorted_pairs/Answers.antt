use Rattle.std.proofs.Common.{◌∙◌}
use Rattle.std.proofs.lemmas.List.Filters.{dedup_is}
use Rattle.ob_uses.specs.Order.{pairs_total}
use Rattle.ob_uses.proofs.SamePairs.{pair_same}
use Rattle.ob_uses.proofs.Sorting.{sorted_is}
use Rattle.ob_uses.proofs.sorted.sorted_pairs.Goals as goal

pub returns : goal.returns
returns c = dedup_is _ _ _ c.dedup.ensures.filtered ∙ sorted_is pairs_total pair_same c.args.found.items _ c.in_ok-sort.ensures.permutation c.in_ok-sort.ensures.sorted
