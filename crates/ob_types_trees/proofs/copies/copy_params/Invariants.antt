use Rattle.std.proofs.Common.{◌≡◌, take}
use Rattle.ob_types_trees.proofs.copies.copy_params.Given as goal

abbrev pub invariant-params : goal.invariant-params
invariant-params l = l.all ≡ take l.param-index l.params
