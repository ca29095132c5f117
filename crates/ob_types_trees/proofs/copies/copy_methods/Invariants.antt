use Rattle.std.proofs.Common.{◌≡◌, take}
use Rattle.ob_types_trees.proofs.copies.copy_methods.Given as goal

abbrev pub invariant-methods : goal.invariant-methods
invariant-methods l = l.all ≡ take l.method-index l.methods
