use Rattle.std.proofs.Common.{◌≡◌, take}
use Rattle.ob_types_trees.proofs.copies.copy_fields.Given as goal

abbrev pub invariant-fields : goal.invariant-fields
invariant-fields l = l.all ≡ take l.field-index l.fields
