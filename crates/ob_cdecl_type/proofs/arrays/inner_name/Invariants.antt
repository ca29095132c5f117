use Rattle.std.proofs.Common.{◌≡◌, length, map}
use Rattle.ob_rules.specs.Expressions.{phrase_of}
use Rattle.ob_cdecl_type.specs.Nested.{deep_name}
use Rattle.ob_cdecl_type.proofs.arrays.inner_name.Given as goal

abbrev pub invariant-lengths : goal.invariant-lengths
invariant-lengths l = deep_name l.all.items (map phrase_of l.rest) ≡ deep_name l.name (map phrase_of l.lengths)

abbrev pub decreases-lengths : goal.decreases-lengths
decreases-lengths l = length l.rest
