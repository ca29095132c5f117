use Rattle.std.proofs.Common.{◌≡◌, drop}
use Rattle.ob_types.specs.declared.value.Value.TheVariants as literal
use Rattle.ob_rules.specs.Operators as spec
use Rattle.ob_cexpr_operator.proofs.sets.constant_of.Given as goal

abbrev pub invariant-elements : goal.invariant-elements
invariant-elements l = spec.all_constant (literal.Set 0) l.elements ≡ spec.all_constant l.all (drop l.element-index l.elements)
