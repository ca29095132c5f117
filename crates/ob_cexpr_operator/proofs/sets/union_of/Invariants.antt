use Rattle.std.proofs.Common.{◌≡◌}
use Rattle.ob_types.specs.declared.typed.TypedExpr.TheVariants as e
use Rattle.ob_types.specs.declared.value.Value.TheVariants as literal
use Rattle.ob_rules.specs.Operators as spec
use Rattle.ob_cexpr_operator.proofs.sets.union_of.Given as goal

abbrev pub invariant-elements : goal.invariant-elements
invariant-elements l = l.all.inner ≡ spec.union_of (e.Constant (literal.Set 0)) l.yielded
