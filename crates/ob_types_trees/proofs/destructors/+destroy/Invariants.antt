use Rattle.std.proofs.Common.{◌≤◌}
use Rattle.ob_types.specs.declared.typed.Designator.{size-Designator}
use Rattle.ob_types.specs.declared.typed.TypedExpr.{size-TypedExpr}
use Rattle.ob_types_trees.proofs.destructors.+destroy.Given as goal

abbrev pub invariant-destroy_designator-loop-rest : goal.invariant-destroy_designator-loop-rest
invariant-destroy_designator-loop-rest l = size-Designator l.rest ≤ size-Designator l.initial.rest

abbrev pub invariant-destroy_expr-loop-rest : goal.invariant-destroy_expr-loop-rest
invariant-destroy_expr-loop-rest l = size-TypedExpr l.rest ≤ size-TypedExpr l.initial.rest
