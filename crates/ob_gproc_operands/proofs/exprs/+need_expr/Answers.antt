use Rattle.std.proofs.Common.{arith}
use Rattle.ob_types.specs.declared.typed.Designator.TheViews.{sized-Index}
use Rattle.ob_gproc_operands.proofs.Chains.{index_turn}
use Rattle.ob_gproc_operands.proofs.exprs.+need_expr.Goals as goal

-- a step past an index: the size of what it stands on is told by that of the whole
pub operands_of_designator-selectors-preserved-in-Index : goal.operands_of_designator-selectors-preserved-in-Index
operands_of_designator-selectors-preserved-in-Index t c = (
  index_turn _ _ _ _ _ _ _ _ _ _ _ _ _ _ _ _ _ _ c.in-Index.is c.get-rest-in-Index.ensures c.get.ensures c.want_for_index-wanted.ensures c.larger-need-in-Index.ensures c.above.ensures
      c.operands_of-in-Index.ensures c.operands_of_expr-at.ensures c.larger-need.ensures c.operands_of.ensures c.selectors.invariant.0,
  grind (arith, sized-Index, c.in-Index.is, c.get-rest-in-Index.ensures, c.selectors.invariant.1),
)
