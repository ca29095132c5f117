use Rattle.std.proofs.Common.{◌≡◌, subst, arith}
use Rattle.ob_types.specs.declared.typed.Designator.TheViews.{sized-Index}
use Rattle.ob_types.specs.TypedView.{expr_view}
use Rattle.ob_gproc_operands.specs.Nowhere.{passed}
use Rattle.ob_gproc_length.specs.Lengths.{capped, expr_lines}
use Rattle.ob_gproc_length.proofs.Chains.{index_turn}
use Rattle.ob_gproc_length.proofs.Turns.{actuals_turn, actuals_over}
use Rattle.ob_gproc_length.proofs.exprs.+expr_lines.Goals as goal

pub lines_of_actuals-actuals-preserved : goal.lines_of_actuals-actuals-preserved
lines_of_actuals-actuals-preserved g t c =
    let types = g.T.Types.types c.args.types.now in (
      actuals_turn types c.args.actuals.now c.actuals.actual-index c.actual-item.result c.actuals.lines c.lines_of_actual.result c.more-lines.result _ c.actuals-test.true
          (subst (λ y. c.lines_of_actual.result ≡ capped (expr_lines types (passed y.passing) (expr_view y.value))) c.actual-item.is c.lines_of_actual.ensures)
          c.more-lines.ensures c.actuals.invariant.0,
      omega arith,
    )

pub lines_of_actuals-returns : goal.lines_of_actuals-returns
lines_of_actuals-returns g t c =
    actuals_over (g.T.Types.types c.args.types.now) c.args.actuals.now c.actuals.actual-index c.actuals.lines _ c.actuals-test.false c.actuals.invariant.1 c.actuals.invariant.0

-- a step past an index: the size of what it stands on is told by that of the whole
pub lines_of_designator-selectors-preserved-in-Index : goal.lines_of_designator-selectors-preserved-in-Index
lines_of_designator-selectors-preserved-in-Index g t c = (
  index_turn _ _ _ _ _ _ _ _ _ _ _ _ _ _ _ _ _ c.in-Index.is c.get-rest-in-Index.ensures c.get.ensures c.want_for_index-wanted.ensures c.more-lines-in-Index.ensures c.more-in-Index.ensures
      c.place_size-in-Index.ensures.is c.lines_of_expr-at.ensures c.selectors.invariant.0,
  grind (arith, sized-Index, c.in-Index.is, c.get-rest-in-Index.ensures, c.selectors.invariant.1),
)
