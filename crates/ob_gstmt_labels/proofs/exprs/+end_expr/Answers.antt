use Rattle.std.proofs.Common.{◌≡◌, subst}
use Rattle.ob_types.specs.TypedView.{expr_view}
use Rattle.ob_scheme.specs.Context.{words}
use Rattle.ob_scheme.specs.Expressions.{wanted, end_expr}
use Rattle.ob_gstmt_labels.proofs.Chains.{field_within, index_within, deref_within, guard_within, binary_within, logical_within, field_turn, index_turn, deref_turn, guard_turn, binary_turn, logical_turn}
use Rattle.ob_gstmt_labels.proofs.Turns.{actuals_turn, actuals_over}
use Rattle.ob_gstmt_labels.proofs.exprs.+end_expr.Goals as goal

pub end_actuals-actuals-preserved : goal.end_actuals-actuals-preserved
end_actuals-actuals-preserved g t c =
    let x = g.S.Scope.context c.args.scope.now in
    actuals_turn x c.args.actuals.now c.actuals.actual-index c.actual-item.result c.actuals.end c.in_ok-end.end _ c.actuals-test.true
    (subst (λ y. c.in_ok-end.end ≡ end_expr x (wanted (words x) y.passing y.formal) (expr_view y.value) c.actuals.end) c.actual-item.is c.in_ok-end.ensures)
    c.actuals.invariant

pub end_actuals-returns : goal.end_actuals-returns
end_actuals-returns g t c =
    actuals_over (g.S.Scope.context c.args.scope.now) c.args.actuals.now c.actuals.actual-index c.actuals.end _ c.actuals-test.false c.actuals.invariant

pub end_designator-selectors-preserved-in-Field : goal.end_designator-selectors-preserved-in-Field
end_designator-selectors-preserved-in-Field g t c = record {
  no_deeper = field_within c.selectors.rest.now c.in-Field.inner c.get-rest.result.now c.in-Field.owner c.in-Field.name c.in-Field.of _ c.in-Field.is c.get-rest.ensures c.selectors.invariant.no_deeper;
  ends = field_turn (g.S.Scope.context c.args.scope.now) c.selectors.wanted c.selectors.rest.now c.in-Field.inner c.get-rest.result.now c.in-Field.owner c.in-Field.name c.in-Field.of c.selectors.end c.place_size.result c.in_ok-end-in-Field.end _ c.in-Field.is c.get-rest.ensures c.in_ok-end-in-Field.ensures c.place_size.ensures.is c.selectors.invariant.ends;
}

pub end_designator-selectors-preserved-in-Index : goal.end_designator-selectors-preserved-in-Index
end_designator-selectors-preserved-in-Index g t c = record {
  no_deeper = index_within c.selectors.rest.now c.in-Index.inner c.get-rest-in-Index.result.now c.in-Index.length c.in-Index.index c.in-Index.pos c.in-Index.of _ c.in-Index.is c.get-rest-in-Index.ensures c.selectors.invariant.no_deeper;
  ends = index_turn (g.S.Scope.context c.args.scope.now) c.selectors.wanted c.want_for_index-wanted.result c.selectors.rest.now c.in-Index.inner c.get-rest-in-Index.result.now c.in-Index.length c.in-Index.index c.get.result.now c.in-Index.pos c.in-Index.of c.selectors.end c.in_ok-line-in-Index.line c.place_size-in-Index.result c.in_ok-end-in-Index.end _ c.in-Index.is c.get-rest-in-Index.ensures c.get.ensures c.want_for_index-wanted.ensures c.in_ok-end-in-Index.ensures c.place_size-in-Index.ensures.is c.in_ok-line-in-Index.ensures c.selectors.invariant.ends;
}

pub end_designator-selectors-preserved-in-Deref : goal.end_designator-selectors-preserved-in-Deref
end_designator-selectors-preserved-in-Deref g t c = record {
  no_deeper = deref_within c.selectors.rest.now c.in-Deref.inner c.get-rest-in-Deref.result.now c.in-Deref.pos c.in-Deref.of _ c.in-Deref.is c.get-rest-in-Deref.ensures c.selectors.invariant.no_deeper;
  ends = deref_turn (g.S.Scope.context c.args.scope.now) c.selectors.wanted c.selectors.rest.now c.in-Deref.inner c.get-rest-in-Deref.result.now c.in-Deref.pos c.in-Deref.of c.selectors.end c.in_ok-lines-in-Deref.lines c.in_ok-end-in-Deref.end _ c.in-Deref.is c.get-rest-in-Deref.ensures c.in_ok-end-in-Deref.ensures c.in_ok-lines-in-Deref.ensures.is c.selectors.invariant.ends;
}

pub end_designator-selectors-preserved : goal.end_designator-selectors-preserved
end_designator-selectors-preserved g t c = record {
  no_deeper = guard_within c.selectors.rest.now c.in-Guard.inner c.get-rest-in-Guard.result.now c.in-Guard.guarded c.in-Guard.target c.in-Guard.pos c.in-Guard.of _ c.in-Guard.is c.get-rest-in-Guard.ensures c.selectors.invariant.no_deeper;
  ends = guard_turn (g.S.Scope.context c.args.scope.now) c.selectors.wanted c.want_for_guard-wanted.result c.selectors.rest.now c.in-Guard.inner c.get-rest-in-Guard.result.now c.in-Guard.guarded c.in-Guard.target c.in-Guard.pos c.in-Guard.of c.selectors.end c.guard_size.result c.in_ok-end-in-Guard.end _ c.in-Guard.is c.get-rest-in-Guard.ensures c.want_for_guard-wanted.ensures c.in_ok-end-in-Guard.ensures c.guard_size.ensures.is c.selectors.invariant.ends;
}

pub end_expr-operators-preserved-in-Binary : goal.end_expr-operators-preserved-in-Binary
end_expr-operators-preserved-in-Binary g t c = record {
  no_deeper = binary_within c.operators.rest.now c.in-Binary.left c.get-rest.result.now c.in-Binary.right c.in-Binary.op c.in-Binary.pos _ c.in-Binary.is c.get-rest.ensures c.operators.invariant.no_deeper;
  ends = binary_turn (g.S.Scope.context c.args.scope.now) c.operators.wanted c.operators.rest.now c.in-Binary.left c.get-rest.result.now c.in-Binary.right c.get-in-Binary.result.now c.in-Binary.op c.in-Binary.pos c.operators.end c.in_ok-line-in-Binary.line c.in_ok-end-in-Binary.end _ c.in-Binary.is c.get-rest.ensures c.get-in-Binary.ensures c.in_ok-end-in-Binary.ensures c.in_ok-line-in-Binary.ensures c.operators.invariant.ends;
}

pub end_expr-operators-preserved : goal.end_expr-operators-preserved
end_expr-operators-preserved g t c = record {
  no_deeper = logical_within c.operators.rest.now c.in-Logical.left c.get-rest-in-Logical.result.now c.in-Logical.right c.in-Logical.connective _ c.in-Logical.is c.get-rest-in-Logical.ensures c.operators.invariant.no_deeper;
  ends = logical_turn (g.S.Scope.context c.args.scope.now) c.operators.wanted c.operators.rest.now c.in-Logical.left c.get-rest-in-Logical.result.now c.in-Logical.right c.get-in-Logical.result.now c.in-Logical.connective c.operators.end c.between.result c.in_ok-start-in-Logical.start c.in_ok-behind-in-Logical.behind c.joined.result c.in_ok-end-in-Logical.end _ c.in-Logical.is c.get-rest-in-Logical.ensures c.get-in-Logical.ensures c.in_ok-end-in-Logical.ensures c.joined.ensures c.in_ok-behind-in-Logical.ensures c.in_ok-start-in-Logical.ensures c.between.ensures c.operators.invariant.ends;
}
