use Rattle.std.proofs.Common.{◌∙◌, ◌-◌, ◌≤◌, sym, arith}
use Rattle.std.proofs.lemmas.Result.{err_from_is_err_and}
use Rattle.ob_tree.specs.declared.symbol.Symbol.TheVariants as s
use Rattle.ob_parse_grammar.specs.Phrase.{AnExpr, Negated, many, nest}
use Rattle.ob_parse_grammar.specs.Expressions as spec
use Rattle.ob_parse_grammar.specs.Grammar.{reads}
use Rattle.ob_parse_grammar.proofs.Loops.{on_turn, join_turn, deeper, next_starts}
use Rattle.ob_parse_expr.proofs.Turns.{relates_on, takes_further, takes_mul, takes_add, takes_selector, takes_expr, takes_element, further_starts, mul_starts, add_starts, goes_on, compares_on, fails_on, alone}
use Rattle.ob_parse_expr.proofs.expr.+expr.Goals as goal

pub further_indexes-more-smaller : goal.further_indexes-more-smaller
further_indexes-more-smaller t c = (takes_further c.args.levels).falls c.more.tokens _ c.further_index.new.tokens (further_starts c.more.tokens ∙ sym c.sees.ensures ∙ c.more-test.true) c.in_ok-x.ensures

pub further_indexes-more-preserved : goal.further_indexes-more-preserved
further_indexes-more-preserved t c = rw c.in_ok-push.ensures.ok
    (on_turn c.args.levels spec.further_index (takes_further c.args.levels) (reads c.args.levels (many spec.further_index) c.args.tokens.now) c.more.found c.more.tokens _ c.further_index.new.tokens
    c.more.invariant (further_starts c.more.tokens ∙ sym c.sees.ensures ∙ c.more-test.true) c.in_ok-x.ensures)

pub mul_tails-more-smaller : goal.mul_tails-more-smaller
mul_tails-more-smaller t c = (takes_mul c.args.levels).falls c.more.tokens _ c.mul_tail.new.tokens (mul_starts c.more.tokens ∙ sym c.sees_mul_op.ensures ∙ c.more-test.true) c.in_ok-x.ensures

pub mul_tails-more-preserved : goal.mul_tails-more-preserved
mul_tails-more-preserved t c = rw c.in_ok-push.ensures.ok
    (on_turn c.args.levels spec.mul_tail (takes_mul c.args.levels) (reads c.args.levels (many spec.mul_tail) c.args.tokens.now) c.more.found c.more.tokens _ c.mul_tail.new.tokens
    c.more.invariant (mul_starts c.more.tokens ∙ sym c.sees_mul_op.ensures ∙ c.more-test.true) c.in_ok-x.ensures)

pub add_tails-more-smaller : goal.add_tails-more-smaller
add_tails-more-smaller t c = (takes_add c.args.levels).falls c.more.tokens _ c.add_tail.new.tokens (add_starts c.more.tokens ∙ sym c.sees_add_op.ensures ∙ c.more-test.true) c.in_ok-x.ensures

pub add_tails-more-preserved : goal.add_tails-more-preserved
add_tails-more-preserved t c = rw c.in_ok-push.ensures.ok
    (on_turn c.args.levels spec.add_tail (takes_add c.args.levels) (reads c.args.levels (many spec.add_tail) c.args.tokens.now) c.more.found c.more.tokens _ c.add_tail.new.tokens
    c.more.invariant (add_starts c.more.tokens ∙ sym c.sees_add_op.ensures ∙ c.more-test.true) c.in_ok-x.ensures)

pub exprs-more-smaller : goal.exprs-more-smaller
exprs-more-smaller t c = (takes_expr c.args.levels).falls c.more.tokens _ c.next_expr.new.tokens (next_starts s.Comma (nest AnExpr) c.more.tokens ∙ sym c.sees.ensures ∙ c.more-test.true) c.in_ok-x.ensures

pub exprs-more-preserved : goal.exprs-more-preserved
exprs-more-preserved t c = rw c.in_ok-push-2.ensures.ok
    (on_turn c.args.levels (spec.next_of s.Comma (nest AnExpr)) (takes_expr c.args.levels) (reads c.args.levels spec.exprs c.args.tokens.now) c.more.found c.more.tokens _ c.next_expr.new.tokens
    c.more.invariant (next_starts s.Comma (nest AnExpr) c.more.tokens ∙ sym c.sees.ensures ∙ c.more-test.true) c.in_ok-x.ensures)

pub elements-more-smaller : goal.elements-more-smaller
elements-more-smaller t c = (takes_element c.args.levels).falls c.more.tokens _ c.next_element.new.tokens (next_starts s.Comma spec.element c.more.tokens ∙ sym c.sees.ensures ∙ c.more-test.true) c.in_ok-x.ensures

pub elements-more-preserved : goal.elements-more-preserved
elements-more-preserved t c = rw c.in_ok-push-2.ensures.ok
    (on_turn c.args.levels (spec.next_of s.Comma spec.element) (takes_element c.args.levels) (reads c.args.levels spec.elements c.args.tokens.now) c.more.found c.more.tokens _ c.next_element.new.tokens
    c.more.invariant (next_starts s.Comma spec.element c.more.tokens ∙ sym c.sees.ensures ∙ c.more-test.true) c.in_ok-x.ensures)

pub selectors-more-smaller : goal.selectors-more-smaller
selectors-more-smaller t c = (takes_selector c.args.levels).falls c.more.tokens _ c.selector.new.tokens (sym c.sees_selector.ensures ∙ c.more-test.true) c.in_ok-selector.ensures.1

pub selectors-more-preserved : goal.selectors-more-preserved
selectors-more-preserved t c = rw c.in_ok-selector.ensures.2
    (join_turn c.args.levels spec.selector (takes_selector c.args.levels) (reads c.args.levels (many spec.selector) c.args.tokens.now) c.more.found c.more.tokens _ c.selector.new.tokens
    c.more.invariant (sym c.sees_selector.ensures ∙ c.more-test.true) c.in_ok-selector.ensures.1)

pub nested_expr-returns-then-sees_sign : goal.nested_expr-returns-then-sees_sign
nested_expr-returns-then-sees_sign t c = let some : 1 ≤ c.args.levels = omega arith in rw (deeper c.args.levels AnExpr c.args.tokens.now some) c.expr.ensures

pub nested_expr-returns-in_err-read : goal.nested_expr-returns-in_err-read
nested_expr-returns-in_err-read t c =
    let some : 1 ≤ c.args.levels = omega arith in
    let p = err_from_is_err_and c.from_residual.result c.from_residual.ensures.1 in
    rw (deeper c.args.levels AnExpr c.args.tokens.now some, p.1, p.2)
    (fails_on (c.args.levels - 1) c.args.tokens.now c.in_err-read.field-0.0 c.in_err-read.ensures (sym c.sees_sign.ensures ∙ c.if-sees_sign.false))

pub nested_expr-returns-then-sees_mul_op : goal.nested_expr-returns-then-sees_mul_op
nested_expr-returns-then-sees_mul_op t c =
    let some : 1 ≤ c.args.levels = omega arith in
    rw (deeper c.args.levels AnExpr c.args.tokens.now some, goes_on (c.args.levels - 1) c.args.tokens.now c.factor-read.new.tokens c.in_ok-read.field-0 c.in_ok-read.ensures (sym c.sees_sign.ensures ∙ c.if-sees_sign.false)) c.expr_behind.ensures

pub nested_expr-returns-then-sees_relation : goal.nested_expr-returns-then-sees_relation
nested_expr-returns-then-sees_relation t c =
    let some : 1 ≤ c.args.levels = omega arith in
    rw (
      deeper c.args.levels AnExpr c.args.tokens.now some,
      compares_on (c.args.levels - 1) c.args.tokens.now c.factor-read.new.tokens c.in_ok-read-2.field-0 c.in_ok-read-2.ensures (sym c.sees_sign.ensures ∙ c.if-sees_sign.false)
          (sym c.sees_mul_op.ensures ∙ c.if-sees_mul_op.false) (sym c.sees_add_op.ensures ∙ c.if-sees_add_op.false) (sym c.sees_relation.ensures ∙ c.if-sees_relation.true),
    ) c.relate.ensures

pub nested_expr-returns-in_err-read-2 : goal.nested_expr-returns-in_err-read-2
nested_expr-returns-in_err-read-2 t c =
    let some : 1 ≤ c.args.levels = omega arith in
    let p = err_from_is_err_and c.from_residual-in_err-read-2.result c.from_residual-in_err-read-2.ensures.1 in
    rw (deeper c.args.levels AnExpr c.args.tokens.now some, p.1, p.2)
    (fails_on (c.args.levels - 1) c.args.tokens.now c.in_err-read-2.field-0.0 c.in_err-read-2.ensures (sym c.sees_sign.ensures ∙ c.if-sees_sign.false))

pub nested_expr-returns : goal.nested_expr-returns
nested_expr-returns t c =
    let some : 1 ≤ c.args.levels = omega arith in
    rw (deeper c.args.levels AnExpr c.args.tokens.now some)
    (alone (c.args.levels - 1) c.args.tokens.now c.factor-read.result c.factor-read.new.tokens c.factor-read.ensures (sym c.sees_sign.ensures ∙ c.if-sees_sign.false)
    (sym c.sees_mul_op.ensures ∙ c.if-sees_mul_op.false) (sym c.sees_add_op.ensures ∙ c.if-sees_add_op.false) (sym c.sees_relation.ensures ∙ c.if-sees_relation.false))

pub negated-returns : goal.negated-returns
negated-returns t c = let some : 1 ≤ c.args.levels = omega arith in rw (deeper c.args.levels Negated c.args.tokens.now some) c.negation.ensures

pub expr-returns-then-sees_relation : goal.expr-returns-then-sees_relation
expr-returns-then-sees_relation t c =
    rw (relates_on c.args.levels c.args.tokens.now c.simple.new.tokens _ c.in_ok-left.ensures (sym c.sees_relation.ensures ∙ c.if-sees_relation.true)) c.relate.ensures
