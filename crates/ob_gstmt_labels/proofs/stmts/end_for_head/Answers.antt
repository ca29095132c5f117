use Rattle.std.proofs.Common.{rules}
use Rattle.std.proofs.lemmas.Result.{IfOk-weaker}
use Rattle.ob_types.specs.TypedView.{expr_view}
use Rattle.ob_gstmt_labels.proofs.For.{for_head_ends}
use Rattle.ob_gstmt_labels.proofs.stmts.end_for_head.Goals as goal

pub returns : goal.returns
returns g c = IfOk-weaker c.end_for_test.result _ _ (λ n h. for_head_ends (g.S.Scope.context c.args.scope.now) c.args.variable.now (expr_view c.args.start.now) (expr_view c.args.limit.now) c.args.pc c.in_ok-first.first c.in_ok-limited.limited c.in_ok-placed.placed c.in_ok-begun.begun c.in_ok-again.again n c.in_ok-first.ensures c.in_ok-limited.ensures (search rules) c.in_ok-begun.ensures c.in_ok-again.ensures h) c.end_for_test.ensures
