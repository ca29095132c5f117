use Rattle.ob_gstmt.proofs.StmtPuts.{labels_turn, labels_over}
use Rattle.ob_gstmt.proofs.choices.put_labels.Goals as goal

pub labels-preserved : goal.labels-preserved
labels-preserved g c =
    labels_turn (g.S.Scope.context c.args.scope.now) c.args.word c.args.labels.now c.labels.label-index _ c.args.body c.labels.code c.put_label.new.code _ c.labels-test.true c.in_ok-put_label.ensures c.labels.invariant

pub returns : goal.returns
returns g c = labels_over (g.S.Scope.context c.args.scope.now) c.args.word c.args.labels.now c.labels.label-index c.args.body c.labels.code _ c.labels-test.false c.labels.invariant
