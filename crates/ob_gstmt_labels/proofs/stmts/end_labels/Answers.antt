use Rattle.std.proofs.Common.{sym, ◌∙◌}
use Rattle.std.proofs.lemmas.Result.{IfOk-weaker}
use Rattle.ob_gstmt_labels.proofs.Behinds.{labels_behind}
use Rattle.ob_gstmt_labels.proofs.stmts.end_labels.Goals as goal

pub returns : goal.returns
returns g c = IfOk-weaker c.behind_labels.result _ _ (λ n h. h ∙ sym (labels_behind (g.S.Scope.context c.args.scope.now) c.args.labels.now c.args.pc)) c.behind_labels.ensures
