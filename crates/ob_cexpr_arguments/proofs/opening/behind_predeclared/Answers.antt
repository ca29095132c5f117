use Rattle.std.proofs.Common.{sym, ◌∙◌, map}
use Rattle.std.proofs.lemmas.Result.{IfOk-weaker}
use Rattle.ob_rules.specs.Expressions as spec
use Rattle.ob_cexpr_arguments.proofs.RoundLaws.{same_left, predeclared_is}
use Rattle.ob_cexpr_arguments.proofs.opening.behind_predeclared.Goals as goal

pub returns-in-None : goal.returns-in-None
returns-in-None g c =
    let u = g.S.Surroundings.around c.args.here.now in
    let ps = map spec.phrase_of c.args.arguments.now in
    IfOk-weaker c.unless_guard.result _ _ (λ r h w start. same_left _ _ _ c.args.book.now c.unless_guard.new.book (predeclared_is u w start c.args.at ps c.args.procedure (sym c.in-None.is ∙ c.extreme_kind.ensures)) (h w start)) c.unless_guard.ensures
