use Rattle.std.proofs.Common.{sym, ◌∙◌, map}
use Rattle.ob_rules.specs.Designators.{type_in_round}
use Rattle.ob_rules.specs.Expressions as spec
use Rattle.ob_rules.specs.declared.meant.Meant.TheVariants as means
use Rattle.ob_cexpr_arguments.proofs.RoundLaws.{same_left, guarded_is, bound_opens}
use Rattle.ob_cexpr_arguments.proofs.opening.behind_bound.Goals as goal

pub returns-in-None : goal.returns-in-None
returns-in-None g c = λ w.
    let u = g.S.Surroundings.around c.args.here.now in
    let ps = map spec.phrase_of c.args.arguments.now in
    let q = type_in_round u ps in
    same_left _ _ _ c.args.book.now c.bound_callable.new.book (guarded_is u w c.args.start c.args.at (means.Bound c.args.chosen) ps q)
    (bound_opens u w c.args.start c.args.at c.args.chosen ps q c.bound_callable.result c.args.book.now c.bound_callable.new.book (sym c.in-None.is ∙ c.type_in_round.ensures) (c.bound_callable.ensures w ps))
