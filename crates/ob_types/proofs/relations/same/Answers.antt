use Rattle.std.proofs.Common.{sym, ◌∙◌}
use Rattle.ob_types.proofs.Sameness.{same_decides}
use Rattle.ob_types.proofs.relations.same.Goals as goal

pub returns : goal.returns
returns g c =
    let d = same_decides (g.T.Types.types c.args.types.now) c.requires.grounded c.args.a.now c.args.b.now c.requires.first c.requires.second in
    (λ e. d.0 (sym c.is_same_at.ensures ∙ e), λ s. c.is_same_at.ensures ∙ d.1 s)
