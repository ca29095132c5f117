use Rattle.std.proofs.Common.{sym, ◌∙◌}
use Rattle.ob_types.proofs.Climbs.{extends_sound, extends_complete}
use Rattle.ob_types.proofs.relations.extends.Goals as goal

pub returns : goal.returns
returns g c = (
  λ e. extends_sound (g.T.Types.types c.args.types.now) c.requires.grounded c.args.a.now c.args.b.now c.requires.first c.requires.second (sym c.extends_within.ensures ∙ e),
  λ s. c.extends_within.ensures ∙ extends_complete (g.T.Types.types c.args.types.now) c.requires.grounded c.args.a.now c.args.b.now c.requires.first c.requires.second s,
)
