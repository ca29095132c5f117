use Rattle.std.proofs.Common.{sym, ◌∙◌}
use Rattle.ob_types.proofs.Equals.{matches_sound, matches_complete}
use Rattle.ob_types.proofs.relations.matches.Goals as goal

pub returns : goal.returns
returns g c = (
  λ e. matches_sound (g.T.Types.types c.args.types.now) c.requires.grounded c.args.a.now c.args.b.now c.requires.first c.requires.second (sym c.signatures_match.ensures ∙ e),
  λ s. c.signatures_match.ensures ∙ matches_complete (g.T.Types.types c.args.types.now) c.requires.grounded c.args.a.now c.args.b.now c.requires.first c.requires.second s,
)
