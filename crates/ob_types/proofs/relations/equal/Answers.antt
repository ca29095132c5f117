use Rattle.std.proofs.Common.{sym, ◌∙◌, arith}
use Rattle.ob_types.proofs.Equals.{equal_sound, equal_complete}
use Rattle.ob_types.proofs.relations.equal.Goals as goal

pub returns : goal.returns
returns g c = (
  λ e. equal_sound (g.T.Types.types c.args.types.now) c.requires.grounded 201 c.args.a.now c.args.b.now c.requires.first c.requires.second (sym c.equal_within.ensures ∙ e),
  λ s. c.equal_within.ensures ∙ equal_complete (g.T.Types.types c.args.types.now) c.requires.grounded 201 c.args.a.now c.args.b.now (omega arith) c.requires.first c.requires.second (c.requires.grounded.chains c.args.a.now c.requires.first) s,
)
