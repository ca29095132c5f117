use Rattle.std.proofs.Common.{sym, ◌∙◌}
use Rattle.ob_types.specs.TypedView.{expr_view}
use Rattle.ob_types_assign.proofs.Assigns.{takes_sound, takes_complete}
use Rattle.ob_types_assign.proofs.assigning.assignable.Goals as goal

pub returns : goal.returns
returns g c = (
  λ e. takes_sound (g.T.Types.types c.args.types.now) c.requires.grounded c.args.target.now (expr_view c.args.value.now) c.requires.target c.requires.value (sym c.value_fits.ensures ∙ e),
  λ s. c.value_fits.ensures ∙ takes_complete (g.T.Types.types c.args.types.now) c.requires.grounded c.args.target.now (expr_view c.args.value.now) c.requires.target c.requires.value s,
)
