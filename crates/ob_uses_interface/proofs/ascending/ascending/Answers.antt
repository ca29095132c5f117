use Rattle.std.proofs.Common.{ap, ◌∙◌, map}
use Rattle.ob_uses_interface.proofs.ascending.ascending.Goals as goal

pub returns : goal.returns
returns c = c.in_ok-objects.ensures ∙ ap (map (λ e. e.object)) c.in_ok-set.ensures
