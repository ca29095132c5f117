use Rattle.std.proofs.Common.{◌∙◌}
use Rattle.ob_link.specs.Walk.{most_deep}
use Rattle.ob_link.specs.Plan.{steps}
use Rattle.ob_link.specs.Files.{asks, object_entry}
use Rattle.ob_link.proofs.Steps.{walked_off, none_left}
use Rattle.ob_link.proofs.walking.walk_from.Goals as goal

pub returns-in-None-clause-walked : goal.returns-in-None-clause-walked
returns-in-None-clause-walked g c = λ told fs h. c.loop.invariant.walked told fs h ∙ walked_off (steps asks (object_entry (g.F.Shelf.files c.args.folder.now)) fs) most_deep c.loop.walk.path.items c.loop.walk.files (none_left c.loop.walk.path.items _ c.loop.walk.path.ok.0 c.in-None.ensures.cases.0)
