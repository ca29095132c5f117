use Rattle.std.proofs.Common.{◌∙◌}
use Rattle.ob_cmp.proofs.Seen.{none_there, one_there}
use Rattle.ob_make.proofs.staleness.present.Goals as goal

pub returns-in-None : goal.returns-in-None
returns-in-None c = none_there c.args.face.now c.args.of.now.object c.args.of.now.aspect c.in-None.ensures

pub returns-in-Some : goal.returns-in-Some
returns-in-Some c = c.carried.ensures ∙ one_there c.args.face.now c.args.of.now.object c.args.of.now.aspect c.in-Some.object.now c.requires.fits c.requires.named c.in-Some.ensures
