use Rattle.std.proofs.Common.{subst}
use Rattle.ob_machine_image.specs.Whole.{IsImage}
use Rattle.ob_machine_image.proofs.Whole.{few_types}
use Rattle.ob_machine_image.proofs.image.Image.types.Goals as goal

pub returns-clause-few : goal.returns-clause-few
returns-clause-few c = few_types c.args.self.now (subst IsImage c.self.view_is c.self.invariant)
