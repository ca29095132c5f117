use Rattle.std.proofs.Common.{ap, ◌∙◌}
use Rattle.ob_obj.specs.Images.{linked_type}
use Rattle.ob_machine_image.proofs.types.Types.linked.Goals as goal

pub returns : goal.returns
returns c = c.get.ensures ∙ c.self.invariant.3 c.args.name.now ∙ ap (λ l. linked_type l c.args.name.now) c.self.view_is
