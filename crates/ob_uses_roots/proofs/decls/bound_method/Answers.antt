use Rattle.std.proofs.Common.{ap, ◌∙◌}
use Rattle.ob_layout.specs.Members.{method_in}
use Rattle.ob_uses_roots.proofs.decls.bound_method.Goals as goal

pub returns : goal.returns
returns g c = c.method_of.ensures ∙ ap (method_in (g.T.Types.types c.args.types.now) c.args.bound.now.family.owner) c.name.ensures
