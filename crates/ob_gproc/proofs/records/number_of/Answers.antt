use Rattle.std.proofs.Common.{sym, ap, ◌∙◌}
use Rattle.std.specs.Prelude.{unwrap_or}
use Rattle.ob_layout.specs.Members.{method_number_in}
use Rattle.ob_scheme.proofs.Descriptions.{method_number_is}
use Rattle.ob_gproc.proofs.records.number_of.Goals as goal

pub returns : goal.returns
returns g c =
    let types = g.T.Types.types c.args.scope.now.types.now in
    let family = c.args.binding.now.family in
    c.unwrap_or.ensures ∙ ap (λ o. unwrap_or o 0) (c.method_number.ensures ∙ ap (method_number_in types family.owner) c.name.ensures) ∙ sym (method_number_is types family.owner family.name)
