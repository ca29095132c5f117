use Rattle.std.proofs.Common.{true, ◌++◌, map, ap, ◌∙◌}
use Rattle.ob_types.specs.Maps.{listed}
use Rattle.ob_uses.specs.Objects.{formal_of}
use Rattle.ob_uses.specs.Ways.{type_names}
use Rattle.ob_uses.proofs.Leading.{names_two}
use Rattle.ob_uses_interface.proofs.starts.start_heading.Goals as goal

pub returns : goal.returns
returns c =
    names_two true c.args.own.now (map (λ p. p.1) (map formal_of c.args.procedure.now.parameters)) (listed c.args.procedure.now.result) c.args.left.now.items c.start_parameters.new.left.items c.add_optional.new.left.items
    (c.in_ok-start_parameters.ensures ∙ ap (λ l. c.args.left.now.items ++ type_names true c.args.own.now (map (λ p. p.1) (map formal_of l))) c.as_slice-parameters.ensures) c.in_ok-add_optional.ensures
