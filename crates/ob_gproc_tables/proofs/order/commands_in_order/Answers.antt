use Rattle.std.proofs.Common.{◌≡◌, refl, sym, ap, ◌∙◌, map}
use Rattle.ob_obj.specs.Grammar.{by_command}
use Rattle.ob_layout.specs.Lists.{in_order}
use Rattle.ob_gproc_tables.specs.Ordered.{by_named, of_command, to_command}
use Rattle.ob_layout.proofs.Putting.{order_each, same_each}
use Rattle.ob_gproc_tables.proofs.order.commands_in_order.Goals as goal

pub returns : goal.returns
returns c =
    c.in_ok-list.ensures ∙ ap (map to_command) (c.in_ok-set.ensures ∙ ap (in_order by_named) c.in_ok-items.ensures)
    ∙ sym (order_each by_named by_command to_command (λ x y. refl) (map of_command c.args.found.now)) ∙ ap (in_order by_command) (same_each to_command of_command (λ y. refl) c.args.found.now)
