use Rattle.std.proofs.Common.{◌≡◌, refl, sym, ap, ◌∙◌, map}
use Rattle.ob_obj.specs.Grammar.{by_variable}
use Rattle.ob_layout.specs.Lists.{in_order}
use Rattle.ob_gproc_tables.specs.Ordered.{by_named, of_variable, to_variable}
use Rattle.ob_layout.proofs.Putting.{order_each, same_each}
use Rattle.ob_gproc_tables.proofs.order.variables_in_order.Goals as goal

pub returns : goal.returns
returns c =
    c.in_ok-list.ensures ∙ ap (map to_variable) (c.in_ok-set.ensures ∙ ap (in_order by_named) c.in_ok-items.ensures)
    ∙ sym (order_each by_named by_variable to_variable (λ x y. refl) (map of_variable c.args.found.now)) ∙ ap (in_order by_variable) (same_each to_variable of_variable (λ y. refl) c.args.found.now)
