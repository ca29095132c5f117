use Rattle.std.proofs.Common.{◌≡◌, refl, sym, ap, ◌∙◌, map}
use Rattle.ob_obj.specs.Grammar.{by_number}
use Rattle.ob_layout.specs.Lists.{in_order}
use Rattle.ob_gproc_tables.specs.Ordered.{by_defined, of_definition, to_definition}
use Rattle.ob_layout.proofs.Putting.{order_each, same_each}
use Rattle.ob_gproc_tables.proofs.order.definitions_in_order.Goals as goal

pub returns : goal.returns
returns c =
    c.in_ok-list.ensures ∙ ap (map to_definition) (c.in_ok-set.ensures ∙ ap (in_order by_defined) c.in_ok-items.ensures)
    ∙ sym (order_each by_defined by_number to_definition (λ x y. refl) (map of_definition c.args.found.now)) ∙ ap (in_order by_number) (same_each to_definition of_definition (λ y. refl) c.args.found.now)
