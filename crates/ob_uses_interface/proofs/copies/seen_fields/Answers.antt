use Rattle.std.proofs.Common.{refl, sym, ap, ◌∙◌, map}
use Rattle.std.specs.List.{filter}
use Rattle.ob_types.specs.declared.desc.Field.{Field}
use Rattle.ob_desc.specs.Grammar.{is_shown, by_place}
use Rattle.ob_layout.specs.Lists.{in_order}
use Rattle.ob_layout.proofs.Putting.{order_each, same_each}
use Rattle.ob_uses_interface.specs.Placed.{by_placed, to_field, as_placed}
use Rattle.ob_uses_interface.proofs.copies.seen_fields.Goals as goal

pub returns : goal.returns
returns c =
    c.in_ok-fields.ensures
    ∙ ap (λ l. filter (λ (f : Field). is_shown f.mark) (map to_field l)) (c.in_ok-set.ensures ∙ ap (in_order by_placed) c.in_ok-found.ensures)
    ∙ ap (filter (λ (f : Field). is_shown f.mark)) (sym (order_each by_placed by_place to_field (λ x y. refl) (map as_placed c.args.fields.now)) ∙ ap (in_order by_place) (same_each to_field as_placed (λ y. refl) c.args.fields.now))
