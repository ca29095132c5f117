-- Fields in the order of their places.
use Rattle.std.specs.Cmp.{IsTotalOrder}
use Rattle.std.specs.declared.cmp.Ordering.{Ordering}
use Rattle.std.proofs.lemmas.Cmp.{nat_list_cmp_total, nat_cmp_total, on_total, then_total}
use Rattle.ob_types.specs.declared.desc.Field.{Field}
use Rattle.ob_desc.specs.Grammar.{by_place}
use Rattle.ob_uses_interface.specs.declared.placed.Placed.{Placed}

abbrev pub by_placed : Placed → Placed → Ordering
by_placed a b = by_place a.field b.field

pub placed_total : IsTotalOrder by_placed
placed_total = then_total (on_total (λ p. p.field.place) nat_cmp_total) (on_total (λ p. p.field.name) nat_list_cmp_total)

abbrev pub to_field : Placed → Field
to_field p = p.field

abbrev pub as_placed : Field → Placed
as_placed f = record { field = f }
