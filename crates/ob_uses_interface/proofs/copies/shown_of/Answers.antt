use Rattle.std.proofs.Common.{map, ap}
use Rattle.ob_types.specs.declared.desc.Field.{Field}
use Rattle.ob_desc.specs.Grammar.{is_shown}
use Rattle.ob_uses_interface.specs.Placed.{to_field}
use Rattle.ob_uses.proofs.Looping.{kept_one}
use Rattle.ob_uses_interface.proofs.copies.shown_of.Goals as goal

pub items-preserved : goal.items-preserved
items-preserved c =
    kept_one (λ (f : Field). is_shown f.mark) c.in-Some.item.field c.items.all c.keep_shown.new.all _ (map to_field c.items.left.keys) (map to_field c.pop_first.new.self.keys) (ap (map to_field) c.in-Some.ensures.removal) c.in_ok-keep_shown.ensures c.items.invariant
