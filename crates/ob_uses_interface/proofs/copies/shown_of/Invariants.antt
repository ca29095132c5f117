use Rattle.std.proofs.Common.{◌≡◌, ◌++◌, length, map}
use Rattle.std.specs.List.{filter}
use Rattle.ob_desc.specs.Grammar.{is_shown}
use Rattle.ob_uses_interface.specs.Placed.{to_field}
use Rattle.ob_uses_interface.proofs.copies.shown_of.Given as goal

-- those so far, and those of the rest that are shown
abbrev pub invariant-items : goal.invariant-items
invariant-items l = l.all ++ filter (λ f. is_shown f.mark) (map to_field l.left.keys) ≡ filter (λ f. is_shown f.mark) (map to_field l.initial.left.keys)

abbrev pub decreases-items : goal.decreases-items
decreases-items l = length l.left.keys
