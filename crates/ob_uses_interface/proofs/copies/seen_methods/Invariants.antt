use Rattle.std.proofs.Common.{◌≡◌, ◌++◌, drop, take, map}
use Rattle.std.specs.List.{filter}
use Rattle.ob_desc.specs.Grammar.{is_shown}
use Rattle.ob_uses_interface.proofs.copies.seen_methods.Given as goal

abbrev pub invariant-methods : goal.invariant-methods
invariant-methods l = l.all ++ filter (λ f. is_shown f.mark) (drop l.method-index l.methods) ≡ filter (λ f. is_shown f.mark) l.methods
