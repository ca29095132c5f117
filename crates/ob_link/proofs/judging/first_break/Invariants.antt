use Rattle.std.proofs.Common.{◌≡◌, ◌++◌, length, Some}
use Rattle.std.specs.Prelude.{IfSome}
use Rattle.std.specs.Option.{option_copied}
use Rattle.ob_link.specs.Members.{member_named}
use Rattle.ob_link.specs.Walk.{first_of}
use Rattle.ob_link.specs.Judging.{use_break}
use Rattle.ob_link.proofs.judging.first_break.Given as goal

abbrev pub invariant-loop-rest : goal.invariant-loop-rest
invariant-loop-rest l = IfSome (option_copied l.near) (λ k. member_named k.name (l.loaded ++ l.new) ≡ Some k) × (first_of (use_break (l.loaded ++ l.new) l.client) l.rest ≡ first_of (use_break (l.loaded ++ l.new) l.client) l.uses)

abbrev pub decreases-loop-rest : goal.decreases-loop-rest
decreases-loop-rest l = length l.rest
