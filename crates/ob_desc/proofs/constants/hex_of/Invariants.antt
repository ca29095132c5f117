use Rattle.std.proofs.Common.{◌≡◌, length}
use Rattle.ob_desc.specs.Grammar.{hex_at}
use Rattle.ob_desc.proofs.Digits.{with_more}
use Rattle.ob_desc.proofs.constants.hex_of.Given as goal

abbrev pub invariant-loop-rest : goal.invariant-loop-rest
invariant-loop-rest l = with_more l.text (hex_at l.rest) ≡ hex_at l.digits

abbrev pub decreases-loop-rest : goal.decreases-loop-rest
decreases-loop-rest l = length l.rest
