use Rattle.std.proofs.Common.{sym}
use Rattle.ob_desc.proofs.Digits.{goes_on_list}
use Rattle.ob_desc.proofs.constants.hex_of.Goals as goal

pub loop-rest-preserved : goal.loop-rest-preserved
loop-rest-preserved c = rw c.in_ok-push.ensures.ok (goes_on_list c.loop-rest.text c.loop-rest.rest.now c.in-Some.high c.in-Some-hex_value_of.low _ c.in-len2-up.len_at_least (sym c.in-Some.ensures.value) (sym c.in-Some-hex_value_of.ensures.value) c.loop-rest.invariant)
