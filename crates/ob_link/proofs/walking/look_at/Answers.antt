use Rattle.std.proofs.Common.{Err, sym, ap, ◌∙◌, arith}
use Rattle.ob_link.specs.Files.{decoded_as}
use Rattle.ob_link.proofs.Decoded.{decoded_again, not_decoded}
use Rattle.ob_link.proofs.walking.look_at.Goals as goal

pub returns-in-Ok-clause-found : goal.returns-in-Ok-clause-found
returns-in-Ok-clause-found c = ap (decoded_as c.args.name.now) (decoded_again c.args.bytes.now c.in-Ok.file c.in-Ok.ensures.found.0 c.in-Ok.ensures.found.1) ∙ sym c.held.ensures.entry

pub returns-in-Err-Damaged-clause-found : goal.returns-in-Err-Damaged-clause-found
returns-in-Err-Damaged-clause-found c = ap (decoded_as c.args.name.now) (not_decoded c.args.bytes.now (λ i. omega (arith, c.type_inv.bytes i)) (λ f fits is. c.in-Err-Damaged.ensures.damaged (ap Err c.in-Err-Damaged.field-0-is) f fits is))
