use Rattle.std.proofs.Common.{◌≡◌, sym, ap, ◌∙◌, arith}
use Rattle.ob_sym.specs.declared.fault.SymFault.TheVariants as fault
use Rattle.ob_env_walk.specs.Walk.{named_face}
use Rattle.ob_env_walk.proofs.Files.{spelled, not_spelled}
use Rattle.ob_env_walk.proofs.walking.look_at.Goals as goal

pub returns-in-Ok-clause-looks : goal.returns-in-Ok-clause-looks
returns-in-Ok-clause-looks g c = ap (named_face c.args.m.now) (spelled c.args.bytes.now c.in-Ok.face c.in-Ok.ensures.found.0 c.in-Ok.ensures.found.1) ∙ sym c.held.ensures.entry

pub returns-in-Err-Damaged-clause-looks : goal.returns-in-Err-Damaged-clause-looks
returns-in-Err-Damaged-clause-looks g c = ap (named_face c.args.m.now) (not_spelled c.args.bytes.now (λ i. omega (arith, c.type_inv.bytes i)) (λ f fits is. absurd (let bad : fault.Damaged ≡ fault.Memory = sym c.in-Err-Damaged.field-0-is ∙ c.in-Err-Damaged.ensures.again f fits is in cc)))
