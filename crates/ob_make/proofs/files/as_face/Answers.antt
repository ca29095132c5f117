use Rattle.std.proofs.Common.{◌≡◌, sym, ap, ◌∙◌, arith}
use Rattle.ob_sym.specs.declared.fault.SymFault.TheVariants as fault
use Rattle.ob_cmp.specs.Check.{face_found}
use Rattle.ob_cmp.proofs.Finding.{face_spelled, no_face}
use Rattle.ob_make.proofs.files.as_face.Goals as goal

pub returns-in-Ok-clause-seen : goal.returns-in-Ok-clause-seen
returns-in-Ok-clause-seen c = ap (face_found c.args.«module».now) (face_spelled c.args.bytes.now c.in-Ok.face c.in-Ok.ensures.found.0 c.in-Ok.ensures.found.1) ∙ c.named_face.ensures.seen

pub returns-in-Err-Damaged-clause-seen : goal.returns-in-Err-Damaged-clause-seen
returns-in-Err-Damaged-clause-seen c = ap (face_found c.args.«module».now) (no_face c.args.bytes.now (λ i. omega (arith, c.type_inv.bytes i)) (λ f fits is. absurd (let bad : fault.Damaged ≡ fault.Memory = sym c.in-Err-Damaged.field-0-is ∙ c.in-Err-Damaged.ensures.again f fits is in cc)))
