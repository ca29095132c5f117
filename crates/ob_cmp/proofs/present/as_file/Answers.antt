use Rattle.std.proofs.Common.{◌≡◌, Err, refl, sym, ap, subst, ◌∙◌, arith}
use Rattle.ob_cmp.specs.Check.{uses_found}
use Rattle.ob_cmp.specs.Checking.{SeesUses}
use Rattle.ob_cmp.proofs.Finding.{file_spelled, no_file}
use Rattle.ob_cmp.proofs.present.as_file.Goals as goal

pub returns-in-Ok-clause-sees : goal.returns-in-Ok-clause-sees
returns-in-Ok-clause-sees c = subst (λ o. SeesUses c.args.«module».now (uses_found c.args.«module».now o) c.named_file.result) (sym (file_spelled c.args.bytes.now c.in-Ok.file c.in-Ok.ensures.found.0 c.in-Ok.ensures.found.1)) c.named_file.ensures.sees

pub returns-in-Err-Damaged-clause-sees : goal.returns-in-Err-Damaged-clause-sees
returns-in-Err-Damaged-clause-sees c = (refl, ap (uses_found c.args.«module».now) (no_file c.args.bytes.now (λ i. omega (arith, c.type_inv.bytes i)) (λ f fits is. c.in-Err-Damaged.ensures.damaged (ap Err c.in-Err-Damaged.field-0-is) f fits is)))
