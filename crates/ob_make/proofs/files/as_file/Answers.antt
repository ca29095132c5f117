use Rattle.std.proofs.Common.{Err, ap, ◌∙◌, arith}
use Rattle.ob_cmp.proofs.Finding.{file_spelled, no_file}
use Rattle.ob_make.specs.Folder.{has_found}
use Rattle.ob_make.proofs.files.as_file.Goals as goal

pub returns-in-Ok-clause-seen : goal.returns-in-Ok-clause-seen
returns-in-Ok-clause-seen c = ap (has_found c.args.«module».now) (file_spelled c.args.bytes.now c.in-Ok.file c.in-Ok.ensures.found.0 c.in-Ok.ensures.found.1) ∙ c.named_file.ensures

pub returns-in-Err-Damaged-clause-seen : goal.returns-in-Err-Damaged-clause-seen
returns-in-Err-Damaged-clause-seen c = ap (has_found c.args.«module».now) (no_file c.args.bytes.now (λ i. omega (arith, c.type_inv.bytes i)) (λ f fits is. c.in-Err-Damaged.ensures.damaged (ap Err c.in-Err-Damaged.field-0-is) f fits is))
