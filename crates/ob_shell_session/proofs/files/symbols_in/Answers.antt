use Rattle.std.proofs.Common.{◌≡◌, sym, ap, ◌∙◌, arith}
use Rattle.ob_sym.specs.declared.fault.SymFault.TheVariants as fault
use Rattle.ob_shell_model.specs.Files.{decoded_file}
use Rattle.ob_shell_session.proofs.Decoded.{spelled, not_spelled}
use Rattle.ob_shell_session.proofs.files.symbols_in.Goals as goal

pub returns-in-Ok-clause-found : goal.returns-in-Ok-clause-found
returns-in-Ok-clause-found c = ap decoded_file (spelled c.args.bytes.now c.in-Ok.face c.in-Ok.ensures.found.0 c.in-Ok.ensures.found.1)

pub returns-in-Err-Damaged-clause-found : goal.returns-in-Err-Damaged-clause-found
returns-in-Err-Damaged-clause-found c = ap decoded_file (not_spelled c.args.bytes.now (λ i. omega (arith, c.type_inv.bytes i)) (λ f fits is. absurd (let bad : fault.Damaged ≡ fault.Memory = sym c.in-Err-Damaged.field-0-is ∙ c.in-Err-Damaged.ensures.again f fits is in cc)))
