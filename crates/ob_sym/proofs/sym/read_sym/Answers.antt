use Rattle.std.proofs.Common.{◌≡◌, None, Some, sym, ap, ◌∙◌, arith}
use Rattle.ob_format.specs.Format.{whole}
use Rattle.ob_format.specs.Exact.{whole_found, whole_again, some_is}
use Rattle.ob_sym.specs.Grammar.{face}
use Rattle.ob_sym.specs.Laws.{face_exact}
use Rattle.ob_sym.proofs.sym.read_sym.Goals as goal

pub returns-in-Ok-clause-found : goal.returns-in-Ok-clause-found
returns-in-Ok-clause-found c = whole_found face face_exact c.args.bytes.now c.in-Ok.found (λ i. omega (arith, c.type_inv.bytes i)) c.in-Ok.ensures

pub returns-in-Ok-clause-again : goal.returns-in-Ok-clause-again
returns-in-Ok-clause-again c = λ f fits e. some_is c.in-Ok.found f (sym c.in-Ok.ensures ∙ ap (whole face) e ∙ whole_again face face_exact f fits)

pub returns-in-Err-Damaged-clause-again : goal.returns-in-Err-Damaged-clause-again
returns-in-Err-Damaged-clause-again c = λ f fits e. absurd (let bad : None ≡ Some f = sym (rw c.in-Err-Damaged.field-0-is at c.in-Err-Damaged.ensures) ∙ ap (whole face) e ∙ whole_again face face_exact f fits in cc)
