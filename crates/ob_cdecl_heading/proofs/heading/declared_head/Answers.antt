use Rattle.std.proofs.Common.{Bool, sym, subst}
use Rattle.ob_rules.specs.Headings.{declared_head}
use Rattle.ob_cdecl_heading.specs.Kept.{IsKept}
use Rattle.ob_cdecl_heading.proofs.heading.declared_head.Goals as goal

pub returns-then-twice : goal.returns-then-twice
returns-then-twice c = λ n s u k e. subst (λ (b : Bool). IsKept n c.head_again.result (declared_head b s u)) (sym c.if-twice.true) (c.head_again.ensures n s u k e)

pub returns-else-twice : goal.returns-else-twice
returns-else-twice c = λ n s u k e. subst (λ (b : Bool). IsKept n c.head_anew.result (declared_head b s u)) (sym c.if-twice.false) (c.head_anew.ensures n s u k e)
