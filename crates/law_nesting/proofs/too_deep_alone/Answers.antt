use Rattle.law_nesting.proofs.Modules.{next_goes_on, first_too_deep, none_is_earlier}
use Rattle.law_nesting.proofs.too_deep_alone.Goals as goal

pub returns-clause-next : goal.returns-clause-next
returns-clause-next c = λ d ts r h. next_goes_on d ts r h

pub returns-clause-first : goal.returns-clause-first
returns-clause-first c = λ d ts r h. first_too_deep d ts r h

pub returns-clause-before : goal.returns-clause-before
returns-clause-before c = λ d ts r h. none_is_earlier d ts r h
