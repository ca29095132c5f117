-- Interfaces show constants and lengths in range.
use Rattle.law_program_context.proofs.Shown.{full_are_shown, laid_are_full}
use Rattle.law_program_context.proofs.constants_are_shown.Goals as goal

pub returns-clause-shown : goal.returns-clause-shown
returns-clause-shown c = full_are_shown

pub returns-clause-laid : goal.returns-clause-laid
returns-clause-laid c = laid_are_full
