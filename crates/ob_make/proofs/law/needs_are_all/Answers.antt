use Rattle.ob_make.proofs.Needing.{needs_are_all}
use Rattle.ob_make.proofs.law.needs_are_all.Goals as goal

pub returns-clause-files : goal.returns-clause-files
returns-clause-files c = λ s x n. needs_are_all s x n

pub returns-clause-libraries : goal.returns-clause-libraries
returns-clause-libraries c = λ s x n. needs_are_all s x n
