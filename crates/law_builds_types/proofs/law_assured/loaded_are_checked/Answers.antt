-- Builds that are loaded together are judged modules, and their procedures and bodies are checked.
use Rattle.law_builds_types.proofs.assured_laws.Judged.{loaded_are_judged}
use Rattle.law_builds_types.proofs.assured_laws.Checked as checked
use Rattle.law_builds_types.proofs.law_assured.loaded_are_checked.Goals as goal

pub returns-clause-judged : goal.returns-clause-judged
returns-clause-judged c = loaded_are_judged

pub returns-clause-checked : goal.returns-clause-checked
returns-clause-checked c = checked.loaded_are_checked
