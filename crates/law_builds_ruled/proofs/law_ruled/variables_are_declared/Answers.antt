-- Variables.
use Rattle.law_builds_ruled.proofs.ruled_laws.Modules.{variables_declared_well}
use Rattle.law_builds_ruled.proofs.law_ruled.variables_are_declared.Goals as goal

pub returns : goal.returns
returns c = variables_declared_well
