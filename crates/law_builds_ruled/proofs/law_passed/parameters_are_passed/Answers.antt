-- Parameters.
use Rattle.law_builds_ruled.proofs.passed_laws.Modules.{parameters_passed}
use Rattle.law_builds_ruled.proofs.law_passed.parameters_are_passed.Goals as goal

pub returns : goal.returns
returns c = parameters_passed
