-- What the rules make of declarations.
use Rattle.law_methods_described.proofs.Blocks.{types_described, procedures_marked}
use Rattle.law_methods_described.proofs.types_are_described.Goals as goal

pub returns-clause-types : goal.returns-clause-types
returns-clause-types c = types_described

pub returns-clause-marks : goal.returns-clause-marks
returns-clause-marks c = procedures_marked
