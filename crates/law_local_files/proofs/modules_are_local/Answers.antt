use Rattle.law_local_files.proofs.Whole.{modules_are_local}
use Rattle.law_local_files.proofs.Bridged.{counts_are_enough}
use Rattle.law_local_files.proofs.Blanked.{shapes_are_told}
use Rattle.law_local_files.proofs.modules_are_local.Goals as goal

pub returns-clause-same : goal.returns-clause-same
returns-clause-same c = modules_are_local

pub returns-clause-shown : goal.returns-clause-shown
returns-clause-shown c = shapes_are_told

pub returns-clause-read : goal.returns-clause-read
returns-clause-read c = counts_are_enough
