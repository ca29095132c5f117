-- Bodies of judged modules name variables that are there.
use Rattle.law_program_scope.proofs.Modules.{modules_are_scoped, programs_are_scoped}
use Rattle.law_program_scope.proofs.bodies_are_scoped.Goals as goal

pub returns : goal.returns
returns c = record { modules = modules_are_scoped; programs = programs_are_scoped }
