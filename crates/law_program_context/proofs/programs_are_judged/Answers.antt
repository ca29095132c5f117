-- What a program of judged modules has.
use Rattle.law_program_context.proofs.Full.{constants_shown}
use Rattle.law_program_context.proofs.Formed.{maps_formed}
use Rattle.law_program_context.proofs.Typed.{procedures_typed, values_had}
use Rattle.law_program_context.proofs.programs_are_judged.Goals as goal

pub returns-clause-typed : goal.returns-clause-typed
returns-clause-typed c = procedures_typed

pub returns-clause-constants : goal.returns-clause-constants
returns-clause-constants c = constants_shown

pub returns-clause-values : goal.returns-clause-values
returns-clause-values c = values_had

pub returns-clause-maps : goal.returns-clause-maps
returns-clause-maps c = maps_formed
