-- The interfaces that a valid build was compiled against have a grounded map.
use Rattle.law_program_names.proofs.Grounded.{against_is_grounded}
use Rattle.law_program_names.proofs.against_is_grounded.Goals as goal

pub returns : goal.returns
returns c = against_is_grounded
