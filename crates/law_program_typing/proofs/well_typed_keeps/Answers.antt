-- Programs whose bodies are well typed keep the rules.
use Rattle.law_program_typing.proofs.Kept.{well_typed_keeps}
use Rattle.law_program_typing.proofs.well_typed_keeps.Goals as goal

pub returns : goal.returns
returns c = well_typed_keeps
