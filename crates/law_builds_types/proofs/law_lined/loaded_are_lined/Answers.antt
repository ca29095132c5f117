-- Programs.
use Rattle.law_builds_types.proofs.lined_laws.Ordered.{ordered_are_lined}
use Rattle.law_builds_types.proofs.lined_laws.Loaded.{loaded_are_lined}
use Rattle.law_builds_types.proofs.law_lined.loaded_are_lined.Goals as goal

pub returns-clause-ordered : goal.returns-clause-ordered
returns-clause-ordered c = ordered_are_lined

pub returns-clause-loaded : goal.returns-clause-loaded
returns-clause-loaded c = loaded_are_lined
