-- The laws of procedures and of bodies are the theorems of Standing.
use Rattle.law_image_links.proofs.Standing as standing
use Rattle.law_image_links.proofs.procedures_stand.Goals as goal

pub returns-clause-procedures : goal.returns-clause-procedures
returns-clause-procedures c = standing.procedures_stand

pub returns-clause-bodies : goal.returns-clause-bodies
returns-clause-bodies c = standing.bodies_stand
