-- The bases of the pointers that builds show.
use Rattle.law_builds_types.proofs.pointed_laws.Loaded.{loaded_bases}
use Rattle.law_builds_types.proofs.law_pointed.loaded_bases.Goals as goal

pub returns : goal.returns
returns c = loaded_bases
