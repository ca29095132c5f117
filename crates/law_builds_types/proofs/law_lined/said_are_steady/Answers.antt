-- Maps.
use Rattle.law_builds_types.proofs.lined_laws.Said.{said_have_ends, said_are_steady}
use Rattle.law_builds_types.proofs.law_lined.said_are_steady.Goals as goal

pub returns-clause-ends : goal.returns-clause-ends
returns-clause-ends c = said_have_ends

pub returns-clause-steady : goal.returns-clause-steady
returns-clause-steady c = said_are_steady
