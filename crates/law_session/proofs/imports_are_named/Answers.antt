-- The law of the names of imports.
use Rattle.law_session.proofs.Imports.{imports_are_named}
use Rattle.law_session.proofs.imports_are_named.Goals as goal

pub returns : goal.returns
returns c = imports_are_named
