-- What modules name is coded.
use Rattle.law_spelling_stmts.proofs.Modules.{names_are_coded}
use Rattle.law_spelling_stmts.proofs.names_are_coded.Goals as goal

pub returns : goal.returns
returns c = names_are_coded
