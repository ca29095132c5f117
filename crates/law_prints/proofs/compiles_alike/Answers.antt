-- The law that compiles are alike.
use Rattle.law_prints.proofs.Law.{alike, alike_among}
use Rattle.law_prints.proofs.compiles_alike.Goals as goal

pub returns-clause-all : goal.returns-clause-all
returns-clause-all c = alike

pub returns-clause-among : goal.returns-clause-among
returns-clause-among c = alike_among
