use Rattle.law_typing.proofs.Whole.{expressions_fit, designators_fit, statements_fit, surroundings_fit}
use Rattle.law_typing.proofs.well_typed.Goals as goal

pub returns-clause-expressions : goal.returns-clause-expressions
returns-clause-expressions c = expressions_fit

pub returns-clause-designators : goal.returns-clause-designators
returns-clause-designators c = designators_fit

pub returns-clause-statements : goal.returns-clause-statements
returns-clause-statements c = statements_fit

pub returns-clause-surroundings : goal.returns-clause-surroundings
returns-clause-surroundings c = surroundings_fit
