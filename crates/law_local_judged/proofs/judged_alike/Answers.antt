-- What the rules look at is what counts.
use Rattle.law_local_judged.proofs.Tests.{types_agree}
use Rattle.law_local_judged.proofs.Whole.{names_agree, expressions_agree, designators_agree, constants_agree, statements_agree, written_agree, declarations_agree, headings_agree, counted_is_said, bindings_agree, forwards_agree, later_agrees, bodies_agree}
use Rattle.law_local_judged.proofs.judged_alike.Goals as goal

pub returns-clause-types : goal.returns-clause-types
returns-clause-types c = types_agree

pub returns-clause-names : goal.returns-clause-names
returns-clause-names c = names_agree

pub returns-clause-expressions : goal.returns-clause-expressions
returns-clause-expressions c = expressions_agree

pub returns-clause-designators : goal.returns-clause-designators
returns-clause-designators c = designators_agree

pub returns-clause-constants : goal.returns-clause-constants
returns-clause-constants c = constants_agree

pub returns-clause-statements : goal.returns-clause-statements
returns-clause-statements c = statements_agree

pub returns-clause-written : goal.returns-clause-written
returns-clause-written c = written_agree

pub returns-clause-declarations : goal.returns-clause-declarations
returns-clause-declarations c = declarations_agree

pub returns-clause-headings : goal.returns-clause-headings
returns-clause-headings c = headings_agree

pub returns-clause-counted : goal.returns-clause-counted
returns-clause-counted c = counted_is_said

pub returns-clause-bindings : goal.returns-clause-bindings
returns-clause-bindings c = bindings_agree

pub returns-clause-forwards : goal.returns-clause-forwards
returns-clause-forwards c = forwards_agree

pub returns-clause-later : goal.returns-clause-later
returns-clause-later c = later_agrees

pub returns-clause-bodies : goal.returns-clause-bodies
returns-clause-bodies c = bodies_agree
