-- The clauses of `one_age`: the headline where prints tell apart what is compared, and in one age.
use Rattle.law_session.proofs.Held.{told, compared_holds, one_age_so}
use Rattle.law_session.proofs.OneAge.{worlds_so, stays}
use Rattle.law_session.proofs.one_age.Goals as goal

pub returns-clause-told : goal.returns-clause-told
returns-clause-told c = told

pub returns-clause-compared : goal.returns-clause-compared
returns-clause-compared c = compared_holds

pub returns-clause-whole : goal.returns-clause-whole
returns-clause-whole c = one_age_so

pub returns-clause-worlds : goal.returns-clause-worlds
returns-clause-worlds c = worlds_so

pub returns-clause-stays : goal.returns-clause-stays
returns-clause-stays c = stays
