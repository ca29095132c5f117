-- What is a value.
use Rattle.law_typing_values.proofs.Equal.{equal_are_forms, matching_are_alike}
use Rattle.law_typing_values.proofs.Matching.{matching_is_having, redefinitions_are_alike}
use Rattle.law_typing_values.proofs.Values.{values_are_made}
use Rattle.law_typing_values.proofs.values_are_made.Goals as goal

pub returns-clause-made : goal.returns-clause-made
returns-clause-made c = values_are_made

pub returns-clause-matching : goal.returns-clause-matching
returns-clause-matching c = matching_is_having

pub returns-clause-equal : goal.returns-clause-equal
returns-clause-equal c = equal_are_forms

pub returns-clause-alike : goal.returns-clause-alike
returns-clause-alike c = matching_are_alike

pub returns-clause-redefining : goal.returns-clause-redefining
returns-clause-redefining c = redefinitions_are_alike
