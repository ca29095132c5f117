-- Members stay, and what is redefined is found.
use Rattle.law_local_methods.proofs.Members.{members_stay}
use Rattle.law_local_methods.proofs.Bindings.{redefined_are_found}
use Rattle.law_local_methods.proofs.Owned.{heads_are_owned}
use Rattle.law_local_methods.proofs.members_stay.Goals as goal

pub returns-clause-members : goal.returns-clause-members
returns-clause-members c = members_stay

pub returns-clause-redefined : goal.returns-clause-redefined
returns-clause-redefined c = redefined_are_found

pub returns-clause-owned : goal.returns-clause-owned
returns-clause-owned c = heads_are_owned
