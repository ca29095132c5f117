-- What is bound.
use Rattle.law_names_types.proofs.Unbound.{bound_free}
use Rattle.law_names_types.proofs.bound_are_free.Goals as goal

pub returns : goal.returns
returns c = bound_free
