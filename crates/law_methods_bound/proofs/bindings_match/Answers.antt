-- Redefinitions match.
use Rattle.law_methods_bound.proofs.Matching.{bindings_match}
use Rattle.law_methods_bound.proofs.bindings_match.Goals as goal

pub returns : goal.returns
returns c = bindings_match
