-- Bound procedures match.
use Rattle.law_methods_bound.proofs.Procedures.{procedures_match}
use Rattle.law_methods_bound.proofs.procedures_match.Goals as goal

pub returns : goal.returns
returns c = procedures_match
