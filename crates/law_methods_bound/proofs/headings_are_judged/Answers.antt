-- Headings have their parameters.
use Rattle.law_methods_bound.proofs.Judged.{headings_are_judged}
use Rattle.law_methods_bound.proofs.headings_are_judged.Goals as goal

pub returns : goal.returns
returns c = headings_are_judged
