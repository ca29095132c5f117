-- Arrays.
use Rattle.law_methods_bound.proofs.Modules.{arrays_have}
use Rattle.law_methods_bound.proofs.arrays_have_elements.Goals as goal

pub returns : goal.returns
returns c = arrays_have
