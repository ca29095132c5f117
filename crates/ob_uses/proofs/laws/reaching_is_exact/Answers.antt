use Rattle.ob_uses.proofs.Searching.{exact_here}
use Rattle.ob_uses.proofs.laws.reaching_is_exact.Goals as goal

pub returns : goal.returns
returns c = λ leads starts names enough q. exact_here leads starts names enough q
