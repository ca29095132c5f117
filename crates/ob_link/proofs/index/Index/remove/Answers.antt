use Rattle.std.proofs.Common.{None, refl}
use Rattle.ob_link.proofs.Maps.{puts_at}
use Rattle.ob_link.proofs.index.Index.remove.Goals as goal

pub returns : goal.returns
returns c = puts_at c.args.name.now c.args.name.now c.args.self.now.places c.remove.new.self None refl c.remove.ensures.updates
