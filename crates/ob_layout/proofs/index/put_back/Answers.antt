use Rattle.std.proofs.Common.{rules}
use Rattle.ob_layout.proofs.Names.{puts}
use Rattle.ob_layout.proofs.index.put_back.Goals as goal

pub returns : goal.returns
returns c =
    let new = c.get_mut.follows.lender c.args.position in
    puts c.args.name.now c.args.positions.now new c.args.position ((c.get_mut.follows.holds c.args.position).3 (search rules))
