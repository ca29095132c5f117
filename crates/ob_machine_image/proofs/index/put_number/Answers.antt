use Rattle.std.proofs.Common.{Some}
use Rattle.ob_machine_image.proofs.Maps.{puts_at}
use Rattle.ob_machine_image.proofs.index.put_number.Goals as goal

pub returns-clause-ok : goal.returns-clause-ok
returns-clause-ok c = puts_at c.in_ok-key.key.items c.args.name.now c.args.numbers.now c.insert.new.self (Some c.args.number) c.in_ok-key.ensures.items c.in_ok-insert.ensures.updates
