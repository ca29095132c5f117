use Rattle.std.proofs.Common.{◌∙◌}
use Rattle.ob_make.proofs.Keeping.{puts_at}
use Rattle.ob_make.proofs.held.Held.put.Goals as goal

pub returns-clause-ok : goal.returns-clause-ok
returns-clause-ok c = puts_at c.in_ok-key.key.items c.args.«module».now c.args.self.now (record { files = c.insert.new.self }) c.args.face (c.in_ok-key.ensures.items ∙ c.as_bytes.ensures) c.in_ok-insert.ensures.updates
