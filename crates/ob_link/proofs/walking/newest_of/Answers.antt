use Rattle.ob_link.proofs.Steps.{last_name}
use Rattle.ob_link.proofs.walking.newest_of.Goals as goal

pub returns-in-len1-up : goal.returns-in-len1-up
returns-in-len1-up c = last_name c.args.path.now c.frame-item.result c.args.name.now c.in-len1-up.len_at_least c.frame-item.is
