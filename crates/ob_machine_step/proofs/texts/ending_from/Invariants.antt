use Rattle.std.proofs.Common.{◌-◌}
use Rattle.ob_machine_step.proofs.Endings.{HasSeen}
use Rattle.ob_machine_step.proofs.texts.ending_from.Given as goal

abbrev pub invariant-chars : goal.invariant-chars
invariant-chars l = HasSeen l.words.words l.start l.len l.count

abbrev pub decreases-chars : goal.decreases-chars
decreases-chars l = l.len - l.count
