use Rattle.std.proofs.Common.{length}
use Rattle.ob_shell_session.proofs.making.+do_turns.Given as goal

abbrev pub decreases-do_turns : goal.decreases-do_turns
decreases-do_turns g l = length l.modules.now
