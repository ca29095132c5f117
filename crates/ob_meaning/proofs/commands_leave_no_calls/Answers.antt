use Rattle.ob_meaning.proofs.Ending.{leaves_none}
use Rattle.ob_meaning.proofs.commands_leave_no_calls.Goals as goal

pub returns : goal.returns
returns c system plan heap turns q program r p s h = leaves_none system plan heap turns q program r p s h
