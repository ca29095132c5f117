use Rattle.std.proofs.Common.{◌≡◌, ◌++◌, ◌≤◌, ◌-◌, take, drop, length}
use Rattle.ob_rules.specs.Constants.{up_to_end}
use Rattle.ob_const.proofs.texts.up_to_end.Given as goal

abbrev pub invariant-characters : goal.invariant-characters
invariant-characters l = record { within : l.end ≤ length l.text; front : up_to_end l.text ≡ take l.end l.text ++ up_to_end (drop l.end l.text) }

abbrev pub decreases-characters : goal.decreases-characters
decreases-characters l = length l.text - l.end
