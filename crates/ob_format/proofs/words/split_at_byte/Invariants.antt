use Rattle.std.proofs.Common.{length, get_or, ℕ, ◌-◌, ◌<◌, ◌≤◌, ◌≢◌}
use Rattle.ob_format.proofs.words.split_at_byte.Given as goal

abbrev pub invariant-loop-count : goal.invariant-loop-count
invariant-loop-count l = record { within : l.count ≤ length l.bytes; before : (k : ℕ) → k < l.count → get_or l.bytes k 0 ≢ l.c }

abbrev pub decreases-loop-count : goal.decreases-loop-count
decreases-loop-count l = length l.bytes - l.count
