use Rattle.std.proofs.Common.{◌≡◌, ◌+◌, ◌*◌, ◌≤◌, length, Some}
use Rattle.ob_instr.specs.Parts.{slots}
use Rattle.ob_instr.specs.Rows.{copy_words}
use Rattle.ob_machine_calls.specs.Copies.{added}
use Rattle.ob_machine_calls.proofs.arguments.count_copies.Given as goal

abbrev pub invariant-loop-kinds : goal.invariant-loop-kinds
invariant-loop-kinds l = record {
  counts : added (Some l.total) (copy_words (length l.words.words) l.kinds l.rest) ≡ copy_words (length l.words.words) l.params l.args;
  few : l.total + 5505024 * length l.rest ≤ 5505024 * length l.args;
  short : length l.args ≤ 256;
  slots : slots l.params + length l.rest ≡ slots l.kinds + length l.args;
}

abbrev pub decreases-loop-kinds : goal.decreases-loop-kinds
decreases-loop-kinds l = length l.kinds
