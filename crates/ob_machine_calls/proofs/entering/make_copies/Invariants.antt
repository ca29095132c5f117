use Rattle.std.proofs.Common.{◌≡◌, ◌+◌, ◌<◌, ◌≤◌, length, Some}
use Rattle.ob_instr.specs.Parts.{slots}
use Rattle.ob_instr.specs.Rows.{copy_words, with_copies}
use Rattle.ob_machine_calls.proofs.entering.make_copies.Given as goal

abbrev pub invariant-loop-kinds : goal.invariant-loop-kinds
invariant-loop-kinds l = record {
  makes : record l.words { words = with_copies l.words.words l.kinds l.rest l.place l.free } ≡ record l.initial.words { words = with_copies l.initial.words.words l.params l.args l.slot l.next };
  some : 0 < l.place;
  slots : l.place + slots l.kinds ≤ 1310721;
  copies : copy_words (length l.words.words) l.kinds l.rest ≡ Some l.left;
  room : l.free + l.left ≤ 1310721;
}

abbrev pub decreases-loop-kinds : goal.decreases-loop-kinds
decreases-loop-kinds l = length l.kinds
