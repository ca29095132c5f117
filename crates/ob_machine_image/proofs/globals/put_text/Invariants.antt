use Rattle.std.proofs.Common.{◌≡◌, ◌+◌, ◌<◌, length, pos}
use Rattle.std.specs.Prelude.{map}
use Rattle.ob_mem.specs.Words.{with_words}
use Rattle.ob_machine_image.proofs.globals.put_text.Given as goal

abbrev pub invariant-loop-rest : goal.invariant-loop-rest
invariant-loop-rest l = record {
  puts : record l.words { words = with_words l.words.words (pos l.next) (map pos l.rest) } ≡ record l.initial.words { words = with_words l.initial.words.words (pos l.at) (map pos l.text) };
  room : l.next + length l.rest ≡ l.at + length l.text;
  some : 0 < l.next;
}

abbrev pub decreases-loop-rest : goal.decreases-loop-rest
decreases-loop-rest l = length l.rest
