use Rattle.std.proofs.Common.{◌≡◌, ◌+◌, ◌<◌, ◌≤◌, length, pos}
use Rattle.ob_mem.specs.Words.{with_words}
use Rattle.std.specs.List.{AllByRecursion}
use Rattle.ob_obj.specs.Grammar.{words_of}
use Rattle.ob_obj.specs.Images.{string_words}
use Rattle.ob_machine_image.proofs.globals.put_strings.Given as goal

abbrev pub invariant-loop-rest : goal.invariant-loop-rest
invariant-loop-rest l = record {
  puts : record l.words { words = with_words l.words.words (pos l.next) (string_words l.rest) } ≡ record l.initial.words { words = with_words l.initial.words.words (pos l.at) (string_words l.strings) };
  room : l.next + words_of l.rest ≡ l.at + words_of l.strings;
  some : 0 < l.next;
  long : AllByRecursion (λ s. length s.text ≤ s.words) l.rest;
}

abbrev pub decreases-loop-rest : goal.decreases-loop-rest
decreases-loop-rest l = length l.rest
