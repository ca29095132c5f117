use Rattle.std.proofs.Common.{◌≡◌, ◌<◌, length}
use Rattle.ob_machine_image.specs.Globals.{AreWithin, words_from}
use Rattle.ob_machine_image.proofs.globals.put_files.Given as goal

abbrev pub invariant-loop-rest : goal.invariant-loop-rest
invariant-loop-rest l = record {
  puts : record l.words { words = words_from l.next l.rest l.words.words } ≡ record l.initial.words { words = words_from l.first l.files l.initial.words.words };
  some : 0 < l.next;
  room : AreWithin l.next l.rest;
}

abbrev pub decreases-loop-rest : goal.decreases-loop-rest
decreases-loop-rest l = length l.rest
