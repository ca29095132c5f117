use Rattle.std.proofs.Common.{◌≡◌, ◌+◌, length}
use Rattle.ob_obj.specs.Grammar.{words_of}
use Rattle.ob_machine_image.proofs.globals.count_words.Given as goal

abbrev pub invariant-loop-rest : goal.invariant-loop-rest
invariant-loop-rest l = l.words + words_of l.rest ≡ words_of l.strings

abbrev pub decreases-loop-rest : goal.decreases-loop-rest
decreases-loop-rest l = length l.rest
