use Rattle.std.proofs.Common.{◌≡◌, ◌+◌, length}
use Rattle.ob_obj.specs.Grammar.{words_of}
use Rattle.ob_obj_spelling.proofs.checks.has_few_words.Given as goal

abbrev pub invariant-loop-rest : goal.invariant-loop-rest
invariant-loop-rest l = l.words + words_of l.rest ≡ l.variables + words_of l.strings

abbrev pub decreases-loop-rest : goal.decreases-loop-rest
decreases-loop-rest l = length l.rest
