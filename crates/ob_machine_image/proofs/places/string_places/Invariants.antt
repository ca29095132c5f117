use Rattle.std.proofs.Common.{◌≡◌, ◌+◌, ◌++◌, length}
use Rattle.ob_obj.specs.Grammar.{words_of}
use Rattle.ob_obj.specs.Images.{string_places}
use Rattle.ob_machine_image.proofs.places.string_places.Given as goal

abbrev pub invariant-loop-rest : goal.invariant-loop-rest
invariant-loop-rest l = (l.places ++ string_places l.next l.rest ≡ string_places l.first l.strings) × (l.next + words_of l.rest ≡ l.first + words_of l.strings)

abbrev pub decreases-loop-rest : goal.decreases-loop-rest
decreases-loop-rest l = length l.rest
