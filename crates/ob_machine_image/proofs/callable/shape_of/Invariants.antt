use Rattle.std.proofs.Common.{◌≡◌, ◌+◌, length}
use Rattle.std.specs.Prelude.{◌||◌}
use Rattle.ob_instr.specs.Parts.{slots}
use Rattle.ob_machine_image.specs.Copies.{has_copies}
use Rattle.ob_machine_image.proofs.callable.shape_of.Given as goal

abbrev pub invariant-loop-rest : goal.invariant-loop-rest
invariant-loop-rest l = record {
  words : l.words + slots l.rest ≡ slots l.params;
  copies : l.copies || has_copies l.rest ≡ has_copies l.params;
}

abbrev pub decreases-loop-rest : goal.decreases-loop-rest
decreases-loop-rest l = length l.rest
