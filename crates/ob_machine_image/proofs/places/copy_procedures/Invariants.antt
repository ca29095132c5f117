use Rattle.std.proofs.Common.{◌≡◌, ◌+◌, ◌≤◌, ◌++◌, length}
use Rattle.std.specs.List.{AllByRecursion}
use Rattle.ob_instr.specs.Parts.{slots, most_words}
use Rattle.ob_machine_image.proofs.places.copy_procedures.Given as goal

abbrev pub invariant-loop-rest : goal.invariant-loop-rest
invariant-loop-rest l = record {
  same : l.copies ++ l.rest ≡ l.procedures;
  words : AllByRecursion (λ q. slots q.params + q.locals ≤ most_words) l.rest;
}

abbrev pub decreases-loop-rest : goal.decreases-loop-rest
decreases-loop-rest l = length l.rest
