use Rattle.ob_env_ranks.specs.Marks.{SayWithin}
use Rattle.ob_env_ranks.proofs.within.round_marks.Given as goal

abbrev pub invariant-loop-round : goal.invariant-loop-round
invariant-loop-round l = SayWithin l.env l.round l.marks
