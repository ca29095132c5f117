use Rattle.std.proofs.Common.{◌≡◌, ◌-◌, ◌+◌, ◌∷◌, length}
use Rattle.ob_format.specs.Words.{all_at, after_at}
use Rattle.ob_desc.specs.Grammar.{param_at, params_at}
use Rattle.ob_format.proofs.Ends.{with_front}
use Rattle.ob_desc.proofs.signatures.params_of.Given as goal

abbrev pub invariant-loop : goal.invariant-loop
invariant-loop l = with_front l.items (all_at (after_at 44 param_at) (length l.inner + 1 - l.counter) (44 ∷ l.rest)) ≡ params_at l.inner
