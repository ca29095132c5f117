use Rattle.std.proofs.Common.{◌≡◌, ◌-◌, length}
use Rattle.ob_format.specs.Words.{all_at}
use Rattle.ob_format.proofs.Ends.{with_front}
use Rattle.ob_desc.specs.Grammar.{method}
use Rattle.ob_desc.proofs.members.methods_of.Given as goal

abbrev pub invariant-loop : goal.invariant-loop
invariant-loop l = with_front l.items (all_at method.take (length l.bytes - l.counter) l.rest) ≡ all_at method.take (length l.bytes) l.bytes
