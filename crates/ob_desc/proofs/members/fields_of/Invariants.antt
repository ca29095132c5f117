use Rattle.std.proofs.Common.{◌≡◌, ◌-◌, length}
use Rattle.ob_desc.specs.Forms.{run_at}
use Rattle.ob_desc.specs.Grammar.{begins_field, field}
use Rattle.ob_format.proofs.Loop.{with_front}
use Rattle.ob_desc.proofs.members.fields_of.Given as goal

abbrev pub invariant-loop : goal.invariant-loop
invariant-loop l = with_front l.items (run_at begins_field field.take (length l.bytes - l.counter) l.rest) ≡ run_at begins_field field.take (length l.bytes) l.bytes
