use Rattle.std.proofs.Common.{◌≡◌, ◌+◌, ◌-◌, ◌≤◌, length, drop}
use Rattle.std.specs.List.{prefix_len}
use Rattle.ob_scan.specs.Kinds.{test_of}
use Rattle.ob_scan.proofs.symbols.run.Given as goal

abbrev pub invariant-run : goal.invariant-run
invariant-run l = record { within : l.n ≤ length l.text; so_far : prefix_len (test_of l.kind) l.text ≡ l.n + prefix_len (test_of l.kind) (drop l.n l.text) }

abbrev pub decreases-run : goal.decreases-run
decreases-run l = length l.text - l.n
