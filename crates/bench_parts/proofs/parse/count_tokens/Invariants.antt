use Rattle.std.proofs.Common.{◌+◌, ◌≤◌, length}
use Rattle.bench_parts.proofs.parse.count_tokens.Given as goal

abbrev pub invariant-more : goal.invariant-more
invariant-more l = l.count + length l.scanner.text ≤ length l.text

abbrev pub decreases-more : goal.decreases-more
decreases-more l = length l.scanner.text
