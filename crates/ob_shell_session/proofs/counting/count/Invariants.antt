use Rattle.std.proofs.Common.{◌≡◌, ◌≤◌, ◌+◌, None, length}
use Rattle.std.specs.Prelude.{option_map}
use Rattle.ob_shell_session.specs.Counting.{counts_from, no_counts}
use Rattle.ob_shell_session.proofs.counting.count.Given as goal

abbrev pub invariant-verdicts : goal.invariant-verdicts
invariant-verdicts l =
    (l.counts.added + l.counts.changed + l.counts.gone + length l.rest ≤ length l.verdicts)
    × (counts_from l.counts (option_map (λ v. v.now) l.last) l.rest ≡ counts_from (no_counts l.objects) None l.verdicts)

abbrev pub decreases-verdicts : goal.decreases-verdicts
decreases-verdicts l = length l.rest
