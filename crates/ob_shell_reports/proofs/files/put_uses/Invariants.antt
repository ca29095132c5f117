use Rattle.std.proofs.Common.{◌≡◌, ◌≤◌, true, length}
use Rattle.ob_cmp.specs.Check.{stale_line}
use Rattle.ob_shell_reports.proofs.Along.{Along}
use Rattle.ob_shell_reports.proofs.files.put_uses.Given as goal

abbrev pub invariant-uses : goal.invariant-uses
invariant-uses g l =
    (g.S.Sink.tells l.out ≡ g.S.Sink.tells l.fn.out)
    × (g.S.Sink.faults l.fn.out ≤ g.S.Sink.faults l.out)
    × (g.S.Sink.tells l.fn.out ≡ true → Along stale_line (g.S.Sink.taken l.fn.out) (g.S.Sink.taken l.out) l.uses l.rest)

abbrev pub decreases-uses : goal.decreases-uses
decreases-uses g l = length l.rest
