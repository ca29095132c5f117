use Rattle.std.proofs.Common.{◌≡◌, ◌≤◌, true, length}
use Rattle.ob_cmp.specs.Verdicts.{verdict_line}
use Rattle.ob_shell_reports.proofs.Along.{Along}
use Rattle.ob_shell_reports.proofs.files.put_verdicts.Given as goal

abbrev pub invariant-verdicts : goal.invariant-verdicts
invariant-verdicts g l =
    (g.S.Sink.tells l.out ≡ g.S.Sink.tells l.fn.out)
    × (g.S.Sink.faults l.fn.out ≤ g.S.Sink.faults l.out)
    × (g.S.Sink.tells l.fn.out ≡ true → Along verdict_line (g.S.Sink.taken l.fn.out) (g.S.Sink.taken l.out) l.verdicts l.rest)

abbrev pub decreases-verdicts : goal.decreases-verdicts
decreases-verdicts g l = length l.rest
