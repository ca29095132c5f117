use Rattle.std.proofs.Common.{◌≡◌, true, ◌≤◌, ◌++◌}
use Rattle.std.specs.Prelude.{replicate}
use Rattle.ob_machine_loop.proofs.print.put_blanks.Given as goal

abbrev pub invariant-loop : goal.invariant-loop
invariant-loop g l =
    (g.S.Sink.tells l.out ≡ g.S.Sink.tells l.fn.out)
    × (g.S.Sink.tells l.fn.out ≡ true → g.S.Sink.taken l.out ≡ g.S.Sink.taken l.fn.out ++ replicate l.counter 32)
    × (g.S.Sink.faults l.fn.out ≤ g.S.Sink.faults l.out)
