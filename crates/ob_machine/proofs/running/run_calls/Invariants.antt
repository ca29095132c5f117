use Rattle.std.proofs.Common.{◌≡◌, ◌≤◌, length, None}
use Rattle.ob_machine.specs.Legs.{LegDoes, CanRun, left_of}
use Rattle.ob_machine.proofs.running.run_calls.Given as goal

abbrev pub invariant-modules : goal.invariant-modules
invariant-modules g l = record {
  can : CanRun (length l.image.modules) l.here l.calls l.state;
  told : g.S.Sink.tells l.out ≡ g.S.Sink.tells l.fn.out;
  later : g.S.Sink.faults l.fn.out ≤ g.S.Sink.faults l.out;
  does : LegDoes (g.S.Sink.tells l.fn.out) (g.S.Sink.taken l.fn.out) (g.S.Sink.taken l.out) l.image l.fn.here l.here l.fn.calls l.calls l.fn.state l.state None;
}

abbrev pub decreases-modules : goal.decreases-modules
decreases-modules g l = left_of l.state l.calls
