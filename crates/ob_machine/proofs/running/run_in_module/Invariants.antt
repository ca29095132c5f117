use Rattle.std.proofs.Common.{◌≡◌, ◌≤◌, ◌<◌, ◌^◌, length, None}
use Rattle.ob_machine_step.specs.Bases.{AreBelow}
use Rattle.ob_machine_fused.specs.Points.{IsHere}
use Rattle.ob_machine.specs.Legs.{LegDoes, CanRun, left_of}
use Rattle.ob_machine.proofs.running.run_in_module.Given as goal

abbrev pub invariant-legs : goal.invariant-legs
invariant-legs g l = record {
  same : l.here.unit ≡ l.number;
  code : l.code ≡ l.unit.code;
  here : IsHere l.place l.unit.code l.image l.unit;
  unit : l.place.«module» ≡ l.number;
  frame : l.place.frame ≡ l.here.first;
  count : l.place.count ≡ length l.place.descriptors.now.list;
  few : l.place.count < 2 ^ 31;
  bases : AreBelow l.place.descriptors.now.list;
  can : CanRun (length l.image.modules) l.here l.calls l.state;
  told : g.S.Sink.tells l.out ≡ g.S.Sink.tells l.fn.out;
  later : g.S.Sink.faults l.fn.out ≤ g.S.Sink.faults l.out;
  less : left_of l.state l.calls ≤ left_of l.fn.state l.fn.calls;
  does : LegDoes (g.S.Sink.tells l.fn.out) (g.S.Sink.taken l.fn.out) (g.S.Sink.taken l.out) l.image l.fn.here l.here l.fn.calls l.calls l.fn.state l.state None;
}

abbrev pub decreases-legs : goal.decreases-legs
decreases-legs g l = left_of l.state l.calls
