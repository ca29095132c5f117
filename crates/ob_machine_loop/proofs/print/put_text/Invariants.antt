use Rattle.std.proofs.Common.{◌≡◌, true, ◌≤◌, ◌-◌, ◌++◌, take, drop}
use Rattle.ob_instr.specs.Rows.{low_bytes}
use Rattle.ob_machine_loop.proofs.print.put_text.Given as goal

abbrev pub invariant-chars : goal.invariant-chars
invariant-chars g l =
    (l.i ≤ l.count)
    × (g.S.Sink.tells l.out ≡ g.S.Sink.tells l.fn.out)
    × (g.S.Sink.tells l.fn.out ≡ true → g.S.Sink.taken l.out ≡ g.S.Sink.taken l.fn.out ++ low_bytes (take l.i (drop l.start l.words.words)))
    × (g.S.Sink.faults l.fn.out ≤ g.S.Sink.faults l.out)

abbrev pub decreases-chars : goal.decreases-chars
decreases-chars g l = l.count - l.i
