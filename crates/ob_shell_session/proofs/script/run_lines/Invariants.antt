use Rattle.std.proofs.Common.{◌≡◌, ◌≤◌, ◌+◌, ◌-◌, ◌++◌, true, false}
use Rattle.ob_shell_session.specs.Stand.{Goes}
use Rattle.ob_shell_session.proofs.script.run_lines.Given as goal

abbrev pub invariant-lines : goal.invariant-lines
invariant-lines g l =
    (l.taken ≤ 1048576)
    × (l.n ≤ l.taken + 1)
    × (g.I.Source.tells l.script ≡ g.I.Source.tells l.fn.script)
    × (g.F.Shelf.tells l.folder ≡ g.F.Shelf.tells l.fn.folder)
    × (g.O.Sink.tells l.out ≡ g.O.Sink.tells l.fn.out)
    × (g.I.Source.faults l.fn.script ≤ g.I.Source.faults l.script)
    × (g.F.Shelf.faults l.fn.folder ≤ g.F.Shelf.faults l.folder)
    × (g.O.Sink.faults l.fn.out ≤ g.O.Sink.faults l.out)
    × (g.I.Source.tells l.fn.script ≡ true → g.F.Shelf.tells l.fn.folder ≡ true → g.O.Sink.tells l.fn.out ≡ true → Goes l.settings (g.O.Sink.taken l.fn.out) (g.O.Sink.taken l.out) (g.F.Shelf.files l.fn.folder) (g.F.Shelf.files l.folder) (g.I.Source.left l.fn.script) l.system l.n l.taken (l.input ++ g.I.Source.left l.script) l.refused false)

abbrev pub decreases-lines : goal.decreases-lines
decreases-lines g l = 1048576 - l.taken
