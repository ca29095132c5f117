use Rattle.std.proofs.Common.{◌≡◌, ◌≤◌, ◌+◌, ◌-◌, ◌++◌, true, length}
use Rattle.ob_shell_input.specs.Reading.{is_open}
use Rattle.ob_shell_input.proofs.reading.next_line.Given as goal

abbrev pub invariant-bytes : goal.invariant-bytes
invariant-bytes g l =
    (l.taken + length l.line.items ≡ l.count)
    × (length l.line.items ≤ 1024)
    × (l.count ≤ 1048576)
    × (is_open l.line.items ≡ true)
    × (g.I.Source.tells l.script ≡ g.I.Source.tells l.fn.script)
    × (g.I.Source.faults l.fn.script ≤ g.I.Source.faults l.script)
    × (g.I.Source.tells l.fn.script ≡ true → l.fn.input ++ g.I.Source.left l.fn.script ≡ l.line.items ++ (l.input ++ g.I.Source.left l.script))

abbrev pub decreases-bytes : goal.decreases-bytes
decreases-bytes g l = 1048577 - l.count
