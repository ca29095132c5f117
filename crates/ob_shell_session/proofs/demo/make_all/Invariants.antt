use Rattle.std.proofs.Common.{◌≡◌, ◌≤◌, ◌+◌, ◌-◌, ◌*◌}
use Rattle.ob_io.specs.Kept.{file_in}
use Rattle.ob_shell_model.specs.Bytes.{demo_made, demo_from}
use Rattle.ob_shell_session.proofs.demo.make_all.Given as goal

abbrev pub invariant-modules : goal.invariant-modules
invariant-modules g l =
    (1 ≤ l.at)
    × (l.at ≤ l.count + 1)
    × (l.objects + 4096 ≤ l.at * 4096)
    × (demo_made l.count ≡ demo_from l.count (l.count + 1 - l.at) l.at l.objects (file_in l.folder.pairs))

abbrev pub decreases-modules : goal.decreases-modules
decreases-modules g l = l.count + 1 - l.at
