use Rattle.std.proofs.Common.{◌≡◌, ◌≤◌, true, length}
use Rattle.std.specs.Prelude.{map as each}
use Rattle.ob_env.specs.Faces.{wanted_of}
use Rattle.ob_cmp.specs.Check.{symbols_of}
use Rattle.ob_make.specs.Stale.{fails}
use Rattle.ob_make.specs.Folder.{prints}
use Rattle.ob_make.specs.Faces.{KeepsFaces}
use Rattle.ob_make.proofs.staleness.fails.Given as goal

abbrev pub invariant-loop-rest : goal.invariant-loop-rest
invariant-loop-rest g l =
    (g.F.Shelf.tells l.folder ≡ g.F.Shelf.tells l.fn.folder)
    × (g.F.Shelf.tells l.fn.folder ≡ true → g.F.Shelf.files l.folder ≡ g.F.Shelf.files l.fn.folder)
    × (g.F.Shelf.tells l.fn.folder ≡ true → fails prints (symbols_of (g.F.Shelf.files l.fn.folder)) (each wanted_of l.uses) ≡ fails prints (symbols_of (g.F.Shelf.files l.fn.folder)) (each wanted_of l.rest))
    × (g.F.Shelf.tells l.fn.folder ≡ true → KeepsFaces (symbols_of (g.F.Shelf.files l.fn.folder)) l.faces)
    × (g.F.Shelf.faults l.fn.folder ≤ g.F.Shelf.faults l.folder)

abbrev pub decreases-loop-rest : goal.decreases-loop-rest
decreases-loop-rest g l = length l.rest
