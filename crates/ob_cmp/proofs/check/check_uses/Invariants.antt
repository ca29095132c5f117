use Rattle.std.proofs.Common.{◌≡◌, ◌≤◌, true, length}
use Rattle.std.specs.Prelude.{map as each}
use Rattle.ob_env.specs.Faces.{wanted_of}
use Rattle.ob_env.specs.Stale.{prints_agree}
use Rattle.ob_cmp.specs.Check.{checked_uses, and_also, print_of_desc, symbols_of}
use Rattle.ob_cmp.specs.Checking.{FaceFits, Keeps, Names}
use Rattle.ob_cmp.proofs.check.check_uses.Given as goal

abbrev pub invariant-loop-rest : goal.invariant-loop-rest
invariant-loop-rest g l =
    (g.F.Shelf.tells l.folder ≡ g.F.Shelf.tells l.fn.folder)
    × (g.F.Shelf.tells l.fn.folder ≡ true → g.F.Shelf.files l.folder ≡ g.F.Shelf.files l.fn.folder)
    × (g.F.Shelf.tells l.fn.folder ≡ true → checked_uses prints_agree print_of_desc (symbols_of (g.F.Shelf.files l.fn.folder)) (each wanted_of l.uses) ≡ and_also l.stale (checked_uses prints_agree print_of_desc (symbols_of (g.F.Shelf.files l.fn.folder)) (each wanted_of l.rest)))
    × (g.F.Shelf.tells l.fn.folder ≡ true → Keeps (symbols_of (g.F.Shelf.files l.fn.folder)) l.read l.face)
    × FaceFits l.face
    × Names l.read l.face
    × (g.F.Shelf.faults l.fn.folder ≤ g.F.Shelf.faults l.folder)

abbrev pub decreases-loop-rest : goal.decreases-loop-rest
decreases-loop-rest g l = length l.rest
