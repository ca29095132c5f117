use Rattle.std.proofs.Common.{◌≡◌, ◌+◌, ◌*◌, ◌≤◌, true, length}
use Rattle.std.specs.Prelude.{reverse}
use Rattle.ob_env_walk.specs.Walk.{symbol_entry, through, visit}
use Rattle.ob_env.specs.Faces.{faces_of}
use Rattle.ob_env.specs.Found.{CarryPrints}
use Rattle.ob_env_walk.proofs.walking.+visits.Given as goal

abbrev pub decreases-visit : goal.decreases-visit
decreases-visit g l = 4 * l.steps

abbrev pub decreases-enter : goal.decreases-enter
decreases-enter g l = 4 * l.steps + 3

abbrev pub decreases-below : goal.decreases-below
decreases-below g l = 4 * l.steps + 2

abbrev pub decreases-visit_all : goal.decreases-visit_all
decreases-visit_all g l = 4 * l.steps + 1

abbrev pub invariant-visit_all-loop-rest : goal.invariant-visit_all-loop-rest
invariant-visit_all-loop-rest g l =
    (g.F.Shelf.tells l.folder ≡ g.F.Shelf.tells l.fn.folder)
    × (g.F.Shelf.tells l.fn.folder ≡ true → g.F.Shelf.files l.folder ≡ g.F.Shelf.files l.fn.folder)
    × (l.path.items ≡ l.fn.path.items)
    × (g.F.Shelf.tells l.fn.folder ≡ true → through (visit (symbol_entry (g.F.Shelf.files l.fn.folder)) l.steps (reverse l.fn.path.items)) l.rest (faces_of l.left) ≡ through (visit (symbol_entry (g.F.Shelf.files l.fn.folder)) l.steps (reverse l.fn.path.items)) l.imports (faces_of l.fn.left))
    × (CarryPrints l.fn.left → CarryPrints l.left)
    × (g.F.Shelf.faults l.fn.folder ≤ g.F.Shelf.faults l.folder)

abbrev pub decreases-visit_all-loop-rest : goal.decreases-visit_all-loop-rest
decreases-visit_all-loop-rest g l = length l.rest
