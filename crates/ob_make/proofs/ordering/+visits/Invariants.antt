use Rattle.std.proofs.Common.{◌≡◌, ◌+◌, ◌*◌, ◌≤◌, true, length}
use Rattle.std.specs.Prelude.{reverse}
use Rattle.ob_link.specs.Walk.{all_in_turn, visit}
use Rattle.ob_make.specs.Order.{steps}
use Rattle.ob_make.specs.Folder.{seen_in}
use Rattle.ob_make.proofs.ordering.+visits.Given as goal

abbrev pub decreases-visit : goal.decreases-visit
decreases-visit g l = 4 * l.deep

abbrev pub decreases-enter : goal.decreases-enter
decreases-enter g l = 4 * l.deep + 3

abbrev pub decreases-below : goal.decreases-below
decreases-below g l = 4 * l.deep + 2

abbrev pub decreases-visit_all : goal.decreases-visit_all
decreases-visit_all g l = 4 * l.deep + 1

abbrev pub invariant-visit_all-loop-rest : goal.invariant-visit_all-loop-rest
invariant-visit_all-loop-rest g l =
    (g.F.Shelf.tells l.folder ≡ g.F.Shelf.tells l.fn.folder)
    × (g.F.Shelf.tells l.fn.folder ≡ true → g.F.Shelf.files l.folder ≡ g.F.Shelf.files l.fn.folder)
    × (l.path.items ≡ l.fn.path.items)
    × (g.F.Shelf.tells l.fn.folder ≡ true → all_in_turn (visit (steps (seen_in (g.F.Shelf.files l.fn.folder))) l.deep (reverse l.fn.path.items)) l.rest l.left ≡ all_in_turn (visit (steps (seen_in (g.F.Shelf.files l.fn.folder))) l.deep (reverse l.fn.path.items)) l.names l.fn.left)
    × (g.F.Shelf.faults l.fn.folder ≤ g.F.Shelf.faults l.folder)

abbrev pub decreases-visit_all-loop-rest : goal.decreases-visit_all-loop-rest
decreases-visit_all-loop-rest g l = length l.rest
