use Rattle.std.proofs.Common.{◌≡◌, ◌≤◌, [], true, List}
use Rattle.ob_obj.specs.declared.file.ObjFile.{ObjFile}
use Rattle.ob_link.specs.Walk.{visit, most_deep}
use Rattle.ob_link.specs.Plan.{steps}
use Rattle.ob_link.specs.Files.{asks, object_entry}
use Rattle.ob_link.specs.Contract.{AreLoaded}
use Rattle.ob_link.specs.Walking.{resume, stack, IsWalk}
use Rattle.ob_link.proofs.walking.walk_from.Given as goal

abbrev pub invariant-loop : goal.invariant-loop
invariant-loop g l = record {
  is_walk : IsWalk l.loaded l.walk.path.items l.walk.on_path l.walk.files l.walk.planned;
  told : g.F.Shelf.tells l.folder ≡ g.F.Shelf.tells l.fn.folder;
  same : g.F.Shelf.tells l.fn.folder ≡ true → g.F.Shelf.files l.folder ≡ g.F.Shelf.files l.fn.folder;
  later : g.F.Shelf.faults l.fn.folder ≤ g.F.Shelf.faults l.folder;
  walked : g.F.Shelf.tells l.fn.folder ≡ true → (fs : List ObjFile) → AreLoaded l.loaded fs → visit (steps asks (object_entry (g.F.Shelf.files l.fn.folder)) fs) most_deep [] l.«module» [] ≡ resume (steps asks (object_entry (g.F.Shelf.files l.fn.folder)) fs) most_deep (stack l.walk.path.items) l.walk.files;
}
