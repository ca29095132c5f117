-- How far a walk has come that keeps its path in a list.
use Rattle.std.specs.Prelude.{◌≡◌, ℕ, suc, ◌-◌, ◌≤◌, List, [], ◌∷◌, ◌++◌, drop, map, length, false, None, Result, Ok, Err}
use Rattle.std.specs.List.{AllByRecursion}
use Rattle.ob_tree.specs.declared.print.Print.{Print}
use Rattle.ob_obj.specs.declared.file.ObjFile.{ObjFile}
use Rattle.ob_obj.specs.Grammar.{file}
use Rattle.ob_link.specs.declared.fault.LoadFault.{LoadFault}
use Rattle.ob_link.specs.declared.fault.LoadFault.TheVariants as fault
use Rattle.ob_link.specs.declared.fault.LoadRefusal.{LoadRefusal}
use Rattle.ob_link.specs.declared.walking.Frame.{Frame}
use Rattle.ob_link.specs.declared.walking.Walk.{Walk}
use Rattle.ob_link.specs.declared.walking.Looked.{Looked}
use Rattle.ob_link.specs.declared.walking.Looked.TheVariants as looked
use Rattle.ob_link.specs.Walk.{Steps, visit, has, all_in_turn, and_then, leaves, most_deep}
use Rattle.ob_link.specs.Plan.{Entry, Missing, TooLong, Junk, Holds, Refusal, steps, is_there}
use Rattle.ob_link.specs.Files.{Files, asks, object_entry, answered}
use Rattle.ob_link.specs.Members.{Known, member_of, member_named}
use Rattle.ob_link.specs.Judging.{breaks}
use Rattle.ob_link.specs.Contract.{AreLoaded}

-- ---- a file that is looked for

abbrev pub entry_for : Looked → Entry ObjFile
entry_for looked.Missing = Missing
entry_for looked.Long = TooLong
entry_for looked.Junk = Junk
entry_for (looked.Holds f) = Holds f

abbrev pub Looks : Entry ObjFile → Result Looked LoadFault → Type 0
Looks e (Ok l) = e ≡ entry_for l
Looks e (Err (fault.Refused s)) = ⊥
Looks e (Err fault.Folder) = Unit {0}
Looks e (Err fault.Memory) = Unit {0}

-- a file that was found has a spelling and is of the module
abbrev pub IsFound : List ℕ → Looked → Type 0
IsFound name (looked.Holds f) = file.fits f × (f.head.«module» ≡ name)
IsFound name looked.Missing = Unit {0}
IsFound name looked.Long = Unit {0}
IsFound name looked.Junk = Unit {0}

-- ---- the path

-- a file on the path, and its imports that are still to be visited
abbrev pub Opened : Type 0
Opened = ObjFile × List (List ℕ)

abbrev pub open_of : Frame → Opened
open_of f = (f.file, drop f.next f.file.head.imports)

abbrev pub stack_on : List Opened → List Frame → List Opened
stack_on os [] = os
stack_on os (f ∷ fs) = stack_on (open_of f ∷ os) fs

-- the newest first
abbrev pub stack : List Frame → List Opened
stack fs = stack_on [] fs

abbrev pub path_of : List Opened → List (List ℕ)
path_of [] = []
path_of (o ∷ os) = o.0.head.«module» ∷ path_of os

abbrev pub names_on : List Frame → List (List ℕ)
names_on fs = map (λ f. f.file.head.«module») fs

-- ---- the walk

abbrev pub Visited : Type 0
Visited = Result (List ObjFile) (Refusal Print)

-- the rest of a walk: the imports of the newest that are left, then the newest leaves, and so on
unfoldable pub resume : Steps ObjFile (Refusal Print) → ℕ → List Opened → List ObjFile → Visited
resume steps deep [] left = Ok left
resume steps deep (o ∷ os) left =
    and_then (and_then (all_in_turn (visit steps (deep - suc (length os)) (path_of (o ∷ os))) o.1 left) (λ now. leaves (steps.refuses now o.0) o.0 now)) (resume steps deep os)

-- a visit, and the rest of the walk
abbrev pub visits : Steps ObjFile (Refusal Print) → ℕ → List Opened → List ℕ → List ObjFile → Visited
visits steps deep os name left = and_then (visit steps (deep - length os) (path_of os) name left) (resume steps deep os)

abbrev pub Stops : Visited → LoadRefusal → Type 0
Stops (Ok left) s = ⊥
Stops (Err r) s = s ≡ answered r

-- a part of a walk, which comes to the same as what is left of it, or stops
abbrev pub Goes : Visited → Visited → Result (Unit {0}) LoadFault → Type 0
Goes v after (Ok u) = v ≡ after
Goes v after (Err (fault.Refused s)) = Stops v s
Goes v after (Err fault.Folder) = Unit {0}
Goes v after (Err fault.Memory) = Unit {0}

-- the visit of a module from one path to another one
abbrev pub Visits : Files → List Known → List Frame → List ObjFile → List ℕ → List Frame → List ObjFile → Result (Unit {0}) LoadFault → Type 0
Visits files loaded old left name new now result = (fs : List ObjFile) → AreLoaded loaded fs → Goes (visits (steps asks (object_entry files) fs) most_deep (stack old) name left) (resume (steps asks (object_entry files) fs) most_deep (stack new) now) result

-- a step from one path to another one
abbrev pub Advances : Files → List Known → List Frame → List ObjFile → List Frame → List ObjFile → Result (Unit {0}) LoadFault → Type 0
Advances files loaded old left new now result = (fs : List ObjFile) → AreLoaded loaded fs → Goes (resume (steps asks (object_entry files) fs) most_deep (stack old) left) (resume (steps asks (object_entry files) fs) most_deep (stack new) now) result

-- ---- what is so all along

-- the names of a path are not of these modules, and differ
abbrev pub Apart : List Known → List (List ℕ) → Type 0
Apart ks [] = Unit {0}
Apart ks (n ∷ path) = (is_there (member_named n ks) ≡ false) × (has n path ≡ false) × Apart ks path

-- each of these files has a spelling, is of a module that is not there yet, and nothing refuses it behind those before it
abbrev pub Stand : List Known → List ObjFile → Type 0
Stand ks [] = Unit {0}
Stand ks (f ∷ files) = file.fits f × (is_there (member_named f.head.«module» ks) ≡ false) × (breaks ks f ≡ None) × Stand (ks ++ member_of f ∷ []) files

pub record IsWalk (loaded : List Known) (frames : List Frame) (on_path : List (List ℕ)) (files : List ObjFile) (new : List Known) : Type 0 where
  pub known : new ≡ map member_of files
  pub names : on_path ≡ names_on frames
  pub fits : AllByRecursion (λ f. file.fits f.file) frames
  pub apart : Apart (loaded ++ new) (path_of (stack frames))
  pub short : length frames ≤ 65536
  pub few : length (loaded ++ new) ≤ 255
  pub stand : Stand loaded files

-- the begin of a walk
abbrev pub Begins : Steps ObjFile (Refusal Print) → ℕ → Visited → Result Walk LoadFault → Type 0
Begins steps deep v (Ok w) = v ≡ resume steps deep (stack w.path.items) w.files
Begins steps deep v (Err (fault.Refused s)) = Stops v s
Begins steps deep v (Err fault.Folder) = Unit {0}
Begins steps deep v (Err fault.Memory) = Unit {0}

-- a whole walk
abbrev pub Walks : Visited → Result Walk LoadFault → Type 0
Walks v (Ok w) = v ≡ Ok w.files
Walks v (Err (fault.Refused s)) = Stops v s
Walks v (Err fault.Folder) = Unit {0}
Walks v (Err fault.Memory) = Unit {0}
