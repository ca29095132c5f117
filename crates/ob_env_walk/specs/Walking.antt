-- What a walk over a folder answers.
use Rattle.std.specs.Prelude.{◌≡◌, ℕ, ◌≤◌, List, Result, Ok, Err, IsErrOf}
use Rattle.std.specs.List.{AllByRecursion}
use Rattle.ob_io.specs.Io.{Rose}
use Rattle.ob_sym.specs.Grammar.{IsObjectOf}
use Rattle.ob_tree.specs.declared.print.Print.{Print}
use Rattle.ob_types.specs.declared.face.Interface.{Interface}
use Rattle.ob_env_walk.specs.declared.walking.WalkStop.{WalkStop}
use Rattle.ob_env_walk.specs.declared.walking.WalkStop.TheVariants as stop
use Rattle.ob_env_walk.specs.declared.walking.Looked.{Looked}
use Rattle.ob_env_walk.specs.declared.walking.Looked.TheVariants as looked
use Rattle.ob_env.specs.Faces.{face_of, faces_of}
use Rattle.ob_env_walk.specs.Walk.{Entry, Missing, Junk, Holds, Walked, Left, NoInterface, Damaged, Cycle, TooMany}

abbrev pub entry_of : Looked → Entry Print
entry_of looked.Missing = Missing
entry_of looked.Junk = Junk
entry_of (looked.Holds i) = Holds (face_of i)

-- Want of memory and a failed folder say nothing.
abbrev pub Looks : Entry Print → Result Looked WalkStop → Type 0
Looks e (Ok l) = e ≡ entry_of l
Looks e (Err stop.Folder) = Unit {0}
Looks e (Err stop.Memory) = Unit {0}
Looks e (Err s) = ⊥

abbrev pub StopsAs : Walked Print → WalkStop → Type 0
StopsAs w (stop.NoInterface m) = w ≡ NoInterface m
StopsAs w (stop.Damaged m) = w ≡ Damaged m
StopsAs w (stop.Cycle m) = w ≡ Cycle m
StopsAs w stop.TooMany = w ≡ TooMany
StopsAs w stop.Folder = Unit {0}
StopsAs w stop.Memory = Unit {0}

-- a part of a walk, with the interfaces that were left by its end
abbrev pub Goes : Walked Print → List Interface → Result (Unit {0}) WalkStop → Type 0
Goes w left (Ok u) = w ≡ Left (faces_of left)
Goes w left (Err s) = StopsAs w s

-- a whole walk
abbrev pub Comes : Walked Print → Result (List Interface) WalkStop → Type 0
Comes w (Ok left) = w ≡ Left (faces_of left)
Comes w (Err s) = StopsAs w s

-- The interface of a module that was found carries the prints of its objects' texts.
abbrev pub CarriesAll : Interface → Type 0
CarriesAll i = AllByRecursion (λ o. IsObjectOf i.«module» o) i.objects

abbrev pub Carries : Looked → Type 0
Carries looked.Missing = Unit {0}
Carries looked.Junk = Unit {0}
Carries (looked.Holds i) = CarriesAll i

-- The folder is named only where its count rose, and the count never falls.
pub record WalkHasCause {T : Type 0} (before now : ℕ) (result : Result T WalkStop) : Type 0 where
  pub later : before ≤ now
  pub failed : IsErrOf result stop.Folder → Rose before now
