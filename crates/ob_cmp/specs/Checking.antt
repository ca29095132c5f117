-- What a check over a folder answers.
use Rattle.std.specs.Prelude.{◌≡◌, ℕ, ◌≤◌, List, map as each, Option, Some, None, Result, Ok, Err, IsErrOf}
use Rattle.ob_tree.specs.declared.print.Print.{Print}
use Rattle.ob_io.specs.Io.{Rose}
use Rattle.ob_obj.specs.declared.file.ObjFile.{ObjFile}
use Rattle.ob_sym.specs.Grammar.{face as face_form}
use Rattle.ob_types.specs.declared.face.Interface.{Interface}
use Rattle.ob_env.specs.Faces.{Wanted, Face, wanted_of, face_of}
use Rattle.ob_env.specs.Stale.{IsAbsent, compared, prints_agree}
use Rattle.ob_cmp.specs.declared.verdict.Stale.{Stale}
use Rattle.ob_cmp.specs.declared.check.CheckFault.{CheckFault}
use Rattle.ob_cmp.specs.declared.check.CheckFault.TheVariants as fault
use Rattle.ob_cmp.specs.Check.{Checked, IsStale, NoObject, DamagedFile, LongFile, Present, NotThere, TooLong, Refused, There, stale_if, in_face, print_of_desc}

-- Want of memory and a failed folder say nothing.
abbrev pub ChecksAs : Checked → Result (List Stale) CheckFault → Type 0
ChecksAs c (Ok l) = c ≡ IsStale l
ChecksAs c (Err fault.NoObject) = c ≡ NoObject
ChecksAs c (Err (fault.Damaged m)) = c ≡ DamagedFile m
ChecksAs c (Err (fault.Long m)) = c ≡ LongFile m
ChecksAs c (Err fault.Folder) = Unit {0}
ChecksAs c (Err fault.Memory) = Unit {0}

-- The folder is named only where its count rose, and the count never falls.
pub record CheckHasCause {T : Type 0} (before now : ℕ) (result : Result T CheckFault) : Type 0 where
  pub later : before ≤ now
  pub failed : IsErrOf result fault.Folder → Rose before now

-- ---- in parts

-- what is found of a module's symbol file
abbrev pub faces_in : Option Interface → Present (Face Print)
faces_in None = NotThere
faces_in (Some i) = There (face_of i)

abbrev pub SeesFace : List ℕ → Present (Face Print) → Result (Option Interface) CheckFault → Type 0
SeesFace m p (Ok o) = p ≡ faces_in o
SeesFace m p (Err fault.NoObject) = ⊥
SeesFace m p (Err (fault.Damaged n)) = (n ≡ m) × (p ≡ Refused)
SeesFace m p (Err (fault.Long n)) = (n ≡ m) × (p ≡ TooLong)
SeesFace m p (Err fault.Folder) = Unit {0}
SeesFace m p (Err fault.Memory) = Unit {0}

-- what is found of its object file
abbrev pub SeesUses : List ℕ → Present (List (Wanted Print)) → Result ObjFile CheckFault → Type 0
SeesUses m p (Ok f) = p ≡ There (each wanted_of f.head.uses)
SeesUses m p (Err fault.NoObject) = p ≡ NotThere
SeesUses m p (Err (fault.Damaged n)) = (n ≡ m) × (p ≡ Refused)
SeesUses m p (Err (fault.Long n)) = (n ≡ m) × (p ≡ TooLong)
SeesUses m p (Err fault.Folder) = Unit {0}
SeesUses m p (Err fault.Memory) = Unit {0}

-- an interface that was read has a symbol file
abbrev pub FaceFits : Option Interface → Type 0
FaceFits None = Unit {0}
FaceFits (Some i) = face_form.fits i

-- the uses so far that are stale, and what the rest comes to
abbrev pub stale_in : Option Interface → Wanted Print → List Stale
stale_in None w = stale_if w IsAbsent
stale_in (Some i) w = stale_if w (compared prints_agree w.kept (in_face print_of_desc (face_of i) w.object w.aspect))

-- an interface is that of this module
abbrev pub IsOf : List ℕ → Option Interface → Type 0
IsOf m None = Unit {0}
IsOf m (Some i) = i.«module» ≡ m

-- what was read last is what is found of its module
abbrev pub Keeps : (List ℕ → Present (Face Print)) → Option (List ℕ) → Option Interface → Type 0
Keeps find None o = Unit {0}
Keeps find (Some m) o = find m ≡ faces_in o

abbrev pub Names : Option (List ℕ) → Option Interface → Type 0
Names None o = Unit {0}
Names (Some m) o = IsOf m o

-- the file of this module was read, or why not
abbrev pub Reads : (List ℕ → Present (Face Print)) → List ℕ → Option Interface → Result (Unit {0}) CheckFault → Type 0
Reads find m o (Ok u) = find m ≡ faces_in o
Reads find m o (Err e) = SeesFace m (find m) (Err e)
