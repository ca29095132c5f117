-- The uses of an object file that the present interfaces do not meet.
use Rattle.std.specs.Prelude.{ℕ, Bool, true, false, cond, nat_le, List, [], ◌∷◌, ◌++◌, map as each, length, Option, Some, None, bytes_eq, codes, decimal}
use Rattle.std.specs.Option.{option_map}
use Rattle.std.specs.List.{flat_map}
use Rattle.ob_tree.specs.declared.names.QName.{QName}
use Rattle.ob_tree.specs.declared.print.Print.{Print}
use Rattle.ob_types.specs.declared.face.Aspect.{Aspect}
use Rattle.ob_types.specs.declared.face.Aspect.TheVariants.{Shape, Layout}
use Rattle.ob_types.specs.declared.desc.Desc.{Desc}
use Rattle.ob_format.specs.Format.{◌>>=◌, whole}
use Rattle.ob_desc.specs.Grammar.{text_of}
use Rattle.ob_fprint.specs.Print.{print_from}
use Rattle.ob_obj.specs.Grammar.{file as object_form}
use Rattle.ob_obj.specs.declared.file.ObjFile.{ObjFile}
use Rattle.ob_cmp.specs.declared.verdict.Stale.{Stale}
use Rattle.ob_env.specs.Faces.{Wanted, Face, object_named, wanted_of, face_of}
use Rattle.ob_env_walk.specs.Walk.{file_limit, symbol_name}
use Rattle.ob_sym.specs.Grammar.{face as face_form}
use Rattle.ob_types.specs.declared.face.Interface.{Interface}
use Rattle.ob_env.specs.Stale.{Found, AsWanted, IsAbsent, IsChanged, compared, prints_agree}

-- the first thing that is wrong with a file, or the uses that are stale
pub data Checked : Type 0 where
  IsStale : (uses : List Stale) → Checked
  NoObject : Checked
  DamagedFile : (m : List ℕ) → Checked
  LongFile : (m : List ℕ) → Checked

-- ---- one use beside the present interface of its module

abbrev pub stale_if : {K : Type 0} → Wanted K → Found K → List Stale
stale_if w AsWanted = []
stale_if w IsAbsent = record { object = w.object; aspect = w.aspect; absent = true } ∷ []
stale_if w (IsChanged k) = record { object = w.object; aspect = w.aspect; absent = false } ∷ []

-- THE STALE USES where it is known what there is now
abbrev pub stale_uses : {K : Type 0} → (K → K → Bool) → (QName → Aspect → Option K) → List (Wanted K) → List Stale
stale_uses agree has uses = flat_map (λ w. stale_if w (compared agree w.kept (has w.object w.aspect))) uses

-- ---- what is found for a module: no file, one above the limit, one that its grammar refuses or that names another module, or what it holds
pub data Present (X : Type 0) : Type 0 where
  NotThere : Present X
  TooLong : Present X
  Refused : Present X
  There : (it : X) → Present X

abbrev pub and_also : List Stale → Checked → Checked
and_also before (IsStale more) = IsStale (before ++ more)
and_also before c = c

abbrev pub in_face : {K : Type 0} → (QName → Desc → Aspect → Option K) → Face K → QName → Aspect → Option K
in_face has f q aspect = object_named f.objects q.object >>= λ d. has q d aspect

abbrev pub beside : {K : Type 0} → (K → K → Bool) → (QName → Desc → Aspect → Option K) → Wanted K → Present (Face K) → Checked → Checked
beside agree has w NotThere rest = and_also (stale_if w IsAbsent) rest
beside agree has w TooLong rest = LongFile w.object.«module»
beside agree has w Refused rest = DamagedFile w.object.«module»
beside agree has w (There f) rest = and_also (stale_if w (compared agree w.kept (in_face has f w.object w.aspect))) rest

-- use by use; the uses of a module stand together, so its file is met at its first use
abbrev pub checked_uses : {K : Type 0} → (K → K → Bool) → (QName → Desc → Aspect → Option K) → (List ℕ → Present (Face K)) → List (Wanted K) → Checked
checked_uses agree has find [] = IsStale []
checked_uses agree has find (w ∷ ws) = beside agree has w (find w.object.«module») (checked_uses agree has find ws)

-- THE CHECK of a module whose object file has these uses, against the symbol files that are there; once for uses that keep texts and for those that keep prints
abbrev pub checked : {K : Type 0} → (K → K → Bool) → (QName → Desc → Aspect → Option K) → (List ℕ → Present (Face K)) → List ℕ → Present (List (Wanted K)) → Checked
checked agree has find m NotThere = NoObject
checked agree has find m TooLong = LongFile m
checked agree has find m Refused = DamagedFile m
checked agree has find m (There uses) = checked_uses agree has find uses

-- ---- by the bytes of the files

abbrev pub object_name : List ℕ → List ℕ
object_name m = m ++ codes ".Obj"

abbrev pub print_of_desc : QName → Desc → Aspect → Option Print
print_of_desc q d aspect = option_map print_from (text_of q d aspect)

-- a file of at most so many bytes
abbrev pub within : {X : Type 0} → (List ℕ → Present X) → Option (List ℕ) → Present X
within read None = NotThere
within read (Some bytes) = cond (nat_le (length bytes) file_limit) (read bytes) TooLong

abbrev pub if_named : {X : Type 0} → List ℕ → List ℕ → X → Present X
if_named m n x = cond (bytes_eq m n) (There x) Refused

abbrev pub face_found : List ℕ → Option Interface → Present (Face Print)
face_found m None = Refused
face_found m (Some i) = if_named m i.«module» (face_of i)

abbrev pub uses_found : List ℕ → Option ObjFile → Present (List (Wanted Print))
uses_found m None = Refused
uses_found m (Some f) = if_named m f.head.«module» (each wanted_of f.head.uses)

-- what the folder's symbol file of a module is
unfoldable pub symbols_of : (List ℕ → Option (List ℕ)) → List ℕ → Present (Face Print)
symbols_of files m = within (λ bytes. face_found m (whole face_form bytes)) (files (symbol_name m))

unfoldable pub object_of : (List ℕ → Option (List ℕ)) → List ℕ → Present (List (Wanted Print))
object_of files m = within (λ bytes. uses_found m (whole object_form bytes)) (files (object_name m))

-- THE ANSWER of `check M` over the files of a folder
abbrev pub check_of : (List ℕ → Option (List ℕ)) → List ℕ → Checked
check_of files m = checked prints_agree print_of_desc (symbols_of files) m (object_of files m)

-- ---- texts

abbrev pub aspect_text : Aspect → List ℕ
aspect_text Shape = codes "shape"
aspect_text Layout = codes "layout"

abbrev pub how_text : Bool → List ℕ
how_text true = codes "absent"
how_text false = codes "changed"

abbrev pub stale_line : Stale → List ℕ
stale_line s = s.object.«module» ++ codes "." ++ s.object.object ++ codes " " ++ aspect_text s.aspect ++ codes " " ++ how_text s.absent ++ codes "\n"

abbrev pub stale_text : List ℕ → List Stale → List ℕ
stale_text m [] = codes "check " ++ m ++ codes ": up to date\n"
stale_text m (s ∷ ss) = codes "check " ++ m ++ codes ": " ++ decimal (length (s ∷ ss)) ++ codes " stale\n" ++ flat_map stale_line (s ∷ ss)

abbrev pub check_text : List ℕ → Checked → List ℕ
check_text m (IsStale uses) = stale_text m uses
check_text m NoObject = codes "refused " ++ m ++ codes ": " ++ m ++ codes " has no object file\n"
check_text m (DamagedFile a) = codes "refused " ++ m ++ codes ": " ++ a ++ codes " damaged\n"
check_text m (LongFile a) = codes "refused " ++ m ++ codes ": " ++ a ++ codes " too long\n"

-- a check that finds a fault is a refused line
abbrev pub is_refused : Checked → Bool
is_refused (IsStale uses) = false
is_refused NoObject = true
is_refused (DamagedFile a) = true
is_refused (LongFile a) = true
