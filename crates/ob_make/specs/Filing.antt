-- What is found of the files of a module, as the code has it.
use Rattle.std.specs.Prelude.{◌≡◌, ◌≤◌, ℕ, cond, nat_le, List, length, Option, Some, None, Result, Ok, Err}
use Rattle.ob_sym.specs.Grammar.{face as face_form}
use Rattle.ob_types.specs.declared.face.Interface.{Interface}
use Rattle.ob_cmp.specs.Check.{Present, NotThere, TooLong, Refused, There}
use Rattle.ob_make.specs.Seen.{Source, NoSource, Imports}
use Rattle.ob_make.specs.declared.fault.MakeFault.{MakeFault}
use Rattle.ob_make.specs.declared.fault.MakeFault.TheVariants as fault
use Rattle.ob_make.specs.declared.files.Bytes.{Bytes}
use Rattle.ob_make.specs.declared.files.Bytes.TheVariants as bytes
use Rattle.ob_make.specs.declared.files.Filed.{Filed}
use Rattle.ob_make.specs.declared.files.Filed.TheVariants as filed

-- an answer that is seen as something else; of the faults only a failed folder and want of memory come
abbrev pub AnswersBy : {T X : Type 0} → (T → X) → X → Result T MakeFault → Type 0
AnswersBy view x (Ok y) = x ≡ view y
AnswersBy view x (Err (fault.Cycle m)) = ⊥
AnswersBy view x (Err (fault.TooMany count)) = ⊥
AnswersBy view x (Err fault.Folder) = Unit {0}
AnswersBy view x (Err fault.Memory) = Unit {0}

-- ---- bytes

abbrev pub bytes_seen : Bytes → Present (List ℕ)
bytes_seen bytes.Absent = NotThere
bytes_seen bytes.Long = TooLong
bytes_seen (bytes.Held v) = There v.items

-- a file of at most so many bytes
abbrev pub bytes_within : ℕ → Option (List ℕ) → Present (List ℕ)
bytes_within limit None = NotThere
bytes_within limit (Some text) = cond (nat_le (length text) limit) (There text) TooLong

abbrev pub AreWithin : ℕ → Bytes → Type 0
AreWithin limit bytes.Absent = Unit {0}
AreWithin limit bytes.Long = Unit {0}
AreWithin limit (bytes.Held v) = length v.items ≤ limit

-- what bytes that are there are read as
abbrev pub onto : {X : Type 0} → (List ℕ → Present X) → Present (List ℕ) → Present X
onto read NotThere = NotThere
onto read TooLong = TooLong
onto read Refused = Refused
onto read (There text) = read text

-- ---- the files

abbrev pub seen : {T X : Type 0} → (T → X) → Filed T → Present X
seen view filed.Absent = NotThere
seen view filed.Long = TooLong
seen view filed.Damaged = Refused
seen view (filed.Holds it) = There (view it)

-- an interface that was read has a symbol file, and is that of this module
abbrev pub IsFaceOf : List ℕ → Filed Interface → Type 0
IsFaceOf m filed.Absent = Unit {0}
IsFaceOf m filed.Long = Unit {0}
IsFaceOf m filed.Damaged = Unit {0}
IsFaceOf m (filed.Holds i) = face_form.fits i × (i.«module» ≡ m)

abbrev pub sourced : Option (List (List ℕ)) → Source
sourced None = NoSource
sourced (Some ms) = Imports ms
