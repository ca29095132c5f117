-- What a load of object files has seen to.
use Rattle.std.proofs.Common.{◌≡◌, ℕ, Bool, true, false, List, length, Option, Some, None, Ok, refl, subst}
use Rattle.std.specs.Prelude.{if◌then◌else◌, bytes_eq, nat_lt}
use Rattle.std.proofs.lemmas.Slice.Eq.{bytes_eq-Decides}
use Rattle.ob_obj.specs.declared.file.ObjFile.{ObjFile}
use Rattle.ob_link.specs.Plan.{TooLong, Junk, Holds}
use Rattle.ob_link.specs.Files.{Files, asks, decoded, decoded_as, entry_of, most_bytes, object_file_name, object_entry, file_plan}
use Rattle.law_load_plan.specs.Seen.{IsSeenTo}
use Rattle.law_load_plan.proofs.Seen.{plan_sees}

-- ---- a file that a name has is of that module

if_named : (name : List ℕ) (f g : ObjFile) (b : Bool) → bytes_eq f.head.«module» name ≡ b → (if b then Holds f else Junk) ≡ Holds g → g.head.«module» ≡ name
if_named name f g true e h = let same : f ≡ g = cc in subst (λ x. x.head.«module» ≡ name) same ((bytes_eq-Decides f.head.«module» name).0 e)
if_named name f g false e h = absurd cc

decoded_named : (name : List ℕ) (o : Option ObjFile) (g : ObjFile) → decoded_as name o ≡ Holds g → g.head.«module» ≡ name
decoded_named name None g h = absurd cc
decoded_named name (Some f) g h = if_named name f g (bytes_eq f.head.«module» name) refl h

short_named : (name : List ℕ) (o : Option ObjFile) (g : ObjFile) (b : Bool) → (if b then TooLong else decoded_as name o) ≡ Holds g → g.head.«module» ≡ name
short_named name o g true h = absurd cc
short_named name o g false h = decoded_named name o g h

entry_named : (name : List ℕ) (bytes : Option (List ℕ)) (g : ObjFile) → entry_of name bytes ≡ Holds g → g.head.«module» ≡ name
entry_named name None g h = absurd cc
entry_named name (Some bytes) g h = short_named name (decoded bytes) g (nat_lt most_bytes (length bytes)) h

pub load_sees : (folder : Files) (loaded : List ObjFile) (name command : List ℕ) (new : List ObjFile) → file_plan folder loaded name command ≡ Ok new → IsSeenTo asks (object_entry folder) loaded name command new
unfolding file_plan
load_sees folder loaded name command new e = plan_sees asks (object_entry folder) (λ n f h. entry_named n (folder (object_file_name n)) f h) loaded name command new e
