-- The plan over the object files of a folder.
use Rattle.std.specs.Prelude.{ℕ, suc, List, [], ◌∷◌, ◌++◌, Bool, true, false, not, ◌&&◌, ◌||◌, nat_lt, nat_eq, if◌then◌else◌, length, map, slice_get, Option, Some, None, Result, bytes_eq, codes}
use Rattle.ob_tree.specs.declared.print.Print.{Print}
use Rattle.ob_tree.specs.declared.names.QName.{QName}
use Rattle.ob_tree.specs.declared.proc_ref.ProcRef.{ProcRef}
use Rattle.ob_types.specs.declared.face.Aspect.{Aspect}
use Rattle.ob_types.specs.Spelled.{aspect_number}
use Rattle.ob_instr.specs.declared.procedure.Procedure.{Procedure}
use Rattle.ob_obj.specs.declared.parts.Export.{Export}
use Rattle.ob_obj.specs.declared.parts.Link.{Link}
use Rattle.ob_obj.specs.declared.parts.Command.{Command}
use Rattle.ob_obj.specs.declared.parts.Variable.{Variable}
use Rattle.ob_obj.specs.declared.parts.RecordType.{RecordType}
use Rattle.ob_obj.specs.declared.file.ObjFile.{ObjFile}
use Rattle.ob_obj.specs.Grammar.{file}
use Rattle.ob_obj.specs.Images.{global_words}
use Rattle.ob_env.specs.Faces.{wanted_of}
use Rattle.ob_link.specs.declared.fault.LoadRefusal.{LoadRefusal}
use Rattle.ob_link.specs.declared.fault.LoadRefusal.TheVariants as refusal
use Rattle.ob_link.specs.declared.shape.Plan.{Plan}
use Rattle.ob_link.specs.Walk.{first_of, or_first}
use Rattle.ob_link.specs.Plan as p
use Rattle.ob_link.specs.Plan.{Entry, Missing, TooLong, Junk, Holds, Asks, Refusal, plan}

-- the file that a name has
abbrev pub Files : Type 0
Files = List ℕ → Option (List ℕ)

-- FILES

abbrev pub object_file_name : List ℕ → List ℕ
object_file_name name = name ++ codes ".Obj"

-- the most bytes of a file
abbrev pub most_bytes : ℕ
most_bytes = 16777216

abbrev pub when_all : {A : Type 0} → Option (A × List ℕ) → Option A
when_all None = None
when_all (Some (x, [])) = Some x
when_all (Some (x, b ∷ bs)) = None

-- the object file that bytes spell, all of them
unfoldable pub decoded : List ℕ → Option ObjFile
decoded bytes = when_all (file.take bytes)

-- a file that names another module is none
abbrev pub decoded_as : List ℕ → Option ObjFile → Entry ObjFile
decoded_as name None = Junk
decoded_as name (Some f) = if bytes_eq f.head.«module» name then Holds f else Junk

abbrev pub entry_of : List ℕ → Option (List ℕ) → Entry ObjFile
entry_of name None = Missing
entry_of name (Some bytes) = if nat_lt most_bytes (length bytes) then TooLong else decoded_as name (decoded bytes)

abbrev pub object_entry : Files → List ℕ → Entry ObjFile
object_entry files name = entry_of name (files (object_file_name name))

-- WHAT A FILE HAS

abbrev pub same_aspect : Aspect → Aspect → Bool
same_aspect a b = nat_eq (aspect_number a) (aspect_number b)

-- two prints agree where they are equal
abbrev pub agrees : Print → Print → Bool
agrees a b = bytes_eq a.0 b.0

abbrev pub exported : List ℕ → Aspect → List Export → Option Print
exported name aspect [] = None
exported name aspect (e ∷ es) = if bytes_eq name e.name && same_aspect aspect e.aspect then Some e.print else exported name aspect es

abbrev pub has_variable : List ℕ → List Variable → Bool
has_variable name [] = false
has_variable name (v ∷ vs) = bytes_eq name v.name || has_variable name vs

abbrev pub command_number : List ℕ → List Command → Option ℕ
command_number name [] = None
command_number name (c ∷ cs) = if bytes_eq name c.name then Some c.procedure else command_number name cs

abbrev pub has_procedure : List ℕ → List Command → Bool
has_procedure name cs = p.is_there (command_number name cs)

abbrev pub has_type : List ℕ → List RecordType → Bool
has_type name [] = false
has_type name (t ∷ ts) = bytes_eq name t.name || has_type name ts

-- a procedure without parameters and result
abbrev pub is_plain : Option Procedure → Bool
is_plain None = false
is_plain (Some q) = nat_eq (length q.params) 0 && not q.has_result

abbrev pub numbered : ObjFile → Option ℕ → Option ℕ
numbered f None = None
numbered f (Some n) = if is_plain (slice_get f.body.procedures n) then Some n else None

-- the number of the procedure of a command
abbrev pub command_in : ObjFile → List ℕ → Option ℕ
command_in f name = numbered f (command_number name f.body.commands)

-- LINKS

abbrev pub file_named : List ℕ → List ObjFile → Option ObjFile
file_named name [] = None
file_named name (f ∷ fs) = if bytes_eq name f.head.«module» then Some f else file_named name fs

abbrev pub holds : (ObjFile → Bool) → Option ObjFile → Bool
holds test None = false
holds test (Some f) = test f

abbrev pub unless : QName → Bool → Option QName
unless q true = None
unless q false = Some q

abbrev pub linked : Link → QName
linked l = record { «module» = l.«module»; object = l.name }

abbrev pub unlinked_variable : List ObjFile → Link → Option QName
unlinked_variable fs l = unless (linked l) (holds (λ f. has_variable l.name f.globals.variables) (file_named l.«module» fs))

abbrev pub unlinked_procedure : List ObjFile → Link → Option QName
unlinked_procedure fs l = unless (linked l) (holds (λ f. has_procedure l.name f.body.commands) (file_named l.«module» fs))

abbrev pub unlinked_type : List ObjFile → QName → Option QName
unlinked_type fs q = unless q (holds (λ f. has_type q.object f.body.types) (file_named q.«module» fs))

-- its variables, then its procedures, then its types
abbrev pub unlinked : List ObjFile → ObjFile → Option QName
unlinked fs f = or_first (first_of (unlinked_variable fs) f.links.variables) (or_first (first_of (unlinked_procedure fs) f.links.procedures) (first_of (unlinked_type fs) f.links.types))

-- THE PLAN

abbrev pub asks : Asks ObjFile Print
asks = record {
  name = λ f. f.head.«module»;
  imports = λ f. f.head.imports;
  uses = λ f. map wanted_of f.head.uses;
  same = agrees;
  keeps = λ f name aspect. exported name aspect f.head.exports;
  unlinked = unlinked;
  words = global_words;
  has_command = λ f name. p.is_there (command_in f name);
}

-- the plan over the files of a folder, where these are loaded
unfoldable pub file_plan : Files → List ObjFile → List ℕ → List ℕ → Result (List ObjFile) (Refusal Print)
file_plan files loaded name command = plan asks (object_entry files) loaded name command

abbrev pub or_zero : Option ℕ → ℕ
or_zero None = 0
or_zero (Some k) = k

-- the number of a module, and of the procedure of its command
abbrev pub command_at : ℕ → List ℕ → List ℕ → List ObjFile → ProcRef
command_at n name command [] = record { «module» = 0; proc = 0 }
command_at n name command (f ∷ fs) = if bytes_eq name f.head.«module» then record { «module» = n; proc = or_zero (command_in f command) } else command_at (suc n) name command fs

-- as it is answered
abbrev pub planned : List ObjFile → List ℕ → List ℕ → List ObjFile → Plan
planned loaded name command files = record { files = files; command = command_at 0 name command (loaded ++ files) }

abbrev pub answered : Refusal Print → LoadRefusal
answered (p.NoObject m) = refusal.NoObject m
answered (p.Damaged m) = refusal.Damaged m
answered (p.Absent client object) = refusal.Absent client object
answered (p.Changed client object aspect wanted found) = refusal.Changed client object aspect wanted found
answered (p.Cycle m) = refusal.Cycle m
answered (p.NoRoom used asked) = refusal.NoRoom used asked
answered (p.TooMany count) = refusal.TooMany count
answered (p.NoCommand m command) = refusal.NoCommand m command
answered (p.Long m) = refusal.Limit m
