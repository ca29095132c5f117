-- What refuses a file behind modules of which this is known.
use Rattle.std.specs.Prelude.{ℕ, ◌+◌, List, [], ◌∷◌, Bool, false, ◌||◌, length, map, Option, Some, None, bytes_eq, codes, if◌then◌else◌}
use Rattle.ob_tree.specs.declared.names.QName.{QName}
use Rattle.ob_tree.specs.declared.print.Print.{Print}
use Rattle.ob_tree.specs.declared.proc_ref.ProcRef.{ProcRef}
use Rattle.ob_types.specs.declared.face.Aspect.{Aspect}
use Rattle.ob_types.specs.declared.face.Use.{Use}
use Rattle.ob_env.specs.Faces.{wanted_of}
use Rattle.ob_obj.specs.declared.parts.Link.{Link}
use Rattle.ob_obj.specs.declared.file.Links.{Links}
use Rattle.ob_obj.specs.declared.file.ObjFile.{ObjFile}
use Rattle.ob_link.specs.declared.exported.Exported.{Exported}
use Rattle.ob_link.specs.Index.{place_from}
use Rattle.ob_link.specs.Walk.{first_of, or_first}
use Rattle.ob_link.specs.Plan.{Refusal, use_against, absent, too_many, is_there}
use Rattle.ob_link.specs.Files.{exported, has_variable, agrees, linked, unless}
use Rattle.ob_link.specs.Members.{Known, member_named, procedure_named}

-- the print that a module exports
abbrev pub kept_of : Option Known → List ℕ → Aspect → Option Print
kept_of None name aspect = None
kept_of (Some k) name aspect = exported name aspect k.exports

abbrev pub use_break : List Known → List ℕ → Use → Option (Refusal Print)
use_break ks client u = use_against agrees client (wanted_of u) (kept_of (member_named u.object.«module» ks) u.object.object u.aspect)

abbrev pub variable_in : Option Known → List ℕ → Bool
variable_in None name = false
variable_in (Some k) name = has_variable name k.variables

abbrev pub procedure_in : Option Known → List ℕ → Bool
procedure_in None name = false
procedure_in (Some k) name = is_there (procedure_named name k.procedures)

abbrev pub type_in : Option Known → List ℕ → Bool
type_in None name = false
type_in (Some k) name = is_there (place_from 0 k.types name)

abbrev pub missing_variable : List Known → Link → Option QName
missing_variable ks l = unless (linked l) (variable_in (member_named l.«module» ks) l.name)

abbrev pub missing_procedure : List Known → Link → Option QName
missing_procedure ks l = unless (linked l) (procedure_in (member_named l.«module» ks) l.name)

abbrev pub missing_type : List Known → QName → Option QName
missing_type ks q = unless q (type_in (member_named q.«module» ks) q.object)

abbrev pub missing : List Known → Links → Option QName
missing ks links = or_first (first_of (missing_variable ks) links.variables) (or_first (first_of (missing_procedure ks) links.procedures) (first_of (missing_type ks) links.types))

-- what refuses a file behind these modules
abbrev pub breaks : List Known → ObjFile → Option (Refusal Print)
breaks ks f =
    or_first (first_of (use_break ks f.head.«module») f.head.uses)
    (or_first (absent f.head.«module» (missing ks f.links))
    (too_many (length ks + 1)))

-- a module that the walk passes over
abbrev pub is_passed : List Known → List ℕ → Bool
is_passed ks name = bytes_eq name (codes "Out") || is_there (member_named name ks)

-- the words of the globals of these modules
abbrev pub words_of : List Known → ℕ
words_of [] = 0
words_of (k ∷ ks) = k.words + words_of ks

abbrev pub command_of : Option Exported → Option ℕ
command_of None = None
command_of (Some x) = if x.is_command then Some x.procedure else None

-- the number of the procedure of a module's command
abbrev pub command_in : Option Known → List ℕ → Option ℕ
command_in None command = None
command_in (Some k) command = command_of (procedure_named command k.procedures)

abbrev pub ref_with : Option ℕ → Option ℕ → Option ProcRef
ref_with None m = None
ref_with (Some p) None = None
ref_with (Some p) (Some m) = Some (record { «module» = m; proc = p })

-- the procedure of a module's command
abbrev pub command_ref : List Known → List ℕ → List ℕ → Option ProcRef
command_ref ks name command = ref_with (command_in (member_named name ks) command) (place_from 0 (map (λ k. k.name) ks) name)
