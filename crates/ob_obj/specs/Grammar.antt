-- The grammar of an object file.
use Rattle.std.specs.Prelude.{ℕ, zero, suc, ◌+◌, ◌<◌, ◌≤◌, Bool, true, false, not, ◌&&◌, ◌||◌, if◌then◌else◌, nat_lt, nat_le, nat_eq, List, [], ◌∷◌, length, Option, Some, None, pos, int_le, IsTrue}
use Rattle.std.specs.List.{list_all, AllByRecursion}
use Rattle.std.specs.Ordering.{nat_cmp, is_eq, ordering_then}
use Rattle.std.specs.Cmp.Lexicographic.{slice_cmp}
use Rattle.std.specs.declared.cmp.Ordering.{Ordering}
use Rattle.ob_format.specs.Format.{Format, ◌>>=◌, word32, text32, list_of, rising, few, such_that, made, lead, ◌⊗◌}
use Rattle.ob_format.specs.Names.{name, object_name, qname}
use Rattle.ob_types.specs.Spelled.{aspect, aspect_number, print_form, use_form, by_object}
use Rattle.ob_instr.specs.declared.opcode.Opcode.{Opcode}
use Rattle.ob_instr.specs.declared.opcode.Opcode.TheVariants as op
use Rattle.ob_instr.specs.declared.instr.Instr.{Instr}
use Rattle.ob_instr.specs.declared.procedure.Position.{Position}
use Rattle.ob_instr.specs.declared.procedure.Procedure.{Procedure}
use Rattle.ob_instr.specs.Spelling.{instr}
use Rattle.ob_instr.specs.Parts.{most_words, procedure, position}
use Rattle.ob_obj.specs.declared.parts.Export.{Export}
use Rattle.ob_obj.specs.declared.parts.StringConst.{StringConst}
use Rattle.ob_obj.specs.declared.parts.Variable.{Variable}
use Rattle.ob_obj.specs.declared.parts.Link.{Link}
use Rattle.ob_obj.specs.declared.parts.Base.{Base}
use Rattle.ob_obj.specs.declared.parts.Base.TheVariants as base
use Rattle.ob_obj.specs.declared.parts.Definition.{Definition}
use Rattle.ob_obj.specs.declared.parts.RecordType.{RecordType}
use Rattle.ob_obj.specs.declared.parts.Command.{Command}
use Rattle.ob_obj.specs.declared.file.Head.{Head}
use Rattle.ob_obj.specs.declared.file.Globals.{Globals}
use Rattle.ob_obj.specs.declared.file.Links.{Links}
use Rattle.ob_obj.specs.declared.file.Body.{Body}
use Rattle.ob_obj.specs.declared.file.ObjFile.{ObjFile}

-- PARTS

abbrev pub by_name : List ℕ → List ℕ → Ordering
by_name = slice_cmp nat_cmp

-- an exported object's name, the aspect and the print
unfoldable pub export : Format Export
export = made (object_name ⊗ aspect ⊗ print_form) (λ p. record { name = p.0; aspect = p.1.0; print = p.1.1 }) (λ e. (e.name, (e.aspect, e.print)))

abbrev pub by_export : Export → Export → Ordering
by_export a b = ordering_then (by_name a.name b.name) (nat_cmp (aspect_number a.aspect) (aspect_number b.aspect))

-- a string's characters, and its words: at least one more
unfoldable pub string : Format StringConst
string = such_that (made (text32 ⊗ word32) (λ p. record { text = p.0; words = p.1 }) (λ s. (s.text, s.words))) (λ s. nat_lt (length s.text) s.words) (λ s. length s.text < s.words)

-- an exported variable's name, and its place among the module's words
unfoldable pub variable : Format Variable
variable = made (name ⊗ word32) (λ p. record { name = p.0; place = p.1 }) (λ v. (v.name, v.place))

abbrev pub by_variable : Variable → Variable → Ordering
by_variable a b = by_name a.name b.name

-- a variable or a procedure of another module
unfoldable pub link : Format Link
link = made (name ⊗ name) (λ p. record { «module» = p.0; name = p.1 }) (λ l. (l.«module», l.name))

-- a byte 0; a byte 1 or 2, and an index
unfoldable pub base_at : List ℕ → Option (Base × List ℕ)
base_at [] = None
base_at (zero ∷ rest) = Some (base.None, rest)
base_at (suc zero ∷ rest) = do
  n ← word32.take rest
  Some (base.Own n.0, n.1)
base_at (suc (suc zero) ∷ rest) = do
  n ← word32.take rest
  Some (base.Link n.0, n.1)
base_at (suc (suc (suc b)) ∷ rest) = None

abbrev pub base_bytes : Base → List ℕ
base_bytes base.None = 0 ∷ []
base_bytes (base.Own n) = 1 ∷ word32.spell n
base_bytes (base.Link n) = 2 ∷ word32.spell n

abbrev pub base_fits : Base → Type 0
base_fits base.None = Unit {0}
base_fits (base.Own n) = word32.fits n
base_fits (base.Link n) = word32.fits n

unfoldable pub base_form : Format Base
base_form = record { take = base_at; spell = base_bytes; fits = base_fits }

-- a bound procedure's number, and the index of the procedure
unfoldable pub definition : Format Definition
definition = made (word32 ⊗ word32) (λ p. record { number = p.0; procedure = p.1 }) (λ d. (d.number, d.procedure))

abbrev pub by_number : Definition → Definition → Ordering
by_number a b = nat_cmp a.number b.number

abbrev pub is_record : RecordType → Bool
is_record t = nat_le t.words most_words && (nat_le t.count most_words && list_all (λ d. nat_lt d.number t.count) t.definitions)

-- its words and its number of bound procedures keep the limit, and each own one has a number below that
pub record IsRecord (t : RecordType) : Type 0 where
  pub words : t.words ≤ most_words
  pub count : t.count ≤ most_words
  pub numbers : AllByRecursion (λ d. d.number < t.count) t.definitions

-- a record type's name, its base, its words, its number of bound procedures, and its own ones
unfoldable pub record_parts : Format RecordType
record_parts = made (object_name ⊗ base_form ⊗ word32 ⊗ word32 ⊗ rising definition by_number) (λ p. record { name = p.0; base = p.1.0; words = p.1.1.0; count = p.1.1.1.0; definitions = p.1.1.1.1 }) (λ t. (t.name, (t.base, (t.words, (t.count, t.definitions)))))

-- its limits are kept
unfoldable pub record_type : Format RecordType
record_type = such_that record_parts is_record IsRecord

abbrev pub by_type : RecordType → RecordType → Ordering
by_type a b = by_name a.name b.name

-- an exported procedure's name, and its index
unfoldable pub command : Format Command
command = made (name ⊗ word32) (λ p. record { name = p.0; procedure = p.1 }) (λ c. (c.name, c.procedure))

abbrev pub by_command : Command → Command → Ordering
by_command a b = by_name a.name b.name

-- WHICH INSTRUCTIONS HAVE A POSITION

-- those that can trap, or that always spend a turn
abbrev pub can_stop : Opcode → Bool
can_stop op.CopyRec = true
can_stop op.Index = true
can_stop op.IndexO = true
can_stop op.Deref = true
can_stop op.Tagged = true
can_stop op.Lenned = true
can_stop op.GuardAt = true
can_stop op.GuardR = true
can_stop op.Add = true
can_stop op.Sub = true
can_stop op.Mul = true
can_stop op.Div = true
can_stop op.Mod = true
can_stop op.Neg = true
can_stop op.Abs = true
can_stop op.Bit = true
can_stop op.Bits = true
can_stop op.In = true
can_stop op.Incl = true
can_stop op.Excl = true
can_stop op.Range = true
can_stop op.Chr = true
can_stop op.Ash = true
can_stop op.Inc = true
can_stop op.Dec = true
can_stop op.StrRel = true
can_stop op.StrCopy = true
can_stop op.Trap = true
can_stop op.Assert = true
can_stop op.NewR = true
can_stop op.NewA = true
can_stop op.NewO = true
can_stop op.Call = true
can_stop op.CallX = true
can_stop op.CallV = true
can_stop op.CallP = true
can_stop op.CallR = true
can_stop op.CallS = true
can_stop op.Out = true
can_stop _ = false

abbrev pub is_jump : Opcode → Bool
is_jump op.Jump = true
is_jump op.JumpF = true
is_jump _ = false

-- a jump at the index n spends a turn where its target is not above n
abbrev pub has_position : ℕ → Instr → Bool
has_position n i = can_stop i.op || (is_jump i.op && int_le i.a (pos n))

abbrev pub first_at : ℕ → List Position → Bool
first_at n [] = false
first_at n (p ∷ positions) = nat_eq p.at n

abbrev pub behind : List Position → List Position
behind [] = []
behind (p ∷ positions) = positions

abbrev pub is_end : List Position → Bool
is_end [] = true
is_end (p ∷ positions) = false

-- the positions are those of exactly these instructions, in order; the code begins at the index n
abbrev pub are_placed : ℕ → List Instr → List Position → Bool
are_placed n [] positions = is_end positions
are_placed n (i ∷ code) positions = if has_position n i then first_at n positions && are_placed (n + 1) code (behind positions) else are_placed (n + 1) code positions

-- GROUPS OF PARTS

-- not the names that no file has
abbrev pub is_import : List ℕ → Bool
is_import n = not (is_eq (by_name n (79 ∷ 117 ∷ 116 ∷ []))) && not (is_eq (by_name n (83 ∷ 89 ∷ 83 ∷ 84 ∷ 69 ∷ 77 ∷ [])))

abbrev pub repeats : Export → List Export → Bool
repeats e [] = false
repeats e (f ∷ exports) = is_eq (by_name e.name f.name)

-- how many names stand among exports in order
abbrev pub names_in : List Export → ℕ
names_in [] = 0
names_in (e ∷ exports) = if repeats e exports then names_in exports else names_in exports + 1

abbrev pub is_head : Head → Bool
is_head h = list_all is_import h.imports && nat_le (names_in h.exports) 4096

pub record IsHead (h : Head) : Type 0 where
  -- Out and SYSTEM are not imported
  pub imports : AllByRecursion (λ n. IsTrue (is_import n)) h.imports
  pub names : names_in h.exports ≤ 4096

-- the module's name, its imports, exports and uses
unfoldable pub head : Format Head
head = such_that (made (name ⊗ few 64 name by_name ⊗ rising export by_export ⊗ rising use_form by_object) (λ p. record { «module» = p.0; imports = p.1.0; exports = p.1.1.0; uses = p.1.1.1 }) (λ h. (h.«module», (h.imports, (h.exports, h.uses))))) is_head IsHead

abbrev pub words_of : List StringConst → ℕ
words_of [] = 0
words_of (s ∷ strings) = s.words + words_of strings

-- the words of its variables, its strings, and its exported variables
unfoldable pub globals : Format Globals
globals = such_that (made (word32 ⊗ list_of string ⊗ rising variable by_variable) (λ p. record { variable_words = p.0; strings = p.1.0; variables = p.1.1 }) (λ d. (d.variable_words, (d.strings, d.variables)))) (λ d. nat_le (d.variable_words + words_of d.strings) 262144) (λ d. d.variable_words + words_of d.strings ≤ 262144)

-- the links to variables, procedures and types of other modules
unfoldable pub links : Format Links
links = made (list_of link ⊗ list_of link ⊗ list_of qname) (λ p. record { variables = p.0; procedures = p.1.0; types = p.1.1 }) (λ l. (l.variables, (l.procedures, l.types)))

-- its record types, whose names differ, its procedures, exported procedures, code and positions
unfoldable pub body : Format Body
body = made (few 1048576 record_type by_type ⊗ list_of procedure ⊗ rising command by_command ⊗ list_of instr ⊗ list_of position) (λ p. record { types = p.0; procedures = p.1.0; commands = p.1.1.0; code = p.1.1.1.0; positions = p.1.1.1.1 }) (λ b. (b.types, (b.procedures, (b.commands, (b.code, b.positions)))))

-- CONDITIONS ON SEVERAL PARTS

-- an own base stands before its type, a base by a link is one of the links
abbrev pub base_stands : ℕ → ℕ → Base → Bool
base_stands many n base.None = true
base_stands many n (base.Own b) = nat_lt b n
base_stands many n (base.Link b) = nat_lt b many

abbrev pub bases_stand : ℕ → ℕ → List RecordType → Bool
bases_stand many n [] = true
bases_stand many n (t ∷ types) = base_stands many n t.base && bases_stand many (n + 1) types

abbrev pub has_procedures : ℕ → RecordType → Bool
has_procedures limit t = list_all (λ d. nat_lt d.procedure limit) t.definitions

-- the first procedure is the module's body: without parameters and without a result
abbrev pub begins_with_body : List Procedure → Bool
begins_with_body [] = false
begins_with_body (q ∷ procedures) = nat_eq (length q.params) 0 && not q.has_result

pub record IsSound (f : ObjFile) : Type 0 where
  pub few_procedures : length f.body.procedures ≤ 4096
  pub few_instructions : length f.body.code ≤ 262144
  pub bases : IsTrue (bases_stand (length f.links.types) 0 f.body.types)
  pub definitions : AllByRecursion (λ t. IsTrue (has_procedures (length f.body.procedures) t)) f.body.types
  pub main : IsTrue (begins_with_body f.body.procedures)
  pub entries : AllByRecursion (λ q. q.entry < length f.body.code) f.body.procedures
  pub commands : AllByRecursion (λ c. c.procedure < length f.body.procedures) f.body.commands
  pub positions : IsTrue (are_placed 0 f.body.code f.body.positions)

abbrev pub is_sound : ObjFile → Bool
is_sound f = nat_le (length f.body.procedures) 4096 && (nat_le (length f.body.code) 262144 && (bases_stand (length f.links.types) 0 f.body.types && (list_all (has_procedures (length f.body.procedures)) f.body.types && (begins_with_body f.body.procedures && (list_all (λ q. nat_lt q.entry (length f.body.code)) f.body.procedures && (list_all (λ c. nat_lt c.procedure (length f.body.procedures)) f.body.commands && are_placed 0 f.body.code f.body.positions))))))

abbrev pub magic : List ℕ
magic = 79 ∷ 79 ∷ 66 ∷ 74 ∷ 1 ∷ []

-- An object file. The bytes that it spells are the file's.
unfoldable pub file : Format ObjFile
file = such_that (lead magic (made (head ⊗ globals ⊗ links ⊗ body) (λ p. record { head = p.0; globals = p.1.0; links = p.1.1.0; body = p.1.1.1 }) (λ f. (f.head, (f.globals, (f.links, f.body)))))) is_sound IsSound
