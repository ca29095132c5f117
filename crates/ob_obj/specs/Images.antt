-- The image of object files: what the machine has after they were entered, in order.
use Rattle.std.specs.Prelude.{◌≡◌, ℕ, zero, suc, ◌+◌, ◌-◌, ◌≤◌, Bool, ◌&&◌, List, [], ◌∷◌, ◌++◌, length, take, map, replicate, slice_get, slice_set, Option, Some, None, IsSome, if◌then◌else◌, ℤ, pos, ◌<◌, ◌^◌}
use Rattle.std.specs.List.{AllByRecursion}
use Rattle.std.specs.Ordering.{is_eq}
use Rattle.ob_tree.specs.declared.proc_ref.ProcRef.{ProcRef}
use Rattle.ob_tree.specs.declared.names.QName.{QName}
use Rattle.ob_mem.specs.Words.{with_words}
use Rattle.ob_tdesc.specs.declared.descriptor.Descriptor.{Descriptor}
use Rattle.ob_instr.specs.Image.{ModuleImage, Image}
use Rattle.ob_obj.specs.declared.parts.Base.{Base}
use Rattle.ob_obj.specs.declared.parts.Base.TheVariants as base
use Rattle.ob_obj.specs.declared.parts.StringConst.{StringConst}
use Rattle.ob_obj.specs.declared.parts.Link.{Link}
use Rattle.ob_obj.specs.declared.parts.Definition.{Definition}
use Rattle.ob_obj.specs.declared.parts.RecordType.{RecordType}
use Rattle.ob_obj.specs.declared.file.ObjFile.{ObjFile}
use Rattle.ob_obj.specs.Grammar.{by_name, words_of, file}

abbrev pub same : List ℕ → List ℕ → Bool
same a b = is_eq (by_name a b)

-- LINKS

-- the number that stands with a name
abbrev pub named : List (List ℕ × ℕ) → List ℕ → Option ℕ
named [] n = None
named (x ∷ xs) n = if same n x.0 then Some x.1 else named xs n

-- the number of the module of a name, from n on
abbrev pub module_from : ℕ → List ModuleImage → List ℕ → Option ℕ
module_from n [] name = None
module_from n (u ∷ modules) name = if same name u.name then Some n else module_from (suc n) modules name

abbrev pub variables_in : Option ModuleImage → List (List ℕ × ℕ)
variables_in None = []
variables_in (Some u) = u.variables

abbrev pub commands_in : Option ModuleImage → List (List ℕ × ℕ)
commands_in None = []
commands_in (Some u) = u.commands

abbrev pub module_at : List ModuleImage → Option ℕ → Option ModuleImage
module_at modules None = None
module_at modules (Some m) = slice_get modules m

-- the address of a linked variable
abbrev pub linked_variable : List ModuleImage → Link → Option ℕ
linked_variable modules l = named (variables_in (module_at modules (module_from 0 modules l.«module»))) l.name

abbrev pub ref_of : Option ℕ → Option ℕ → Option ProcRef
ref_of (Some m) (Some p) = Some (record { «module» = m; proc = p })
ref_of _ _ = None

-- a linked procedure
abbrev pub linked_procedure : List ModuleImage → Link → Option ProcRef
linked_procedure modules l = ref_of (module_from 0 modules l.«module») (named (commands_in (module_at modules (module_from 0 modules l.«module»))) l.name)

-- the number of the descriptor of a linked type, from n on
abbrev pub type_from : ℕ → List Descriptor → QName → Option ℕ
type_from n [] q = None
type_from n (d ∷ types) q = if same q.«module» d.«module» && same q.object d.name then Some n else type_from (suc n) types q

abbrev pub linked_type : List Descriptor → QName → Option ℕ
linked_type types q = type_from 0 types q

-- A link that resolves to nothing stands for 0; a file with one is not entered.
abbrev pub or_zero : Option ℕ → ℕ
or_zero None = 0
or_zero (Some n) = n

abbrev pub or_first : Option ProcRef → ProcRef
or_first None = record { «module» = 0; proc = 0 }
or_first (Some r) = r

-- TYPES

-- the number of the base's descriptor, where the file's own types begin at a number
abbrev pub base_number : ℕ → List ℕ → Base → Option ℕ
base_number first links base.None = None
base_number first links (base.Own i) = Some (first + i)
base_number first links (base.Link i) = slice_get links i

abbrev pub methods_in : Option Descriptor → List (Option ProcRef)
methods_in None = []
methods_in (Some d) = d.methods

abbrev pub base_methods : List Descriptor → Option ℕ → List (Option ProcRef)
base_methods types None = []
base_methods types (Some b) = methods_in (slice_get types b)

-- own procedures at their numbers, in place of the base's
abbrev pub with_own : ℕ → List Definition → List (Option ProcRef) → List (Option ProcRef)
with_own m [] methods = methods
with_own m (d ∷ definitions) methods = with_own m definitions (slice_set methods d.number (Some (record { «module» = m; proc = d.procedure })))

-- a procedure table: the base's entries, cut at the type's number of procedures, then the own ones; a
-- place left over holds none
abbrev pub table_of : ℕ → RecordType → List (Option ProcRef) → List (Option ProcRef)
table_of m t methods = with_own m t.definitions (take t.count (methods ++ replicate t.count None))

abbrev pub descriptor_of : List ℕ → ℕ → List ℕ → List Descriptor → ℕ → RecordType → Descriptor
descriptor_of module_name first links types m t = record { «module» = module_name; name = t.name; base = base_number first links t.base; words = t.words; methods = table_of m t (base_methods types (base_number first links t.base)) }

-- the descriptors with those of a file's types behind them, in order
abbrev pub with_types : List ℕ → ℕ → List ℕ → ℕ → List Descriptor → List RecordType → List Descriptor
with_types module_name first links m types [] = types
with_types module_name first links m types (t ∷ own) = with_types module_name first links m (types ++ descriptor_of module_name first links types m t ∷ []) own

-- so many numbers, from n on
abbrev pub numbers : ℕ → ℕ → List ℕ
numbers n zero = []
numbers n (suc k) = n ∷ numbers (suc n) k

-- A MODULE

-- the addresses of the strings, from an address on
abbrev pub string_places : ℕ → List StringConst → List ℕ
string_places a [] = []
string_places a (s ∷ strings) = a ∷ string_places (a + s.words) strings

abbrev pub type_links : Image → ObjFile → List ℕ
type_links img f = map (λ q. or_zero (linked_type img.types q)) f.links.types

abbrev pub module_of : Image → ObjFile → ModuleImage
module_of img f = record {
  name = f.head.«module»;
  code = f.body.code;
  positions = f.body.positions;
  procedures = f.body.procedures;
  first = img.next;
  variables = map (λ v. (v.name, img.next + v.place)) f.globals.variables;
  commands = map (λ c. (c.name, c.procedure)) f.body.commands;
  strings = string_places (img.next + f.globals.variable_words) f.globals.strings;
  variable_links = map (λ l. or_zero (linked_variable img.modules l)) f.links.variables;
  procedure_links = map (λ l. or_first (linked_procedure img.modules l)) f.links.procedures;
  types = numbers (length img.types) (length f.body.types) ++ type_links img f;
}

abbrev pub global_words : ObjFile → ℕ
global_words f = f.globals.variable_words + words_of f.globals.strings

-- AN IMAGE

abbrev pub entered : Image → ObjFile → Image
entered img f = record {
  modules = img.modules ++ module_of img f ∷ [];
  types = with_types f.head.«module» (length img.types) (type_links img f) (length img.modules) img.types f.body.types;
  next = img.next + global_words f;
  room = img.room;
}

-- the image with files behind its modules, in order
abbrev pub image_of : Image → List ObjFile → Image
image_of img [] = img
image_of img (f ∷ files) = image_of (entered img f) files

-- the characters of a string and zeros behind them
abbrev pub string_words : List StringConst → List ℤ
string_words [] = []
string_words (s ∷ strings) = map pos s.text ++ (replicate (s.words - length s.text) (pos 0) ++ string_words strings)

-- the words with a file's globals: its variables, all 0, and its strings
abbrev pub with_globals : Image → ObjFile → List ℤ → List ℤ
with_globals img f words = with_words words (pos img.next) (replicate f.globals.variable_words (pos 0) ++ string_words f.globals.strings)

abbrev pub words_with : Image → List ObjFile → List ℤ → List ℤ
words_with img [] words = words
words_with img (f ∷ files) words = words_with (entered img f) files (with_globals img f words)

-- When a file can be entered: it has a spelling, its module is not there yet, each of its links names
-- something, and there is room for its globals, for a module more, and for its types.
pub record IsEnterable (img : Image) (f : ObjFile) : Type 0 where
  pub fits : file.fits f
  pub new : module_from 0 img.modules f.head.«module» ≡ None
  pub variables : AllByRecursion (λ l. IsSome (linked_variable img.modules l)) f.links.variables
  pub procedures : AllByRecursion (λ l. IsSome (linked_procedure img.modules l)) f.links.procedures
  pub types : AllByRecursion (λ q. IsSome (linked_type img.types q)) f.links.types
  pub room : img.next + global_words f ≤ suc img.room.globals
  pub few : length img.modules < 255
  pub few_types : length img.types + length f.body.types < 2 ^ 32

abbrev pub AreEnterable : Image → List ObjFile → Type 0
AreEnterable img [] = Unit {0}
AreEnterable img (f ∷ files) = IsEnterable img f × AreEnterable (entered img f) files
