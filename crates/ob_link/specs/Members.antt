-- What is known of the modules that are loaded or planned.
use Rattle.std.specs.Prelude.{◌≡◌, ℕ, ◌≤◌, List, [], ◌∷◌, ◌++◌, if◌then◌else◌, map, slice_get, Option, Some, None, Result, Ok, Err, bytes_eq}
use Rattle.std.specs.List.Sorted.{IsStrictlySortedBy}
use Rattle.std.specs.Ordering.{nat_cmp, ordering_then}
use Rattle.std.specs.declared.alloc.AllocError.{AllocError}
use Rattle.std.specs.declared.cmp.Ordering.{Ordering}
use Rattle.ob_instr.specs.Image.{Image, Room}
use Rattle.ob_instr.specs.declared.procedure.Procedure.{Procedure}
use Rattle.ob_obj.specs.declared.parts.Command.{Command}
use Rattle.ob_obj.specs.declared.parts.Export.{Export}
use Rattle.ob_obj.specs.declared.parts.Variable.{Variable}
use Rattle.ob_obj.specs.declared.file.ObjFile.{ObjFile}
use Rattle.ob_obj.specs.Grammar.{by_name, by_export, by_variable}
use Rattle.ob_obj.specs.Images.{global_words}
use Rattle.ob_link.specs.Files.{is_plain}
use Rattle.ob_link.specs.declared.exported.Exported.{Exported}

-- its name, exports, exported variables and procedures, the names of its types, and the words of its globals
pub record Known : Type 0 where
  pub name : List ℕ
  pub exports : List Export
  pub variables : List Variable
  pub procedures : List Exported
  pub types : List (List ℕ)
  pub words : ℕ

abbrev pub exported : List Procedure → Command → Exported
exported procedures c = record { name = c.name; procedure = c.procedure; is_command = is_plain (slice_get procedures c.procedure) }

abbrev pub member_of : ObjFile → Known
member_of f = record {
  name = f.head.«module»;
  exports = f.head.exports;
  variables = f.globals.variables;
  procedures = map (exported f.body.procedures) f.body.commands;
  types = map (λ t. t.name) f.body.types;
  words = global_words f;
}

abbrev pub AddsAll : List Known → List Known → List ObjFile → Result (Unit {0}) AllocError → Type 0
AddsAll old new files (Ok u) = new ≡ old ++ map member_of files
AddsAll old new files (Err e) = new ≡ old

-- FINDING

-- the order of exports, by the name and the number of the aspect
abbrev pub by_export_name : List ℕ × ℕ → List ℕ × ℕ → Ordering
by_export_name a b = ordering_then (by_name a.0 b.0) (nat_cmp a.1 b.1)

abbrev pub by_exported : Exported → Exported → Ordering
by_exported a b = by_name a.name b.name

-- the exported procedure of a name
abbrev pub procedure_named : List ℕ → List Exported → Option Exported
procedure_named name [] = None
procedure_named name (x ∷ xs) = if bytes_eq name x.name then Some x else procedure_named name xs

-- what is exported rises by its names, and there are few words
pub record IsMember (k : Known) : Type 0 where
  pub exports : IsStrictlySortedBy by_export k.exports
  pub variables : IsStrictlySortedBy by_variable k.variables
  pub procedures : IsStrictlySortedBy by_exported k.procedures
  pub few : k.words ≤ 262144

-- the module of a name
abbrev pub member_named : List ℕ → List Known → Option Known
member_named name [] = None
member_named name (k ∷ ks) = if bytes_eq name k.name then Some k else member_named name ks

-- THE MACHINE

-- the room of the machine, and its image without modules
abbrev pub room : Room
room = record { globals = 262144; stack = 1048576; activations = 4096; operands = 256 }

abbrev pub empty_image : Image
empty_image = record { modules = []; types = []; next = 1; room = room }
