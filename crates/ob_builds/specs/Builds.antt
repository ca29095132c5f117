-- Builds: a source, and the interfaces that it was compiled against.
use Rattle.std.specs.Prelude.{◌≡◌, ℕ, List, [], ◌∷◌, Option, Some, None, Result, Ok, Err, bytes_eq}
use Rattle.std.specs.List.{AllByRecursion}
use Rattle.ob_types.specs.TypedSyntax.{Module, Nothing}
use Rattle.ob_obj.specs.declared.file.ObjFile.{ObjFile}
use Rattle.ob_meaning.specs.Commands.{command_named}
use Rattle.ob_layout.specs.LaidOut.{viewed}
use Rattle.ob_layout.specs.Room.{globals_words}
use Rattle.ob_sym.specs.Grammar.{face}
use Rattle.ob_env.specs.Faces.{Face, face_named, text_in, described, printed, interface_of}
use Rattle.ob_env_walk.specs.Walk as walk
use Rattle.ob_link.specs.Plan.{Asks, is_there}
use Rattle.ob_compile_model.specs.Compiling.{Compiled, Refusal, texts, compiled, object_by, object_bytes, symbol_bytes}

abbrev pub Text : Type 0
Text = List ℕ

pub record Build : Type 0 where
  pub source : List ℕ
  -- one for each module of its walk, in the order in which the walk leaves them
  pub against : List (Face Text)

abbrev pub entry_of : Option (Face Text) → walk.Entry Text
entry_of None = walk.Missing
entry_of (Some f) = walk.Holds f

-- what its source compiles to, where there are these interfaces and no others
abbrev pub compiled_of : Build → Result (Compiled Text) (Refusal Text)
compiled_of b = compiled texts (λ name. entry_of (face_named b.against name)) (Some b.source)

-- an interface that a symbol file can hold
abbrev pub IsSpelled : Face Text → Type 0
IsSpelled f = face.fits (interface_of (printed f))

-- a build that compiles, and whose walk is just its interfaces, each of which a symbol file can hold
pub record IsValid (b : Build) (c : Compiled Text) : Type 0 where
  pub is : compiled_of b ≡ Ok c
  pub whole : c.against ≡ b.against
  pub spelled : AllByRecursion IsSpelled b.against

-- what there is of a build that does not compile; no valid one comes to this
abbrev pub no_tree : Module
no_tree = record { name = []; imports = []; constants = []; types = []; variables = []; procedures = []; body = Nothing; mentioned = record { objects = []; types = []; lengths = [] } }

abbrev pub or_none : Result (Compiled Text) (Refusal Text) → Compiled Text
or_none (Ok c) = c
or_none (Err r) = record { tree = no_tree; against = []; shows = record { «module» = []; imports = []; objects = []; uses = [] } }

abbrev pub of : Build → Compiled Text
of b = or_none (compiled_of b)

abbrev pub shows_of : Build → Face Text
shows_of b = (of b).shows

abbrev pub tree_of : Build → Module
tree_of b = (of b).tree

abbrev pub name_of : Build → List ℕ
name_of b = (shows_of b).«module»

-- its object file, and the bytes of its two files
abbrev pub file_of : Build → ObjFile
file_of b = object_by texts (of b)

abbrev pub bytes_of : Build → List ℕ
bytes_of b = object_bytes texts (of b)

abbrev pub symbols_of : Build → List ℕ
symbols_of b = symbol_bytes texts (of b)

-- WHAT A LOAD ASKS OF A BUILD: its uses keep texts, its names are met by declarations, and its words are those of its layout
abbrev pub asks : Asks Build Text
asks = record {
  name = name_of;
  imports = λ b. (shows_of b).imports;
  uses = λ b. (shows_of b).uses;
  same = bytes_eq;
  keeps = λ b name aspect. text_in (shows_of b ∷ []) (record { «module» = name_of b; object = name }) aspect;
  unlinked = λ bs b. None;
  words = λ b. globals_words (viewed (described (of b).against) (tree_of b)) (tree_of b);
  has_command = λ b name. is_there (command_named (tree_of b) name);
}
