-- Libraries, and the files that keep them.
use Rattle.std.specs.Prelude.{◌≡◌, ℕ, ◌<◌, ◌≤◌, List, [], ◌∷◌, true, if◌then◌else◌, length, Option, Some, None, bytes_eq}
use Rattle.ob_env_walk.specs.Walk as walk
use Rattle.ob_env_walk.specs.Walk.{file_limit, symbol_name, entry_from}
use Rattle.ob_link.specs.Plan.{Entry, Missing, TooLong, Junk, Holds}
use Rattle.ob_link.specs.Files as objects
use Rattle.ob_link.specs.Files.{Files, most_bytes, object_file_name}
use Rattle.ob_compile_model.specs.Compiling.{Compiled}
use Rattle.ob_parse_grammar.specs.Identifiers.{is_identifier}
use Rattle.ob_builds.specs.Builds.{Text, Build, IsValid, name_of, bytes_of, symbols_of}

-- for each name of a module what its object file and what its symbol file have; the two builds of a name may be of different ages
pub record Library : Type 0 where
  pub objects : List ℕ → Entry Build
  pub symbols : List ℕ → Entry Build

-- a build is valid, and of the module of its name
abbrev pub IsEntry : List ℕ → Entry Build → Type 0
IsEntry name (Holds b) = (c : Compiled Text) × IsValid b c × (name_of b ≡ name)
IsEntry name e = Unit {0}

pub record IsLibrary (l : Library) : Type 0 where
  pub objects : (name : List ℕ) → IsEntry name (l.objects name)
  pub symbols : (name : List ℕ) → IsEntry name (l.symbols name)

-- KEPT

-- a file that is there, with such bytes
abbrev pub IsFile : Option (List ℕ) → (List ℕ → Type 0) → Type 0
IsFile None P = ⊥
IsFile (Some bytes) P = P bytes

-- Damaged: within the limit, and no object file of the module
abbrev pub ObjectKept : List ℕ → Option (List ℕ) → Entry Build → Type 0
ObjectKept name file Missing = file ≡ None
ObjectKept name file TooLong = IsFile file (λ bytes. most_bytes < length bytes)
ObjectKept name file Junk = IsFile file (λ bytes. (length bytes ≤ most_bytes) × (objects.entry_of name (Some bytes) ≡ Junk))
ObjectKept name file (Holds b) = file ≡ Some (bytes_of b)

abbrev pub SymbolKept : List ℕ → Option (List ℕ) → Entry Build → Type 0
SymbolKept name file Missing = file ≡ None
SymbolKept name file TooLong = IsFile file (λ bytes. file_limit < length bytes)
SymbolKept name file Junk = IsFile file (λ bytes. (length bytes ≤ file_limit) × (entry_from name (Some bytes) ≡ walk.Junk))
SymbolKept name file (Holds b) = file ≡ Some (symbols_of b)

-- the files keep the library; of files of other names it says nothing
pub record Kept (files : Files) (l : Library) : Type 0 where
  pub objects : (name : List ℕ) → is_identifier name ≡ true → ObjectKept name (files (object_file_name name)) (l.objects name)
  pub symbols : (name : List ℕ) → is_identifier name ≡ true → SymbolKept name (files (symbol_name name)) (l.symbols name)

-- CHANGES

-- an entry becomes a build
pub data Change : Type 0 where
  ObjectBecomes : (name : List ℕ) → (b : Build) → Change
  SymbolBecomes : (name : List ℕ) → (b : Build) → Change

abbrev pub with_entry : (List ℕ → Entry Build) → List ℕ → Build → List ℕ → Entry Build
with_entry entries name b n = if bytes_eq n name then Holds b else entries n

abbrev pub after : Library → Change → Library
after l (ObjectBecomes name b) = record { objects = with_entry l.objects name b; symbols = l.symbols }
after l (SymbolBecomes name b) = record { objects = l.objects; symbols = with_entry l.symbols name b }

abbrev pub after_all : Library → List Change → Library
after_all l [] = l
after_all l (c ∷ cs) = after_all (after l c) cs

abbrev pub empty : Library
empty = record { objects = λ name. Missing; symbols = λ name. Missing }
