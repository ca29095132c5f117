-- What a line `make M` sees in the files of a folder.
use Rattle.std.specs.Prelude.{ℕ, List, [], ◌++◌, cond, nat_le, map as each, length, Option, Some, None, Result, Ok, Err, bytes_eq, codes}
use Rattle.ob_tree.specs.declared.print.Print.{Print}
use Rattle.ob_tree.specs.declared.decl.Module.{Module as Tree}
use Rattle.ob_format.specs.Format.{whole}
use Rattle.ob_obj.specs.Grammar.{file as object_form}
use Rattle.ob_obj.specs.declared.file.ObjFile.{ObjFile}
use Rattle.ob_env.specs.Faces.{wanted_of}
use Rattle.ob_env.specs.Stale.{prints_agree}
use Rattle.ob_parse_grammar.specs.TextReading.{NoModule, reading}
use Rattle.ob_compile_model.specs.Compiling.{imported, most_source}
use Rattle.ob_cmp.specs.Check.{Present, Refused, within, if_named, object_name, symbols_of, print_of_desc}
use Rattle.ob_make.specs.Seen.{Has, Source, NoSource, Imports, Seen}
use Rattle.ob_make.specs.Stale.{Marks}

-- the file with the source of a module
abbrev pub source_name : List ℕ → List ℕ
source_name m = m ++ codes ".Mod"

abbrev pub has_in : ObjFile → Has Print
has_in f = record { imports = f.head.imports; uses = each wanted_of f.head.uses }

-- a file that names another module is damaged
abbrev pub has_found : List ℕ → Option ObjFile → Present (Has Print)
has_found m None = Refused
has_found m (Some f) = if_named m f.head.«module» (has_in f)

-- what the folder's object file of a module says
unfoldable pub has_of : (List ℕ → Option (List ℕ)) → List ℕ → Present (Has Print)
has_of files m = within (λ bytes. has_found m (whole object_form bytes)) (files (object_name m))

abbrev pub read_as : List ℕ → Result Tree NoModule → Source
read_as m (Err f) = Imports []
read_as m (Ok tree) = cond (bytes_eq m tree.name.name) (Imports (each imported tree.imports)) NoSource

-- the source of module m, by the bytes of its file
abbrev pub source_of : List ℕ → Option (List ℕ) → Source
source_of m None = NoSource
source_of m (Some text) = cond (nat_le (length text) most_source) (read_as m (reading text)) (Imports [])

-- WHAT IS SEEN IN THE FILES OF A FOLDER
abbrev pub seen_in : (List ℕ → Option (List ℕ)) → Seen Print
seen_in files = record { object = has_of files; symbols = symbols_of files; source = λ m. source_of m (files (source_name m)) }

-- in files uses keep prints
abbrev pub prints : Marks Print
prints = record { agree = prints_agree; has = print_of_desc }
