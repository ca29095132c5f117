-- The laws of what is written of a module that compiles.
--
-- FACE.FITS, one conjunct a line, and where it comes from:
--   name, imports named      identifiers of the text (Raw.IsNamedTree, from the scanner), kept by the rules (Ruled)
--   at most 64 imports       most_imports, a refusal of `compiled`
--   imports rise, Out and    sorted where they are written; each once, none of these two: `imported` leaves out what is repeated and
--   SYSTEM not among them    Out, SYSTEM breaks rule 5
--   objects rise             sorted where they are written, one for each name (first found)
--   at most 4,096 objects    limit objects (`exceeds`)
--   names of objects         identifiers, and for types the way to them: shorter than 2^16 (Seen.short)
--   shape of an object       names and references of types: Ruled. Values: characters below 256, INTEGER in 32 bits, strings of bytes
--                            (Seen.constants); array lengths from 1 to 2^31 - 1 (Seen.lengths, TypeNames); members rise: laid out so
--   layout of an object      words and numbers below 2^31: limits words and procedures, laid out so
--   texts below 2^32         limit face of `exceeds` (a symbol file's bytes)
--   prints                   of these texts, by definition
--   uses rise, their names   sorted where they are written; identifiers of described objects: interfaces against which it compiles are
--                            spelled
-- FILE.FITS:
--   head                     as of the face; at most 4,096 different names of exports: limit objects
--   globals                  words of variables and strings at most 262,144: limit globals; a string is shorter than its words: it has
--                            room for its 0X; variables rise and their places are below the words
--   links                    names of other modules and their objects (Coded.OtherNames, RecordIsCoded); each list below 2^32 by limit
--                            code: one for an instruction at most
--   record types             rise by name: sorted, names differ (Seen.differ); words and numbers by limits; a base stands before
--                            (Seen.bases); definitions rise, numbers below the count (Seen.numbers)
--   procedures               at most 4,096: limit procedures; slots within the limit frame; entries within the code; the body is first
--   commands                 rise, as the exported procedures do; their indices are of procedures
--   code                     at most 262,144: limit code; operands in 32 bits (Coded: constants, labels, numbers; layout: places, words)
--   positions                line and column below 2^32 (Coded.PosFits; a source is at most most_source bytes); just where has_position
--                            says: of the code scheme; EXIT stands in a LOOP (Coded.StmtIsCoded)
-- No conjunct was found false of a valid build.
use Rattle.std.specs.Prelude.{◌≡◌, ℕ, List, None}
use Rattle.std.specs.List.{AllByRecursion}
use Rattle.ob_sym.specs.Grammar.{face}
use Rattle.ob_obj.specs.Grammar.{file}
use Rattle.ob_layout.specs.LaidOut.{viewed, laid_out}
use Rattle.ob_types.specs.TypedSyntax.{Module}
use Rattle.ob_env.specs.Faces.{Face, described, printed, interface_of}
use Rattle.ob_env.specs.Fit.{first_unfit}
use Rattle.ob_compile_model.specs.Compiling.{Compiled, texts, exceeds, made, object_by, interface_by}
use Rattle.law_spelling.specs.Trees.{IsSpelledTree}
use Rattle.law_spelling.specs.Files.{IsCodedTree}

abbrev pub Text : Type 0
Text = List ℕ

-- an interface that a symbol file can hold
abbrev pub IsSpelled : Face Text → Type 0
IsSpelled f = face.fits (interface_of (printed f))

-- a checked module, laid out against these interfaces
abbrev pub compiled_from : List (Face Text) → Module → Compiled Text
compiled_from faces m = made texts faces (laid_out (described faces) m)

-- A module is compiled against interfaces that have a spelling and fit together, what the rules see to of its names, values, types and
-- statements holds, and it exceeds no limit.
pub record IsBuilt (faces : List (Face Text)) (m : Module) : Type 0 where
  pub spelled : AllByRecursion IsSpelled faces
  pub fit : first_unfit faces ≡ None
  pub tree : IsSpelledTree m
  pub code : IsCodedTree (viewed (described faces) (laid_out (described faces) m)) (laid_out (described faces) m)
  pub limits : exceeds texts (compiled_from faces m) ≡ None

-- WHAT IS WRITTEN of a module has a spelling.
pub record IsWritten (c : Compiled Text) : Type 0 where
  pub object : file.fits (object_by texts c)
  pub symbols : face.fits (interface_by texts c)

-- its interface
abbrev pub InterfacesAreWritten : Type 0
InterfacesAreWritten = (faces : List (Face Text)) (m : Module) → IsBuilt faces m → face.fits (interface_by texts (compiled_from faces m))

-- and its object file
abbrev pub ModulesAreWritten : Type 0
ModulesAreWritten = (faces : List (Face Text)) (m : Module) → IsBuilt faces m → IsWritten (compiled_from faces m)
