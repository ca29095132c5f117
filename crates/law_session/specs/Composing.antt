-- How the headline follows from the byte session and the laws.
use Rattle.std.specs.Prelude.{◌≡◌, ℕ, ◌≤◌, List, [], ◌++◌, true, false, map, Option, Result, Ok, Err, Contains}
use Rattle.ob_tree.specs.declared.print.Print.{Print}
use Rattle.ob_obj.specs.declared.file.ObjFile.{ObjFile}
use Rattle.ob_env.specs.Faces.{printed}
use Rattle.ob_env_walk.specs.Walk.{symbol_name, symbol_entry}
use Rattle.ob_cmp.specs.Check.{check_of}
use Rattle.ob_compile_model.specs.Compiling as compile
use Rattle.ob_compile_model.specs.Compiling.{Compiled, compiled, texts, prints, object_bytes, symbol_bytes}
use Rattle.ob_link.specs.Plan as load
use Rattle.ob_link.specs.Files.{Files, object_file_name, file_plan}
use Rattle.ob_parse_grammar.specs.Identifiers.{is_identifier}
use Rattle.ob_shell_lines.specs.Lines.{done_lines}
use Rattle.ob_words.specs.declared.asked.Settings.{Settings}
use Rattle.ob_shell_reports.specs.Texts.{compile_reason, load_refused}
use Rattle.ob_builds.specs.Builds.{Text, Build, file_of, bytes_of, symbols_of}
use Rattle.ob_builds.specs.Afresh.{AreTogether, Afresh}
use Rattle.ob_builds.specs.Simulated.{IsPlanned, AreSettings, StandFor, Simulation}
use Rattle.ob_builds.specs.Local.{Locality}
use Rattle.ob_builds.specs.Written.{BuildsAreWritten}
use Rattle.ob_shell_model.specs.Folds.{text_from}
use Rattle.ob_shell_model.specs.Bytes as bytes
use Rattle.ob_shell_model.specs.Session as session
use Rattle.ob_shell_model.specs.Session.{Ends, is_whole}
use Rattle.ob_shell_model.specs.Library.{Library, IsLibrary, Kept, Change, ObjectBecomes, SymbolBecomes, after, empty}
use Rattle.ob_shell_model.specs.Model.{World, start, answer, written, interface_in, build_plan, check_in}
use Rattle.ob_shell_model.specs.Headline.{Headline, IsIn}
use Rattle.ob_shell_model.specs.OneAge.{ByCompile, ByCheck, ByLoad, IsComparedFrom, AreToldApart, StandsAsCompared}
use Rattle.law_session.specs.Agreeing.{Agree}
use Rattle.law_session.specs.New.{NewIsValid}

-- a change as it is made of files
abbrev pub as_bytes : Change → bytes.Change
as_bytes (ObjectBecomes name b) = (object_file_name name, bytes_of b)
as_bytes (SymbolBecomes name b) = (symbol_name name, symbols_of b)

-- BY FILES AND BY BUILDS

-- a compile over kept files and over the library: the same refusal is printed, or it is the same module, with the same bytes
abbrev pub SameCompile : Result (Compiled Print) (compile.Refusal Print) → Result (Compiled Text) (compile.Refusal Text) → Type 0
SameCompile (Ok c) (Ok d) = (c.shows ≡ printed d.shows) × (object_bytes prints c ≡ object_bytes texts d) × (symbol_bytes prints c ≡ symbol_bytes texts d)
SameCompile (Err r) (Err q) = compile_reason r ≡ compile_reason q
SameCompile (Ok c) (Err q) = ⊥
SameCompile (Err r) (Ok d) = ⊥

abbrev pub CompilesAlike : Type 0
CompilesAlike = (files : Files) (l : Library) (text : Option (List ℕ)) → IsLibrary l → Kept files l → AreToldApart (ByCompile l text) →
    SameCompile (compiled prints (symbol_entry files) text) (compiled texts (interface_in l) text)

-- a load over kept files and over the library: the same refusal is printed, or the files are those of builds of the library, which
-- go together with the loaded ones
pub record SameBuilds (l : Library) (loaded : List Build) (m name : List ℕ) (files : List ObjFile) (bs : List Build) : Type 0 where
  pub are : files ≡ map file_of bs
  pub together : AreTogether [] (loaded ++ bs)
  pub planned : IsPlanned loaded bs m name
  pub found : (b : Build) → Contains bs b → IsIn l b

abbrev pub SamePlan : Library → List Build → List ℕ → List ℕ → Result (List ObjFile) (load.Refusal Print) → Result (List Build) (load.Refusal Text) → Type 0
SamePlan l loaded m name (Ok files) (Ok bs) = SameBuilds l loaded m name files bs
SamePlan l loaded m name (Err r) (Err q) = load_refused m r ≡ load_refused m q
SamePlan l loaded m name (Ok files) (Err q) = ⊥
SamePlan l loaded m name (Err r) (Ok bs) = ⊥

abbrev pub PlansAlike : Type 0
PlansAlike = (files : Files) (l : Library) (loaded : List Build) (m name : List ℕ) → is_identifier m ≡ true → is_identifier name ≡ true → IsLibrary l → Kept files l → AreTogether [] loaded → AreToldApart (ByLoad l loaded m) →
    SamePlan l loaded m name (file_plan files (map file_of loaded) m name) (build_plan l loaded m name)

-- a check over kept files and over the library
abbrev pub ChecksAlike : Type 0
ChecksAlike = (files : Files) (l : Library) (m : List ℕ) → is_identifier m ≡ true → IsLibrary l → Kept files l → AreToldApart (ByCheck l m) → check_of files m ≡ check_in l m

-- THE RELATION

-- A world of the byte session and one of the meaning, before some lines: the files keep the library, the loaded files are those of
-- the loaded builds, and the words stand for their system. Prints tell apart what these lines compare.
pub record Alike (s : Settings) (w : bytes.World) (v : World) (n : ℕ) (rest : List (List ℕ)) : Type 0 where
  pub files : w.files ≡ v.files
  pub library : IsLibrary v.library
  pub kept : Kept v.files v.library
  pub loaded : w.loaded ≡ map file_of v.loaded
  pub together : AreTogether [] v.loaded
  pub stand : (commands : ℕ) → StandFor commands s v.loaded v.system w.words w.heap
  pub told : AreToldApart (IsComparedFrom s v n rest)

-- all lines agree
abbrev pub LinesAgree : Settings → Type 0
LinesAgree s = Agree as_bytes (Alike s) (bytes.answer s) (answer s)

-- THE COMPOSITION

-- the empty folder keeps the empty library
abbrev pub EmptyIsKept : Type 0
EmptyIsKept = IsLibrary empty × Kept bytes.no_files empty

-- an entry that becomes a build is kept by its new file
abbrev pub KeptStays : Type 0
KeptStays = (files : Files) (l : Library) (c : Change) → Kept files l → Kept (written files c) (after l c)

-- Checks are alike where builds are written as they are read.
abbrev pub ChecksFollow : Type 0
ChecksFollow = BuildsAreWritten → ChecksAlike

-- What compiles against a library is a valid build, where builds are written as they are read.
abbrev pub NewBuildsAreValid : Type 0
NewBuildsAreValid = BuildsAreWritten → NewIsValid

-- Each line of a script agrees, where compiles, plans and commands do.
abbrev pub LinesAgreeAll : Type 0
LinesAgreeAll = (s : Settings) → CompilesAlike → PlansAlike → BuildsAreWritten → Simulation → AreSettings s → LinesAgree s

-- what the byte session's clause and the laws come to
abbrev pub Composes : Type 0
Composes = (s : Settings) (l : Library) (before now : List ℕ) (old new : Files) (script : List ℕ) (status : ℕ) →
    NewIsValid → LinesAgree s → Afresh → Alike s (bytes.start s old) (start old l) 1 (done_lines script) →
    -- the words were accepted, and each other status that is not whole is 3 to 6
    (is_whole status ≡ false → 3 ≤ status) → (is_whole status ≡ false → status ≤ 6) →
    Ends (session.bytes s old) before now old new script status →
    Headline s before now old new l script status

-- The headline, for every library that the files keep, from the laws and from what the byte session is promised.
abbrev pub HeadlineFollows : Type 0
HeadlineFollows = (s : Settings) (l : Library) (before now : List ℕ) (old new : Files) (script : List ℕ) (status : ℕ) →
    NewIsValid → Simulation → AreSettings s → Afresh → LinesAgree s → StandsAsCompared s old l script →
    (is_whole status ≡ false → 3 ≤ status) → (is_whole status ≡ false → status ≤ 6) →
    Ends (session.bytes s old) before now old new script status → Headline s before now old new l script status

-- THE HEADLINE, from the laws alone: of each session with accepted words, over files that a library keeps, where prints tell apart
-- what it compares.
abbrev pub HeadlineHolds : Type 0
HeadlineHolds = (s : Settings) (l : Library) (before now : List ℕ) (old new : Files) (script : List ℕ) (status : ℕ) →
    Locality → Simulation → BuildsAreWritten → CompilesAlike → PlansAlike → AreSettings s → StandsAsCompared s old l script →
    (status ≡ 2 → ⊥) → status ≤ 7 →
    Ends (session.bytes s old) before now old new script status → Headline s before now old new l script status

-- The texts of the first lines, and of no others, are those of the meaning.
abbrev pub FrontsAgree : Type 0
FrontsAgree = (s : Settings) (l : Library) (old : Files) (script : List ℕ) → Simulation → BuildsAreWritten → CompilesAlike → PlansAlike → AreSettings s → StandsAsCompared s old l script →
    (past rest : List (List ℕ)) → done_lines script ≡ past ++ rest → text_from (bytes.answer s) (bytes.start s old) 1 past ≡ text_from (answer s) (start old l) 1 past
