-- What a session means: compiles over a library, loads by the texts of uses, commands by the meaning of the loaded sources.
use Rattle.std.specs.Prelude.{ℕ, zero, suc, ◌+◌, List, [], ◌∷◌, ◌++◌, false, length, Option, Some, None, Result, Ok, Err, bytes_eq, codes}
use Rattle.ob_io.specs.Io.{put}
use Rattle.ob_desc.specs.Grammar.{text_of}
use Rattle.ob_meaning.specs.Commands.{System, Ended, nothing_loaded}
use Rattle.ob_env.specs.Faces.{Face, Wanted}
use Rattle.ob_env_walk.specs.Walk as walk
use Rattle.ob_env_walk.specs.Walk.{symbol_name}
use Rattle.ob_cmp.specs.Verdicts.{no_face, compiled_text}
use Rattle.ob_cmp.specs.Check as check
use Rattle.ob_cmp.specs.Check.{Checked, Present, NotThere, Refused, There, checked}
use Rattle.ob_compile_model.specs.Compiling as compile
use Rattle.ob_compile_model.specs.Compiling.{Compiled, compiled, texts}
use Rattle.ob_link.specs.Plan as load
use Rattle.ob_link.specs.Plan.{Entry, Missing, TooLong, Junk, Holds, plan}
use Rattle.ob_link.specs.Files.{Files, object_file_name}
use Rattle.ob_shell_lines.specs.Lines as line
use Rattle.ob_shell_lines.specs.Lines.{Line}
use Rattle.ob_demo.specs.Source.{source, module_name}
use Rattle.ob_words.specs.declared.asked.Settings.{Settings}
use Rattle.ob_shell_reports.specs.Texts.{compile_refused, load_refused, report, stops, demo_text, unknown_text}
use Rattle.ob_builds.specs.Builds.{Text, Build, shows_of, bytes_of, symbols_of, asks}
use Rattle.ob_builds.specs.Simulated.{outcome_of, joined, ended}
use Rattle.ob_make.specs.Seen.{Has, Seen}
use Rattle.ob_make.specs.Stale.{Marks}
use Rattle.ob_make.specs.Folder.{source_of, source_name as source_file}
use Rattle.ob_shell_model.specs.Folds.{Answer, part, printed_by}
use Rattle.ob_shell_model.specs.Making.{Maker, make_answer}
use Rattle.ob_shell_model.specs.Files.{sym_file}
use Rattle.ob_shell_model.specs.Bytes.{Said, told, denied, compared, shown, check_said, no_files, source_name}
use Rattle.ob_shell_model.specs.Library.{Library, Change, ObjectBecomes, SymbolBecomes, after_all, empty}

-- What a session keeps: the files, the library, the builds that are loaded, and the system of their sources.
pub record World : Type 0 where
  pub files : Files
  pub library : Library
  pub loaded : List Build
  pub system : System

-- no module is loaded
abbrev pub start : Files → Library → World
start files library = record { files = files; library = library; loaded = []; system = nothing_loaded }

-- what a change makes of the files
abbrev pub written : Files → Change → Files
written files (ObjectBecomes name b) = put files (object_file_name name) (bytes_of b)
written files (SymbolBecomes name b) = put files (symbol_name name) (symbols_of b)

abbrev pub written_all : Files → List Change → Files
written_all files [] = files
written_all files (c ∷ cs) = written_all (written files c) cs

abbrev pub says : World → Said → Answer World Change
says w s = record { world = w; parts = part [] s.text; refused = s.refused }

-- COMPILE

abbrev pub face_entry : Entry Build → walk.Entry Text
face_entry Missing = walk.Missing
face_entry TooLong = walk.Junk
face_entry Junk = walk.Junk
face_entry (Holds b) = walk.Holds (shows_of b)

abbrev pub interface_in : Library → List ℕ → walk.Entry Text
interface_in l name = face_entry (l.symbols name)

-- the new build: the source text, with the interfaces of the walk
abbrev pub new_build : List ℕ → Compiled Text → Build
new_build text c = record { source = text; against = c.against }

-- the object entry becomes the new build, then the symbol entry does
abbrev pub becomes : List ℕ → Compiled Text → List Change
becomes text c = ObjectBecomes c.shows.«module» (new_build text c) ∷ SymbolBecomes c.shows.«module» (new_build text c) ∷ []

-- the interface that stood there: an entry that is no build has no objects
abbrev pub stood_as : List ℕ → Entry Build → Face Text
stood_as m (Holds b) = shows_of b
stood_as m e = no_face m

abbrev pub counted : Library → Face Text → List ℕ
counted l face = compiled_text (stood_as face.«module» (l.symbols face.«module»)) face

abbrev pub with_changes : World → List Change → World
with_changes w cs = record { files = written_all w.files cs; library = after_all w.library cs; loaded = w.loaded; system = w.system }

abbrev pub or_empty : Option (List ℕ) → List ℕ
or_empty None = []
or_empty (Some text) = text

abbrev pub compile_answer : World → List ℕ → List ℕ → Result (Compiled Text) (compile.Refusal Text) → Answer World Change
compile_answer w name text (Err r) = says w (denied (compile_refused name r))
compile_answer w name text (Ok c) = record {
  world = with_changes w (becomes text c);
  parts = part (becomes text c) (counted w.library c.shows);
  refused = false;
}

abbrev pub compiled_in : World → Option (List ℕ) → Result (Compiled Text) (compile.Refusal Text)
compiled_in w text = compiled texts (interface_in w.library) text

-- COMMAND

abbrev pub ended_answer : World → List Build → Ended → Answer World Change
ended_answer w bs e = record {
  world = record { files = w.files; library = w.library; loaded = joined bs e; system = e.system };
  parts = part [] (e.out ++ report (outcome_of e.why));
  refused = stops (outcome_of e.why);
}

abbrev pub load_answer : Settings → World → List ℕ → List ℕ → Result (List Build) (load.Refusal Text) → Answer World Change
load_answer s w m name (Err r) = says w (denied (load_refused m r))
load_answer s w m name (Ok new) = ended_answer w (w.loaded ++ new) (ended s w.system new m name)

abbrev pub build_plan : Library → List Build → List ℕ → List ℕ → Result (List Build) (load.Refusal Text)
build_plan l loaded m name = plan asks l.objects loaded m name

abbrev pub command_answer : Settings → World → List ℕ → List ℕ → Answer World Change
command_answer s w m name = load_answer s w m name (build_plan w.library w.loaded m name)

-- CHECK: the uses of an object build against the symbol builds

abbrev pub face_present : Entry Build → Present (Face Text)
face_present Missing = NotThere
face_present TooLong = check.TooLong
face_present Junk = Refused
face_present (Holds b) = There (shows_of b)

abbrev pub uses_present : Entry Build → Present (List (Wanted Text))
uses_present Missing = NotThere
uses_present TooLong = check.TooLong
uses_present Junk = Refused
uses_present (Holds b) = There (shows_of b).uses

abbrev pub check_in : Library → List ℕ → Checked
check_in l m = checked bytes_eq text_of (λ name. face_present (l.symbols name)) m (uses_present (l.objects m))

-- MAKE

-- what the object file of a build says
abbrev pub has_as : Build → Has Text
has_as b = record { imports = (shows_of b).imports; uses = (shows_of b).uses }

abbrev pub has_present : Entry Build → Present (Has Text)
has_present Missing = NotThere
has_present TooLong = check.TooLong
has_present Junk = Refused
has_present (Holds b) = There (has_as b)

-- what is seen in a world: the files of sources, and for the rest the library
abbrev pub seen_in : World → Seen Text
seen_in w = record { object = λ m. has_present (w.library.objects m); symbols = λ m. face_present (w.library.symbols m); source = λ m. source_of m (w.files (source_file m)) }

-- in a library uses keep texts
abbrev pub marks : Marks Text
marks = record { agree = bytes_eq; has = text_of }

-- a module is compiled from its source file, as by a line `compile`
abbrev pub maker : Maker World Change Text
maker = record {
  sees = seen_in;
  marks = marks;
  compile = λ w x. compile_answer w (source_file x) (or_empty (w.files (source_file x))) (compiled_in w (w.files (source_file x)));
}

-- DEMO: a session of its own over an empty folder

-- the objects of the modules so far, and what was made
abbrev pub Making : Type 0
Making = Option (ℕ × World)

abbrev pub made_of : ℕ → World → List ℕ → Result (Compiled Text) (compile.Refusal Text) → Making
made_of objects w text (Ok c) = Some (objects + length c.shows.objects, with_changes w (becomes text c))
made_of objects w text (Err r) = None

-- with a source in the folder
abbrev pub with_source : World → ℕ → ℕ → World
with_source w n i = record { files = put w.files (source_name i) (source n i); library = w.library; loaded = w.loaded; system = w.system }

-- module i of n: its source is put into the folder and compiled
abbrev pub made_one : ℕ → ℕ → ℕ × World → Making
made_one n i x =
    let there = with_source x.1 n i in
    made_of x.0 there (or_empty (there.files (source_name i))) (compiled_in there (there.files (source_name i)))

abbrev pub and_more : Making → (ℕ × World → Making) → Making
and_more None more = None
and_more (Some x) more = more x

-- behind the first k modules of a demo of n
unfoldable pub demo_behind : ℕ → ℕ → Making
demo_behind n zero = Some (0, start no_files empty)
demo_behind n (suc k) = and_more (demo_behind n k) (made_one n (suc k))

abbrev pub demo_ran : World → List ℕ → Answer World Change → Answer World Change
demo_ran w opening a = record { world = w; parts = part [] opening ++ part [] (printed_by a.parts); refused = a.refused }

-- that a module of a demo is refused does not come
abbrev pub demo_answer : Settings → World → ℕ → Making → Answer World Change
demo_answer s w n None = says w (denied [])
demo_answer s w n (Some x) = demo_ran w (demo_text n x.0) (command_answer s x.1 (module_name n) (codes "Go"))

-- A LINE OF THE SCRIPT

-- the answer to the line with this number
abbrev pub answer : Settings → World → ℕ → Line → Answer World Change
answer s w n (line.Compile name) = compile_answer w name (or_empty (w.files name)) (compiled_in w (w.files name))
answer s w n (line.Compare old new) = says w (compared old new (sym_file w.files old) (sym_file w.files new))
answer s w n (line.Check m) = says w (check_said m (check_in w.library m))
answer s w n (line.Make m) = make_answer maker m w
answer s w n (line.Show m) = says w (shown (symbol_name m) (sym_file w.files (symbol_name m)))
answer s w n (line.Demo k) = demo_answer s w k (demo_behind k k)
answer s w n (line.Command m name) = command_answer s w m name
answer s w n line.Unknown = says w (denied (unknown_text n))
answer s w n line.Nothing = says w (told [])
