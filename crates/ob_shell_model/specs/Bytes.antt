-- The session over the bytes of files: modules are decoded files, of whatever origin; uses are compared by the prints in them;
-- commands run by the table.
use Rattle.std.specs.Prelude.{ℕ, zero, suc, ◌+◌, List, [], ◌∷◌, ◌++◌, Bool, true, false, length, ℤ, Option, Some, None, Result, Ok, Err, codes}
use Rattle.ob_tree.specs.declared.print.Print.{Print}
use Rattle.ob_io.specs.Io.{put}
use Rattle.ob_obj.specs.declared.file.ObjFile.{ObjFile}
use Rattle.ob_machine.specs.Machine.{made}
use Rattle.ob_env.specs.Faces.{Face, face_of}
use Rattle.ob_env_walk.specs.Walk.{symbol_entry, symbol_name}
use Rattle.ob_cmp.specs.Verdicts.{verdicts, compare_text, compiled_text as counted_text}
use Rattle.ob_cmp.specs.Check.{Checked, check_of, check_text, is_refused}
use Rattle.ob_cmp.specs.Show.{show_text}
use Rattle.ob_demo.specs.Source.{source, module_name}
use Rattle.ob_link.specs.Plan.{Refusal}
use Rattle.ob_link.specs.Files.{Files, object_file_name, file_plan, planned}
use Rattle.ob_load.specs.Command.{Ran, ran}
use Rattle.ob_compile_model.specs.Compiling as compile
use Rattle.ob_compile_model.specs.Compiling.{Compiled, compiled, prints, object_bytes, symbol_bytes}
use Rattle.ob_shell_lines.specs.Lines as line
use Rattle.ob_shell_lines.specs.Lines.{Line}
use Rattle.ob_words.specs.declared.asked.Settings.{Settings}
use Rattle.ob_shell_reports.specs.Texts.{refused, compile_refused, load_refused, report, stops, demo_text, unknown_text, no_interface, too_long, damaged}
use Rattle.ob_make.specs.Folder.{seen_in, prints as marks, source_name as source_file}
use Rattle.ob_shell_model.specs.Folds.{Answer, part, printed_by}
use Rattle.ob_shell_model.specs.Making.{Maker, make_answer}
use Rattle.ob_shell_model.specs.Files.{SymFile, IsMissing, IsLong, IsDamaged, IsOf, sym_file, stood}

-- What a session keeps: the files of the folder, the loaded files in their order, the words of the three areas, and the next free
-- word of the heap.
pub record World : Type 0 where
  pub files : Files
  pub loaded : List ObjFile
  pub words : List ℤ
  pub heap : ℕ

-- a file is replaced
abbrev pub Change : Type 0
Change = List ℕ × List ℕ

abbrev pub changed : Files → List Change → Files
changed files [] = files
changed files (c ∷ cs) = changed (put files c.0 c.1) cs

-- no module is loaded
abbrev pub start : Settings → Files → World
start s files = record { files = files; loaded = []; words = (made s.heap).words; heap = (made s.heap).heap }

-- ---- a line that changes nothing

-- a text, and whether the line was refused
pub record Said : Type 0 where
  pub text : List ℕ
  pub refused : Bool

abbrev pub told : List ℕ → Said
told text = record { text = text; refused = false }

abbrev pub denied : List ℕ → Said
denied text = record { text = text; refused = true }

abbrev pub says : World → Said → Answer World Change
says w s = record { world = w; parts = part [] s.text; refused = s.refused }

-- ---- compile

-- a module's two files, in the order in which they are replaced
abbrev pub files_of : Compiled Print → List Change
files_of c = (object_file_name c.shows.«module», object_bytes prints c) ∷ (symbol_name c.shows.«module», symbol_bytes prints c) ∷ []

-- counted against the symbol file that stood there
abbrev pub counted : Files → Face Print → List ℕ
counted files face = counted_text (stood face.«module» (sym_file files (symbol_name face.«module»))) face

abbrev pub compile_answer : World → List ℕ → Result (Compiled Print) (compile.Refusal Print) → Answer World Change
compile_answer w name (Err r) = says w (denied (compile_refused name r))
compile_answer w name (Ok c) = record {
  world = record w { files = changed w.files (files_of c) };
  parts = part (files_of c) (counted w.files c.shows);
  refused = false;
}

abbrev pub compiled_in : World → Option (List ℕ) → Result (Compiled Print) (compile.Refusal Print)
compiled_in w text = compiled prints (symbol_entry w.files) text

-- ---- a command

abbrev pub ran_answer : World → Ran → Answer World Change
ran_answer w r = record {
  world = record { files = w.files; loaded = r.loaded; words = r.words; heap = r.heap };
  parts = part [] (r.text ++ report r.outcome);
  refused = stops r.outcome;
}

abbrev pub load_answer : Settings → World → List ℕ → List ℕ → Result (List ObjFile) (Refusal Print) → Answer World Change
load_answer s w name command (Err r) = says w (denied (load_refused name r))
load_answer s w name command (Ok files) = ran_answer w (ran w.loaded w.words w.heap (planned w.loaded name command files) s.turns)

abbrev pub command_answer : Settings → World → List ℕ → List ℕ → Answer World Change
command_answer s w name command = load_answer s w name command (file_plan w.files w.loaded name command)

-- ---- compare and show: files by their names, of whatever module

abbrev pub compared : List ℕ → List ℕ → SymFile → SymFile → Said
compared old new IsMissing g = denied (refused old no_interface)
compared old new IsLong g = denied (refused old too_long)
compared old new IsDamaged g = denied (refused old damaged)
compared old new (IsOf f) IsMissing = denied (refused new no_interface)
compared old new (IsOf f) IsLong = denied (refused new too_long)
compared old new (IsOf f) IsDamaged = denied (refused new damaged)
compared old new (IsOf f) (IsOf g) = told (compare_text old new (verdicts (face_of f) (face_of g)))

abbrev pub shown : List ℕ → SymFile → Said
shown name IsMissing = denied (refused name no_interface)
shown name IsLong = denied (refused name too_long)
shown name IsDamaged = denied (refused name damaged)
shown name (IsOf f) = told (show_text (face_of f))

-- ---- check

abbrev pub check_said : List ℕ → Checked → Said
check_said m c = record { text = check_text m c; refused = is_refused c }

-- ---- a demo

abbrev pub no_files : Files
no_files name = None

-- the name of the source of module i
abbrev pub source_name : ℕ → List ℕ
source_name i = module_name i ++ codes ".Mod"

-- the objects of modules, and the files that were made
abbrev pub Making : Type 0
Making = Option (ℕ × Files)

abbrev pub made_of : Files → Result (Compiled Print) (compile.Refusal Print) → Making
made_of files (Ok c) = Some (length c.shows.objects, changed files (files_of c))
made_of files (Err r) = None

abbrev pub compiled_file : Files → List ℕ → Result (Compiled Print) (compile.Refusal Print)
compiled_file files name = compiled prints (symbol_entry files) (files name)

-- module i of n: its source is put into the folder and compiled
abbrev pub made_one : ℕ → ℕ → Files → Making
made_one n i files =
    let there = put files (source_name i) (source n i) in
    made_of there (compiled_file there (source_name i))

abbrev pub and_more : Making → (ℕ × Files → Making) → Making
and_more None more = None
and_more (Some x) more = more x

-- so many modules of n, from module i on, behind so many objects
abbrev pub demo_from : ℕ → ℕ → ℕ → ℕ → Files → Making
demo_from n zero i objects files = Some (objects, files)
demo_from n (suc more) i objects files = and_more (made_one n i files) (λ x. demo_from n more (suc i) (objects + x.0) x.1)

-- all modules of a demo, in an empty folder
unfoldable pub demo_made : ℕ → Making
demo_made n = demo_from n n 1 0 no_files

-- the last module's command over the files that were made, in a fresh system, behind the first printed line
abbrev pub demo_ran : World → List ℕ → Answer World Change → Answer World Change
demo_ran w opening a = record { world = w; parts = part [] opening ++ part [] (printed_by a.parts); refused = a.refused }

-- that a module of a demo is refused does not come
abbrev pub demo_answer : Settings → World → ℕ → Making → Answer World Change
demo_answer s w n None = says w (denied [])
demo_answer s w n (Some x) = demo_ran w (demo_text n x.0) (command_answer s (start s x.1) (module_name n) (codes "Go"))

-- ---- make

-- a module is compiled from its source file, as by a line `compile`
abbrev pub maker : Maker World Change Print
maker = record {
  sees = λ w. seen_in w.files;
  marks = marks;
  compile = λ w x. compile_answer w (source_file x) (compiled_in w (w.files (source_file x)));
}

-- ---- A LINE OF THE SCRIPT

-- the answer to the line with this number
abbrev pub answer : Settings → World → ℕ → Line → Answer World Change
answer s w n (line.Compile name) = compile_answer w name (compiled_in w (w.files name))
answer s w n (line.Compare old new) = says w (compared old new (sym_file w.files old) (sym_file w.files new))
answer s w n (line.Check m) = says w (check_said m (check_of w.files m))
answer s w n (line.Make m) = make_answer maker m w
answer s w n (line.Show m) = says w (shown (symbol_name m) (sym_file w.files (symbol_name m)))
answer s w n (line.Demo k) = demo_answer s w k (demo_made k)
answer s w n (line.Command m command) = command_answer s w m command
answer s w n line.Unknown = says w (denied (unknown_text n))
answer s w n line.Nothing = says w (told [])
