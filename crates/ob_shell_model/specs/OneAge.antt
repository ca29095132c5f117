-- Which texts a session compares, and sessions of one age.
use Rattle.std.specs.Prelude.{◌≡◌, ℕ, zero, suc, ◌≤◌, List, [], ◌∷◌, ◌++◌, map, Option, Some, Ok, Contains, ◌⊎◌}
use Rattle.ob_tree.specs.declared.names.QName.{QName}
use Rattle.ob_tree.specs.declared.decl.Module.{Module as Tree}
use Rattle.ob_types.specs.declared.face.Aspect.{Aspect}
use Rattle.ob_fprint.specs.Print.{print_from}
use Rattle.ob_env.specs.Faces.{Face, Wanted, text_in}
use Rattle.ob_env_walk.specs.Walk.{Left, walk}
use Rattle.ob_parse_grammar.specs.TextReading.{reading}
use Rattle.ob_compile_model.specs.Compiling.{imported}
use Rattle.ob_demo.specs.Source.{module_name}
use Rattle.ob_link.specs.Plan.{Holds}
use Rattle.ob_link.specs.Files.{Files}
use Rattle.ob_shell_lines.specs.Lines as line
use Rattle.ob_shell_lines.specs.Lines.{Line, line_of, done_lines}
use Rattle.ob_words.specs.declared.asked.Settings.{Settings}
use Rattle.ob_builds.specs.Builds.{Text, Build, shows_of}
use Rattle.ob_shell_model.specs.Bytes.{source_name}
use Rattle.ob_shell_model.specs.Folds.{world_from}
use Rattle.ob_shell_model.specs.Library.{Library, IsLibrary, Kept}
use Rattle.ob_make.specs.declared.turns.Turn.TheVariants as turn
use Rattle.ob_make.specs.Folder.{source_name as source_file}
use Rattle.ob_shell_model.specs.Making.{HasTurn, turn_at}
use Rattle.ob_shell_model.specs.Model.{World, start, answer, interface_in, demo_behind, with_source, maker}
use Rattle.ob_shell_model.specs.Headline.{IsIn}

-- WHICH TEXTS ARE COMPARED: the one that a use keeps, with the one that its object has by now

-- of one of these uses, with what objects have
abbrev pub OfUses : List (Wanted Text) → (QName → Aspect → Option Text) → Text → Text → Type 0
OfUses uses has kept found = (u : Wanted Text) × Contains uses u × (u.kept ≡ kept) × (has u.object u.aspect ≡ Some found)

-- of a use of the one build, with what the other shows
abbrev pub OfBuilds : Build → Build → Text → Text → Type 0
OfBuilds b d = OfUses (shows_of b).uses (text_in (shows_of d ∷ []))

-- A compile of this source compares the uses of each interface of its walk with these interfaces.
abbrev pub ByCompile : Library → Option (List ℕ) → Text → Text → Type 0
ByCompile l source kept found = (text : List ℕ) × (tree : Tree) × (faces : List (Face Text)) × (source ≡ Some text) × (reading text ≡ Ok tree) × (walk (interface_in l) tree.name.name (map imported tree.imports) ≡ Left faces) × (f : Face Text) × Contains faces f × OfUses f.uses (text_in faces) kept found

-- A check compares the uses of a module's object build with the symbol builds.
abbrev pub ByCheck : Library → List ℕ → Text → Text → Type 0
ByCheck l m kept found = (b d : Build) × (name : List ℕ) × (l.objects m ≡ Holds b) × (l.symbols name ≡ Holds d) × OfBuilds b d kept found

-- a name that a load of the module comes to in so many steps through imports
abbrev pub IsReached : Library → List ℕ → ℕ → List ℕ → Type 0
IsReached l m zero n = m ≡ n
IsReached l m (suc steps) n = (b : Build) × (name : List ℕ) × IsReached l m steps name × (l.objects name ≡ Holds b) × Contains (shows_of b).imports n

-- a build that it comes to
abbrev pub IsNeeded : Library → List ℕ → Build → Type 0
IsNeeded l m b = (steps : ℕ) × (name : List ℕ) × IsReached l m steps name × (l.objects name ≡ Holds b)

-- A load compares the uses of the builds that it comes to with these builds, and with those that are loaded.
abbrev pub ByLoad : Library → List Build → List ℕ → Text → Text → Type 0
ByLoad l loaded m kept found = (b d : Build) × IsNeeded l m b × (IsNeeded l m d ⊎ Contains loaded d) × OfBuilds b d kept found

-- module k + 1 of a demo of n is compiled, or behind the last one its command is loaded
abbrev pub ByDemo : ℕ → Text → Text → Type 0
ByDemo n kept found = (k : ℕ) × (x : ℕ × World) × (demo_behind n k ≡ Some x) × (
    ((suc k ≤ n) × ByCompile x.1.library ((with_source x.1 n (suc k)).files (source_name (suc k))) kept found)
    ⊎ ((k ≡ n) × ByLoad x.1.library x.1.loaded (module_name n) kept found)
    )

-- A make of module m looks at each module x of its order in the world of x's turn: at the uses of its object file, and where it compiles
-- x, at what the compile compares.
abbrev pub ByMake : World → List ℕ → Text → Text → Type 0
ByMake w m kept found = (x : List ℕ) × (v : World) × HasTurn maker m w x v × (
    ByCheck v.library x kept found
    ⊎ ((turn_at maker m v x ≡ turn.Compiles) × ByCompile v.library (v.files (source_file x)) kept found)
    )

-- by a line of a script
abbrev pub ByLine : World → Line → Text → Text → Type 0
ByLine w (line.Compile name) = ByCompile w.library (w.files name)
ByLine w (line.Compare old new) = λ kept found. ⊥
ByLine w (line.Check m) = ByCheck w.library m
ByLine w (line.Make m) = ByMake w m
ByLine w (line.Show m) = λ kept found. ⊥
ByLine w (line.Demo n) = ByDemo n
ByLine w (line.Command m name) = ByLoad w.library w.loaded m
ByLine w line.Unknown = λ kept found. ⊥
ByLine w line.Nothing = λ kept found. ⊥

-- by one of these lines, in the world that the ones before it leave
abbrev pub IsComparedFrom : Settings → World → ℕ → List (List ℕ) → Text → Text → Type 0
IsComparedFrom s w n lines kept found = (past rest : List (List ℕ)) × (l : List ℕ) × (lines ≡ past ++ l ∷ rest) × ByLine (world_from (answer s) w n past) (line_of l) kept found

abbrev pub IsCompared : Settings → Files → Library → List ℕ → Text → Text → Type 0
IsCompared s files l script = IsComparedFrom s (start files l) 1 (done_lines script)

-- PRINTS THAT TELL APART

-- each two texts that are compared so have different prints, unless they are the same
abbrev pub AreToldApart : (Text → Text → Type 0) → Type 0
AreToldApart R = (kept found : Text) → R kept found → print_from kept ≡ print_from found → kept ≡ found

-- a library that the files keep, and prints that tell apart what the session compares
pub record StandsAsCompared (s : Settings) (files : Files) (l : Library) (script : List ℕ) : Type 0 where
  pub library : IsLibrary l
  pub kept : Kept files l
  pub told : AreToldApart (IsCompared s files l script)

-- ONE AGE

-- each use keeps the very text that its object has by now, wherever the two are compared
abbrev pub AreOfOneAge : (Text → Text → Type 0) → Type 0
AreOfOneAge R = (kept found : Text) → R kept found → kept ≡ found

-- a library that the files keep, and a session in which all that is compared is of one age; nothing is said of prints
pub record StandsInOneAge (s : Settings) (files : Files) (l : Library) (script : List ℕ) : Type 0 where
  pub library : IsLibrary l
  pub kept : Kept files l
  pub age : AreOfOneAge (IsCompared s files l script)

-- WORLDS OF ONE AGE

-- a build that a world has: its library has it, or it is loaded
abbrev pub Has : World → Build → Type 0
Has w b = IsIn w.library b ⊎ Contains w.loaded b

-- each use of its builds keeps the very text that its object has in each of them that shows it
abbrev pub IsOfOneAge : World → Type 0
IsOfOneAge w = (b d : Build) → Has w b → Has w d → AreOfOneAge (OfBuilds b d)

-- the worlds before the lines of a script and behind them, those of its demos, and those in which the modules of a make have their turns
pub record StaysInOneAge (s : Settings) (files : Files) (l : Library) (script : List ℕ) : Type 0 where
  pub worlds : (past rest : List (List ℕ)) → done_lines script ≡ past ++ rest → IsOfOneAge (world_from (answer s) (start files l) 1 past)
  pub demos : (n k : ℕ) (text : List ℕ) (x : ℕ × World) → Contains (done_lines script) text → line_of text ≡ line.Demo n → k ≤ n → demo_behind n k ≡ Some x → IsOfOneAge x.1
  pub turns : (past rest : List (List ℕ)) (text m x : List ℕ) (v : World) → done_lines script ≡ past ++ text ∷ rest → line_of text ≡ line.Make m → HasTurn maker m (world_from (answer s) (start files l) 1 past) x v → IsOfOneAge v

-- a line that compiles nothing
abbrev pub CompilesNothing : Line → Type 0
CompilesNothing (line.Compile name) = ⊥
CompilesNothing (line.Make m) = ⊥
CompilesNothing (line.Demo n) = ⊥
CompilesNothing l = Unit {0}
