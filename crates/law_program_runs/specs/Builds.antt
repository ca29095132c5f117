-- What is asked of builds that are together, so that all commands of a session run by the table as they are meant.
use Rattle.std.specs.Prelude.{◌≡◌, ℕ, ◌≤◌, List, [], ◌∷◌, ◌++◌, true, Bool, length, map, Some, Contains}
use Rattle.std.specs.List.{AllByRecursion}
use Rattle.ob_tree.specs.declared.names.QName.{QName}
use Rattle.ob_types.specs.declared.desc.Desc.{Desc}
use Rattle.ob_types.specs.TypedSyntax.{Procedure, Module}
use Rattle.ob_obj.specs.Images.{string_words, global_words}
use Rattle.ob_meaning.specs.Values.{Program, description, record_in, Formals}
use Rattle.ob_meaning.specs.Commands.{body_name, body_procedure, command_named}
use Rattle.law_simulation_relation.specs.Layout.{procedure_index, slots_words, module_held}
use Rattle.law_simulation_relation.specs.Relation.{ModulesOk}
use Rattle.law_simulation_relation.specs.Texts.{module_texts}
use Rattle.law_simulation_relation.specs.Setting.{Setting}
use Rattle.law_simulation_relation.specs.Linked.{OwnFormsOk, ProcedureStands}
use Rattle.law_simulation_calls.specs.Tables.{TablesStand}
use Rattle.law_simulation.specs.Slice.{InStmts, AllIn}
use Rattle.law_simulation.specs.Simulates.{ImageStands}
use Rattle.ob_link.specs.Plan.{most_modules, most_globals, words_of}
use Rattle.ob_link.specs.Files.{command_in}
use Rattle.ob_load.specs.Command.{image_for}
use Rattle.ob_builds.specs.Builds.{Build, name_of, tree_of, file_of, asks}
use Rattle.ob_builds.specs.Afresh.{AreTogether}

-- the modules of builds
abbrev pub program_of : List Build → Program
program_of bs = map tree_of bs

-- builds that are loaded or planned: each goes together with those before it, and there are few of them
pub record AreLoaded (bs : List Build) : Type 0 where
  pub together : AreTogether [] bs
  pub few : length bs ≤ most_modules

-- and there is room for the words of their globals
pub record AreEntered (bs : List Build) : Type 0 where
  pub loaded : AreLoaded bs
  pub words : words_of asks bs ≤ most_globals

-- ONE OF THEM

-- The file of a build has what its module says: room for the variables, strings with the texts that the code uses, and the commands at
-- the numbers of their procedures.
pub record HasModule (program : Program) (b : Build) : Type 0 where
  pub name : (tree_of b).name ≡ name_of b
  pub variables : (file_of b).globals.variable_words ≡ slots_words (module_held program (tree_of b))
  pub strings : string_words (file_of b).globals.strings ≡ module_texts program (tree_of b)
  pub long : AllByRecursion (λ s. length s.text ≤ s.words) (file_of b).globals.strings
  pub words : asks.words b ≡ global_words (file_of b)
  pub short : length (file_of b).body.code ≤ 262144
  pub commands : (x : List ℕ) (p : Procedure) → command_named (tree_of b) x ≡ Some p → command_in (file_of b) x ≡ Some (procedure_index (tree_of b).procedures x)
  -- variables can have first values
  pub forms : OwnFormsOk program (module_held program (tree_of b))

-- Types that a program describes are what they are also where one more module is behind, and so are the variables of its modules.
pub record FormsStay (program : Program) (m : Module) : Type 0 where
  pub types : (q : QName) (d : Desc) → description program q ≡ Some d → record_in (program ++ m ∷ []) q ≡ record_in program q
  pub variables : (k : Module) → Contains program k → module_held (program ++ m ∷ []) k ≡ module_held program k

-- ALL OF THEM, IN THE IMAGE OF THEIR FILES

-- which procedures may be values of variables that take and give these
abbrev pub Values : Type 0
Values = Program → Formals → QName → Bool

-- The program is that of builds. The image is that of their files, with the files of more builds behind them: all files of a command are
-- entered before the first body is run.
pub record IsOf (c : Setting) (values : Values) (bs more : List Build) : Type 0 where
  pub program : c.program ≡ program_of bs
  pub image : c.img ≡ image_for (map file_of (bs ++ more))
  pub has : c.has ≡ values (program_of bs)

-- a module's body is in the image as the law of simulation asks for it
pub record BodyStands (c : Setting) (m : Module) : Type 0 where
  pub stands : ProcedureStands c (body_name m) (body_procedure m)
  pub tables : TablesStand c stands.methods
  pub forms : InStmts m.body

pub record AllStand (c : Setting) (bs : List Build) : Type 0 where
  pub image : ImageStands c
  pub forms : AllIn c
  pub bodies : (b : Build) → Contains bs b → BodyStands c (tree_of b)

-- What is asked of builds: for all that are together.
pub record BuildsStand : Type 0 where
  pub values : Values
  -- modules have different names, and the variables of each have
  pub different : (bs : List Build) → AreLoaded bs → ModulesOk (program_of bs) (program_of bs)
  pub modules : (bs : List Build) → AreLoaded bs → (b : Build) → Contains bs b → HasModule (program_of bs) b
  pub stand : (bs more : List Build) → AreEntered (bs ++ more) → (c : Setting) → IsOf c values bs more → AllStand c bs
  -- what is so of some is so of them with one more behind
  pub forms_stay : (bs : List Build) (b : Build) → AreLoaded (bs ++ b ∷ []) → FormsStay (program_of bs) (tree_of b)
  pub values_stay : (bs : List Build) (b : Build) → AreLoaded (bs ++ b ∷ []) → (fs : Formals) (q : QName) → values (program_of bs) fs q ≡ true → values (program_of bs ++ tree_of b ∷ []) fs q ≡ true
