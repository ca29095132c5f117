-- What is owed of builds that are loaded together, each in one sentence.
use Rattle.std.specs.Prelude.{◌≡◌, ℕ, List, [], ◌∷◌, ◌++◌, true, map, Some, Contains}
use Rattle.ob_tree.specs.declared.names.QName.{QName}
use Rattle.ob_types.specs.TypedSyntax.{Procedure}
use Rattle.ob_obj.specs.Grammar.{file}
use Rattle.ob_obj.specs.Images.{global_words, AreEnterable}
use Rattle.ob_meaning.specs.Values.{Program, description, Formals}
use Rattle.ob_meaning.specs.Commands.{command_named}
use Rattle.ob_layout.specs.LaidOut.{viewed}
use Rattle.ob_env.specs.Faces.{described}
use Rattle.law_simulation_relation.specs.Layout.{procedure_index, module_held}
use Rattle.law_simulation_relation.specs.Relation.{ModulesOk}
use Rattle.law_simulation_relation.specs.Setting.{Setting}
use Rattle.law_simulation_relation.specs.Linked.{OwnFormsOk}
use Rattle.law_image_code.specs.Described.{IsDescribed}
use Rattle.law_image_links.specs.Files as linking
use Rattle.law_image_links.specs.Same.{ModuleSame}
use Rattle.law_image_tables.specs.Image.{RulesKept}
use Rattle.ob_link.specs.Files.{command_in}
use Rattle.ob_link.specs.Members.{empty_image}
use Rattle.ob_compile_model.specs.Compiling.{texts, exports_of, interface_by}
use Rattle.ob_builds.specs.Builds.{Build, of, tree_of, name_of, file_of, asks}
use Rattle.law_program_runs.specs.Builds.{program_of, AreLoaded, AreEntered, FormsStay, Values, IsOf, BuildsStand}

-- A build's module by the descriptions of a whole program: those that it was compiled with lack what is hidden from it.
abbrev pub in_program : Program → Build → linking.Build
in_program program b = record { types = description program; unit = tree_of b; exports = exports_of (interface_by texts (of b)); uses = (interface_by texts (of b)).uses }

pub record Owed : Type 0 where
  -- which procedures may be values of variables that take and give these
  pub values : Values
  -- modules have different names, and the variables of each have
  pub different : (bs : List Build) → AreLoaded bs → ModulesOk (program_of bs) (program_of bs)
  -- a file has a spelling
  pub fits : (bs : List Build) → AreLoaded bs → (b : Build) → Contains bs b → file.fits (file_of b)
  -- the files can be entered one behind the other, where there is room for their words
  pub enterable : (bs : List Build) → AreEntered bs → AreEnterable empty_image (map file_of bs)
  -- the descriptions that a module was compiled with say of what it names what its declarations in the program say
  pub same : (bs more : List Build) → AreLoaded (bs ++ more) → (b : Build) → Contains bs b → ModuleSame (viewed (described (of b).against) (tree_of b)) (description (program_of bs)) (tree_of b)
  -- the declarations of a program say the words, places and elements that its types have
  pub described : (bs : List Build) → AreLoaded bs → IsDescribed (description (program_of bs)) (program_of bs)
  -- the modules keep the rules
  pub rules : (bs more : List Build) → AreLoaded (bs ++ more) → (c : Setting) → IsOf c values bs more → RulesKept c (map (in_program (program_of bs)) bs)
  -- a module shows its own name
  pub names : (bs : List Build) → AreLoaded bs → (b : Build) → Contains bs b → (tree_of b).name ≡ name_of b
  -- the words of a file's globals are those that the plan counts
  pub words : (bs : List Build) → AreLoaded bs → (b : Build) → Contains bs b → asks.words b ≡ global_words (file_of b)
  -- a command has in its file the number of its procedure
  pub commands : (bs : List Build) → AreLoaded bs → (b : Build) → Contains bs b → (x : List ℕ) (p : Procedure) → command_named (tree_of b) x ≡ Some p → command_in (file_of b) x ≡ Some (procedure_index (tree_of b).procedures x)
  -- variables of modules can have first values
  pub variables : (bs : List Build) → AreLoaded bs → (b : Build) → Contains bs b → OwnFormsOk (program_of bs) (module_held (program_of bs) (tree_of b))
  -- what is so of some is so of them with one more behind
  pub forms_stay : (bs : List Build) (b : Build) → AreLoaded (bs ++ b ∷ []) → FormsStay (program_of bs) (tree_of b)
  pub values_stay : (bs : List Build) (b : Build) → AreLoaded (bs ++ b ∷ []) → (fs : Formals) (q : QName) → values (program_of bs) fs q ≡ true → values (program_of bs ++ tree_of b ∷ []) fs q ≡ true

-- THE LAW
abbrev pub OwedGives : Type 0
OwedGives = Owed → BuildsStand
