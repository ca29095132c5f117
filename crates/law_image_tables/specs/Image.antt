-- That an image of files is as the law of simulation asks: the law.
use Rattle.std.specs.Prelude.{◌≡◌, ℕ, List, [], ◌∷◌, Some}
use Rattle.ob_tree.specs.declared.names.QName.{QName}
use Rattle.ob_types.specs.declared.typed.Family.{Family}
use Rattle.ob_types.specs.TypedSyntax.{Procedure}
use Rattle.ob_obj.specs.declared.file.ObjFile.{ObjFile}
use Rattle.ob_meaning.specs.Values.{Program, procedure_of, record_in, Formals}
use Rattle.ob_meaning.specs.Commands.{body_name, body_procedure}
use Rattle.ob_scheme.specs.Procedures.{body_of}
use Rattle.law_simulation_relation.specs.Relation.{FormOk}
use Rattle.law_simulation_relation.specs.Typed.{IsRecordType}
use Rattle.law_simulation_relation.specs.Setting.{Setting, has_of}
use Rattle.law_simulation_relation.specs.Linked.{ProcedureStands}
use Rattle.law_simulation_calls.specs.Signatures.{ValuesMatch}
use Rattle.law_simulation_calls.specs.Tables.{TablesStand}
use Rattle.law_simulation.specs.Simulates.{ImageStands}
use Rattle.law_image_code.specs.Compiled.{IsChecked}
use Rattle.law_image_code.specs.Descriptors.{DeclarationsFit}
use Rattle.law_image_links.specs.Files.{Build, AreFiles, AllKeepRules}
use Rattle.law_image_tables.specs.Declared.{BasesBuilt}
use Rattle.law_image_tables.specs.Based.{AllBasesDeclared}
use Rattle.law_image_tables.specs.Families.{NumbersDiffer, AllFamiliesDeclared}
use Rattle.law_image_tables.specs.Redefined.{RedefinitionsKept}

abbrev pub AllDeclarationsFit : Program → List Build → Type 0
AllDeclarationsFit program [] = Unit {0}
AllDeclarationsFit program (b ∷ builds) = DeclarationsFit program b.unit.name b.unit.types × AllDeclarationsFit program builds

abbrev pub AllBodiesChecked : Setting → List Build → Type 0
AllBodiesChecked c [] = Unit {0}
AllBodiesChecked c (b ∷ builds) = IsChecked c b.types b.unit (body_of b.unit) × AllBodiesChecked c builds

-- What the rules owe of a program and of its modules, as they were compiled.
pub record RulesKept (c : Setting) (builds : List Build) : Type 0 where
  -- procedures and bodies are checked, by descriptions that say what types are
  pub modules : AllKeepRules c builds
  pub bodies : AllBodiesChecked c builds
  -- record types are well built, of their bases, and descriptions have their words and their bases
  pub forms : (q : QName) → IsRecordType c.program q → FormOk c.program (record_in c.program q)
  pub built : BasesBuilt c.program
  pub sizes : AllDeclarationsFit c.program builds
  pub bases : AllBasesDeclared c.program builds
  -- families have numbers
  pub number : Family → ℕ
  pub differ : NumbersDiffer c.program number
  pub families : AllFamiliesDeclared c.program number builds
  pub redefinitions : RedefinitionsKept c.program
  -- what a variable of a procedure type may have as its value is a procedure of the program, of the variable's signature
  pub values : (fs : Formals) (q : QName) → has_of c fs q → (p : Procedure) × (procedure_of c.program q ≡ Some p)
  pub match : ValuesMatch c

-- a procedure stands in the image, and the tables are those that its calls rest on
pub record StandsWithTables (c : Setting) (q : QName) (p : Procedure) : Type 0 where
  pub stands : ProcedureStands c q p
  pub tables : TablesStand c stands.methods

abbrev pub BodiesStand : Setting → List Build → Type 0
BodiesStand c [] = Unit {0}
BodiesStand c (b ∷ builds) = StandsWithTables c (body_name b.unit) (body_procedure b.unit) × BodiesStand c builds

-- what the law of simulation asks for, and the same of the bodies of the modules
pub record ProgramStands (c : Setting) (builds : List Build) : Type 0 where
  pub image : ImageStands c
  pub bodies : BodiesStand c builds

-- Where the files of a program's modules are the first of an image and the modules keep the rules, the program stands in the image.
abbrev pub ProgramFromFiles : Type 0
ProgramFromFiles = (c : Setting) (builds : List Build) (more : List ObjFile) → AreFiles c builds more → RulesKept c builds → ProgramStands c builds
