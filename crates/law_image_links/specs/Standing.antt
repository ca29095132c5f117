-- That the procedures and the bodies of compiled modules stand in an image of their files: the laws.
use Rattle.std.specs.Prelude.{◌≡◌, List, ◌∷◌, ◌++◌, Some}
use Rattle.ob_tree.specs.declared.names.QName.{QName}
use Rattle.ob_types.specs.TypedSyntax.{Procedure}
use Rattle.ob_obj.specs.declared.file.ObjFile.{ObjFile}
use Rattle.ob_meaning.specs.Values.{procedure_of}
use Rattle.ob_meaning.specs.Commands.{body_name, body_procedure}
use Rattle.ob_scheme.specs.Descriptions.{method_number}
use Rattle.ob_scheme.specs.Procedures.{body_of}
use Rattle.law_simulation_relation.specs.Setting.{Setting}
use Rattle.law_simulation_relation.specs.Linked.{ProcedureStands}
use Rattle.law_image_code.specs.Compiled.{IsChecked}
use Rattle.law_image_links.specs.Files.{Build, AreFiles, AllKeepRules}

-- one of the modules, in its place
pub record IsIn (builds : List Build) (b : Build) : Type 0 where
  pub front : List Build
  pub back : List Build
  pub is : builds ≡ front ++ b ∷ back

-- a procedure stands by the numbers of bound procedures that the descriptions have with which its module was compiled
pub record StandsBy (c : Setting) (builds : List Build) (q : QName) (p : Procedure) : Type 0 where
  pub build : Build
  pub among : IsIn builds build
  pub stands : ProcedureStands c q p
  pub methods : stands.methods ≡ (λ f. method_number build.types f.owner f.name)

-- likewise a module's body
pub record BodyStandsBy (c : Setting) (b : Build) : Type 0 where
  pub stands : ProcedureStands c (body_name b.unit) (body_procedure b.unit)
  pub methods : stands.methods ≡ (λ f. method_number b.types f.owner f.name)

-- THE LAWS: each procedure of the program stands in the image, and so does each body that is checked.
abbrev pub ProceduresStand : Type 0
ProceduresStand = (c : Setting) (builds : List Build) (more : List ObjFile) → AreFiles c builds more → AllKeepRules c builds → (q : QName) (p : Procedure) → procedure_of c.program q ≡ Some p → StandsBy c builds q p

abbrev pub BodiesStand : Type 0
BodiesStand = (c : Setting) (builds : List Build) (more : List ObjFile) → AreFiles c builds more → AllKeepRules c builds → (b : Build) → IsIn builds b → IsChecked c b.types b.unit (body_of b.unit) → BodyStandsBy c b
