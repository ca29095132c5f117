-- The files that a program was compiled to, and what is asked of them where they are an image.
use Rattle.std.specs.Prelude.{◌≡◌, List, [], ◌∷◌, ◌++◌, map, bytes_eq, Option}
use Rattle.std.specs.List.{IsDistinct}
use Rattle.ob_tree.specs.declared.names.QName.{QName}
use Rattle.ob_types.specs.declared.desc.Desc.{Desc}
use Rattle.ob_types.specs.declared.face.Use.{Use}
use Rattle.ob_types.specs.TypedSyntax.{Module}
use Rattle.ob_instr.specs.Image.{Image, Room}
use Rattle.ob_obj.specs.declared.parts.Export.{Export}
use Rattle.ob_obj.specs.declared.file.ObjFile.{ObjFile}
use Rattle.ob_obj.specs.Images.{image_of, AreEnterable}
use Rattle.ob_scheme.specs.Object.{object_file}
use Rattle.law_simulation_relation.specs.Setting.{Setting}
use Rattle.law_image_code.specs.Described.{IsDescribed}
use Rattle.law_image_code.specs.Compiled.{ProceduresChecked, AllCompiled}

-- A module as it was compiled, to a file with these exports and uses. The descriptions are of all types of the program, those too that the
-- module does not know: where they say the same of what it names as those that it was compiled with, its file is the same.
pub record Build : Type 0 where
  pub types : QName → Option Desc
  pub unit : Module
  pub exports : List Export
  pub uses : List Use

abbrev pub file_of : Build → ObjFile
file_of k = object_file k.types k.unit k.exports k.uses

-- an image without modules, with some room
abbrev pub empty : Room → Image
empty room = record { modules = []; types = []; next = 1; room = room }

-- The modules of the program have become the first files of the image, in their order, and each file could be entered behind those
-- before it: its module was new, and each of its links named what a module before it exports. This is what an accepted plan gives.
pub record AreFiles (c : Setting) (builds : List Build) (more : List ObjFile) : Type 0 where
  pub room : Room
  pub program : c.program ≡ map (λ b. b.unit) builds
  pub image : c.img ≡ image_of (empty room) (map file_of builds ++ more)
  pub enterable : AreEnterable (empty room) (map file_of builds ++ more)

-- what the rules owe of each module: its descriptions say what types are, its procedures are checked, and their names differ
pub record KeepsRules (c : Setting) (b : Build) : Type 0 where
  pub described : IsDescribed b.types c.program
  pub checked : ProceduresChecked c b.types b.unit b.unit.procedures
  pub different : IsDistinct bytes_eq (map (λ p. p.name) b.unit.procedures)

abbrev pub AllKeepRules : Setting → List Build → Type 0
AllKeepRules c [] = Unit {0}
AllKeepRules c (b ∷ builds) = KeepsRules c b × AllKeepRules c builds

-- THE LAW: the modules stand in the image as they were compiled.
abbrev pub CompiledStand : Type 0
CompiledStand = (c : Setting) (builds : List Build) (more : List ObjFile) → AreFiles c builds more → AllKeepRules c builds → AllCompiled c c.program
