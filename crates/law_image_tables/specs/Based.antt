-- That the record types of an image have the bases of their declarations: the law.
use Rattle.std.specs.Prelude.{List, [], ◌∷◌}
use Rattle.ob_obj.specs.declared.file.ObjFile.{ObjFile}
use Rattle.ob_meaning.specs.Values.{Program}
use Rattle.law_simulation_relation.specs.Setting.{Setting}
use Rattle.law_simulation_records.specs.Bases.{BasesStand}
use Rattle.law_image_links.specs.Files.{Build, AreFiles}
use Rattle.law_image_tables.specs.Declared.{BasesBuilt, BasesDeclared}

abbrev pub AllBasesDeclared : Program → List Build → Type 0
AllBasesDeclared program [] = Unit {0}
AllBasesDeclared program (b ∷ builds) = BasesDeclared program b.types b.unit b.unit.types 0 × AllBasesDeclared program builds

-- Where the files of a program's modules are the first of an image, each record type has a descriptor, which has the number of its base's.
abbrev pub BasesFromFiles : Type 0
BasesFromFiles = (c : Setting) (builds : List Build) (more : List ObjFile) → AreFiles c builds more → BasesBuilt c.program → AllBasesDeclared c.program builds → BasesStand c
