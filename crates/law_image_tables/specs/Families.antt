-- What the rules owe of bound procedures, and that the tables of an image have them: the law.
use Rattle.std.specs.Prelude.{◌≡◌, ◌<◌, ℕ, List, [], ◌∷◌, Option, Some, None}
use Rattle.ob_tree.specs.declared.names.QName.{QName}
use Rattle.ob_types.specs.declared.desc.Desc.{Desc}
use Rattle.ob_types.specs.declared.desc.Desc.TheVariants as desc
use Rattle.ob_types.specs.declared.typed.Binding.{Binding}
use Rattle.ob_types.specs.declared.typed.Family.{Family}
use Rattle.ob_types.specs.declared.typed.TypedType.{TypedType}
use Rattle.ob_types.specs.TypedSyntax.{Procedure}
use Rattle.ob_obj.specs.declared.file.ObjFile.{ObjFile}
use Rattle.ob_meaning.specs.Values.{Program, bases_in}
use Rattle.ob_meaning.specs.Meaning.{declared_among, nearest}
use Rattle.ob_scheme.specs.Descriptions.{method_number}
use Rattle.law_simulation_relation.specs.Typed.{IsRecordType}
use Rattle.law_simulation_relation.specs.Setting.{Setting}
use Rattle.law_simulation_calls.specs.Tables.{TablesStand}
use Rattle.law_image_links.specs.Files.{Build, AreFiles, AllKeepRules}
use Rattle.law_image_tables.specs.Declared.{typed, BasesBuilt}
use Rattle.law_image_tables.specs.Based.{AllBasesDeclared}

module _ (program : Program) where
  -- a procedure of a family is declared for a type, or for one that it extends
  abbrev pub HasFamily : QName → Family → Type 0
  HasFamily t f = (q : QName) × (nearest program (bases_in program t) f ≡ Some q)

  module _ (number : Family → ℕ) where
    -- the families of one type have different numbers
    abbrev pub NumbersDiffer : Type 0
    NumbersDiffer = (t : QName) (f g : Family) → IsRecordType program t → HasFamily t f → HasFamily t g → number f ≡ number g → f ≡ g

    -- descriptions have for each family its number
    abbrev pub NumbersAgree : (QName → Option Desc) → Type 0
    NumbersAgree types = (t : QName) (f : Family) → IsRecordType program t → HasFamily t f → method_number types f.owner f.name ≡ number f

    -- the description of a record type counts its families
    abbrev pub CountsFamilies : QName → Desc → Type 0
    CountsFamilies q (desc.Record r) = IsRecordType program q × ((f : Family) → HasFamily q f → number f < r.procedures)
    CountsFamilies q d = Unit {0}

    abbrev pub FamiliesCounted : List ℕ → List TypedType → Type 0
    FamiliesCounted m [] = Unit {0}
    FamiliesCounted m (t ∷ ts) = CountsFamilies (typed m t.name) t.desc × FamiliesCounted m ts

-- a bound procedure is bound to a type of its module, and no later one of its family is bound to that type
abbrev pub IsBoundOnce : List ℕ → Option Binding → List Procedure → Type 0
IsBoundOnce m None ps = Unit {0}
IsBoundOnce m (Some b) ps = (b.owner.«module» ≡ m) × (declared_among ps b.owner b.family ≡ None)

abbrev pub AreBoundOnce : List ℕ → List Procedure → Type 0
AreBoundOnce m [] = Unit {0}
AreBoundOnce m (p ∷ ps) = IsBoundOnce m p.binding ps × AreBoundOnce m ps

abbrev pub AllFamiliesDeclared : Program → (Family → ℕ) → List Build → Type 0
AllFamiliesDeclared program number [] = Unit {0}
AllFamiliesDeclared program number (b ∷ builds) = (NumbersAgree program number b.types × (FamiliesCounted program number b.unit.name b.unit.types × AreBoundOnce b.unit.name b.unit.procedures)) × AllFamiliesDeclared program number builds

-- Where the files of a program's modules are the first of an image, the table of each record type has, at the number of each family, the
-- procedure that is declared nearest to the type; by the numbers of any descriptions that agree with them.
abbrev pub TablesFromFiles : Type 0
TablesFromFiles = (c : Setting) (builds : List Build) (more : List ObjFile) → AreFiles c builds more → AllKeepRules c builds → BasesBuilt c.program → AllBasesDeclared c.program builds → (number : Family → ℕ) → NumbersDiffer c.program number → AllFamiliesDeclared c.program number builds → (types : QName → Option Desc) → NumbersAgree c.program number types → TablesStand c (λ f. method_number types f.owner f.name)
