-- What follows for the numbers of families from the numbers of methods in descriptions: the law.
use Rattle.std.specs.Prelude.{◌≡◌, ◌≤◌, ◌<◌, ℕ, List, [], ◌∷◌, Option, Some, None, map, true}
use Rattle.ob_tree.specs.declared.names.QName.{QName}
use Rattle.ob_types.specs.declared.desc.Desc.{Desc}
use Rattle.ob_types.specs.declared.desc.Desc.TheVariants as desc
use Rattle.ob_types.specs.declared.desc.Method.{Method}
use Rattle.ob_types.specs.declared.desc.RecordDesc.{RecordDesc}
use Rattle.ob_types.specs.declared.typed.Family.{Family}
use Rattle.ob_meaning.specs.Values.{Program, description, bases_in, is_among}
use Rattle.ob_layout.specs.Members.{method_named}
use Rattle.ob_scheme.specs.Descriptions.{method_number}
use Rattle.law_simulation_relation.specs.Typed.{IsRecordType}
use Rattle.law_simulation_relation.specs.Setting.{Setting}
use Rattle.law_image_links.specs.Files.{Build}
use Rattle.law_image_tables.specs.Declared.{base_of}
use Rattle.law_image_tables.specs.Families.{HasFamily, NumbersDiffer, AreBoundOnce, AllFamiliesDeclared}
use Rattle.law_image_tables.specs.Settled.{TypesSettled, AllDeclared}

-- how many bound procedures a description counts
abbrev pub counted : Option Desc → ℕ
counted (Some (desc.Record r)) = r.procedures
counted d = 0

module _ (program : Program) where
  abbrev pub count_of : QName → ℕ
  count_of q = counted (description program q)

  abbrev pub count_below : Option QName → ℕ
  count_below None = 0
  count_below (Some b) = count_of b

  -- The methods that a record type introduces have different numbers, from the count of its base up to its own.
  pub record MethodsNumbered (q : QName) (r : RecordDesc) : Type 0 where
    pub rises : count_below (base_of program q) ≤ r.procedures
    pub above : (x : List ℕ) (m : Method) → method_named x r.methods ≡ Some m → count_below (base_of program q) ≤ m.number
    pub below : (x : List ℕ) (m : Method) → method_named x r.methods ≡ Some m → m.number < r.procedures
    pub differ : (x y : List ℕ) (m n : Method) → method_named x r.methods ≡ Some m → method_named y r.methods ≡ Some n → m.number ≡ n.number → x ≡ y

  -- a family of a type is introduced by one that it extends, or by itself
  pub record Introduced (t : QName) (f : Family) : Type 0 where
    pub among : is_among (bases_in program t) f.owner ≡ true
    pub r : RecordDesc
    pub is : description program f.owner ≡ Some (desc.Record r)
    pub method : Method
    pub has : method_named f.name r.methods ≡ Some method

  pub record FamiliesNumbered : Type 0 where
    pub methods : (q : QName) (r : RecordDesc) → description program q ≡ Some (desc.Record r) → MethodsNumbered q r
    pub introduced : (t : QName) (f : Family) → IsRecordType program t → HasFamily program t f → Introduced t f

  -- the number of a family in the descriptions of the program
  abbrev pub number : Family → ℕ
  number f = method_number (description program) f.owner f.name

abbrev pub AllBoundOnce : List Build → Type 0
AllBoundOnce [] = Unit {0}
AllBoundOnce (b ∷ builds) = AreBoundOnce b.unit.name b.unit.procedures × AllBoundOnce builds

abbrev pub FamiliesFromDeclarations : Type 0
FamiliesFromDeclarations = (c : Setting) (builds : List Build) → c.program ≡ map (λ b. b.unit) builds → TypesSettled c.program → AllDeclared c.program builds → FamiliesNumbered c.program → AllBoundOnce builds → NumbersDiffer c.program (number c.program) × AllFamiliesDeclared c.program (number c.program) builds
