-- What follows for record types from what their declarations say: the law.
use Rattle.std.specs.Prelude.{◌≡◌, ℕ, List, [], ◌∷◌, Option, Some, IfSome, map, bytes_eq}
use Rattle.std.specs.List.{IsDistinct}
use Rattle.ob_tree.specs.declared.names.QName.{QName}
use Rattle.ob_tree.specs.declared.ident.Mark.{Mark}
use Rattle.ob_types.specs.declared.types.TypeRef.{TypeRef}
use Rattle.ob_types.specs.declared.desc.Desc.{Desc}
use Rattle.ob_types.specs.declared.desc.Desc.TheVariants as desc
use Rattle.ob_types.specs.declared.desc.RecordDesc.{RecordDesc}
use Rattle.ob_types.specs.declared.typed.TypedType.{TypedType}
use Rattle.ob_types.specs.TypedSyntax.{Module}
use Rattle.ob_meaning.specs.Values.{Program, RecordForm, Fields, joined, base_line, base_fields, description, form_in, record_in}
use Rattle.law_simulation_relation.specs.Relation.{FormOk}
use Rattle.law_simulation_relation.specs.Typed.{IsRecordType, IsRecordForm}
use Rattle.law_simulation_relation.specs.Setting.{Setting}
use Rattle.law_image_links.specs.Files.{Build, AllKeepRules}
use Rattle.law_image_tables.specs.Declared.{typed, base_of, BasesBuilt, IsBefore, past}
use Rattle.law_image_tables.specs.Based.{AllBasesDeclared}
use Rattle.law_image_tables.specs.Image.{AllDeclarationsFit}

-- a record type is itself before the line of its base, with its base's fields before its own
pub record IsSettled (program : Program) (q : QName) (r : RecordDesc) : Type 0 where
  pub own : Fields
  pub is : record_in program q ≡ RecordForm (q ∷ base_line (form_in program) r.base) (joined (base_fields (form_in program) r.base) own)
  pub base : IfSome r.base (λ t. IsRecordForm (form_in program t))
  pub fits : FormOk program (record_in program q)

-- each record type, and each name that is equated to a type, is what its declaration says
pub record TypesSettled (program : Program) : Type 0 where
  pub aliases : (q : QName) (m : Mark) (t : TypeRef) → description program q ≡ Some (desc.Alias m t) → record_in program q ≡ form_in program t
  pub records : (q : QName) (r : RecordDesc) → description program q ≡ Some (desc.Record r) → IsSettled program q r

module _ (program : Program) (types : QName → Option Desc) (md : Module) where
  -- record types stand behind those of the module that they extend
  abbrev pub IsInOrder : List ℕ → Desc → ℕ → Type 0
  IsInOrder x (desc.Record r) i = IsBefore program types md i (base_of program (typed md.name x))
  IsInOrder x d i = Unit {0}

  abbrev pub AreInOrder : List TypedType → ℕ → Type 0
  AreInOrder [] i = Unit {0}
  AreInOrder (t ∷ ts) i = IsInOrder t.name t.desc i × AreInOrder ts (past program types md t.desc i)

-- a module's types have different names and are in order, and its descriptions are those of the program
pub record IsDeclared (program : Program) (b : Build) : Type 0 where
  pub different : IsDistinct bytes_eq (map (λ t. t.name) b.unit.types)
  pub order : AreInOrder program b.types b.unit b.unit.types 0
  pub whole : (q : QName) → b.types q ≡ description program q

abbrev pub AllDeclared : Program → List Build → Type 0
AllDeclared program [] = Unit {0}
AllDeclared program (b ∷ builds) = IsDeclared program b × AllDeclared program builds

-- the premises on record types of what keeps the rules
pub record TypesFit (c : Setting) (builds : List Build) : Type 0 where
  pub forms : (q : QName) → IsRecordType c.program q → FormOk c.program (record_in c.program q)
  pub built : BasesBuilt c.program
  pub sizes : AllDeclarationsFit c.program builds
  pub bases : AllBasesDeclared c.program builds

abbrev pub TypesFromDeclarations : Type 0
TypesFromDeclarations = (c : Setting) (builds : List Build) → c.program ≡ map (λ b. b.unit) builds → TypesSettled c.program → AllDeclared c.program builds → AllKeepRules c builds → TypesFit c builds
