-- What the rules owe of the record types that modules declare, and what the descriptors of an image then say of them.
use Rattle.std.specs.Prelude.{◌≡◌, ℕ, List, [], ◌∷◌, Option, Some, IfSome}
use Rattle.ob_tree.specs.declared.names.QName.{QName}
use Rattle.ob_types.specs.declared.types.TypeRef.{TypeRef}
use Rattle.ob_types.specs.declared.desc.Desc.{Desc}
use Rattle.ob_types.specs.declared.desc.Desc.TheVariants as desc
use Rattle.ob_types.specs.declared.desc.RecordDesc.{RecordDesc}
use Rattle.ob_types.specs.declared.typed.TypedType.{TypedType}
use Rattle.ob_types.specs.TypedSyntax.{Procedure}
use Rattle.ob_obj.specs.declared.file.ObjFile.{ObjFile}
use Rattle.ob_meaning.specs.Values.{Program, RecordForm, Fields, joined, base_line, base_fields, form_in, record_in, procedure_of, Formals}
use Rattle.law_simulation_relation.specs.Relation.{FormOk}
use Rattle.law_simulation_relation.specs.Typed.{IsRecordType}
use Rattle.law_simulation_relation.specs.Setting.{Setting, has_of}
use Rattle.law_simulation_relation.specs.Linked.{TypesStand}
use Rattle.law_simulation_records.specs.Bases.{BasesStand}
use Rattle.law_simulation_operators.specs.Procedures.{ValuesNumbered}
use Rattle.law_image_code.specs.Descriptors.{named}
use Rattle.law_image_links.specs.Files.{Build, AreFiles, AllKeepRules}

-- a base is a record type of the program
abbrev pub IsBase : Program → TypeRef → Type 0
IsBase program t = (b : QName) × IsRecordType program b × (form_in program t ≡ record_in program b)

-- A record type of the program is what its declaration says: itself before the line of its base, its base's fields before its own. It
-- is well built, and its description is among those that its module was compiled with.
pub record IsDeclaredRecord (program : Program) (types : QName → Option Desc) (q : QName) (r : RecordDesc) : Type 0 where
  pub own : Fields
  pub is : record_in program q ≡ RecordForm (q ∷ base_line (form_in program) r.base) (joined (base_fields (form_in program) r.base) own)
  pub built : FormOk program (record_in program q)
  pub base : IfSome r.base (λ t. IsBase program t)
  pub described : types q ≡ Some (desc.Record r)

abbrev pub IsDeclared : Program → (QName → Option Desc) → QName → Desc → Type 0
IsDeclared program types q (desc.Record r) = IsDeclaredRecord program types q r
IsDeclared program types q d = Unit {0}

abbrev pub AreDeclared : Program → (QName → Option Desc) → List ℕ → List TypedType → Type 0
AreDeclared program types m [] = Unit {0}
AreDeclared program types m (t ∷ ts) = IsDeclared program types (named m t.name) t.desc × AreDeclared program types m ts

abbrev pub AllDeclared : Program → List Build → Type 0
AllDeclared program [] = Unit {0}
AllDeclared program (b ∷ builds) = AreDeclared program b.types b.unit.name b.unit.types × AllDeclared program builds

-- only procedures of the program are values of variables
abbrev pub ValuesThere : Setting → Type 0
ValuesThere c = (fs : Formals) (q : QName) → has_of c fs q → (p : Procedure) × (procedure_of c.program q ≡ Some p)

-- THE LAWS: each record type of the program has its descriptor, with its words, and so have its bases, each before what extends it;
-- the procedures that variables may have as values are told by their numbers.
abbrev pub RecordTypesStand : Type 0
RecordTypesStand = (c : Setting) (builds : List Build) (more : List ObjFile) → AreFiles c builds more → AllKeepRules c builds → AllDeclared c.program builds → TypesStand c

abbrev pub RecordBasesStand : Type 0
RecordBasesStand = (c : Setting) (builds : List Build) (more : List ObjFile) → AreFiles c builds more → AllKeepRules c builds → AllDeclared c.program builds → BasesStand c

abbrev pub ProceduresNumbered : Type 0
ProceduresNumbered = (c : Setting) (builds : List Build) (more : List ObjFile) → AreFiles c builds more → ValuesThere c → ValuesNumbered c
