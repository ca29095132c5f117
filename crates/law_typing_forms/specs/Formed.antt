-- What a map of descriptions and a program have to do with each other.
use Rattle.std.specs.Prelude.{◌≡◌, ℕ, List, [], ◌∷◌, Option, Some, false, IfSome}
use Rattle.std.specs.List.{AllByRecursion}
use Rattle.ob_tree.specs.declared.names.QName.{QName}
use Rattle.ob_tree.specs.declared.ident.Mark.{Mark}
use Rattle.ob_types.specs.declared.types.TypeRef.{TypeRef}
use Rattle.ob_types.specs.declared.types.TypeRef.TheVariants as ref
use Rattle.ob_types.specs.declared.types.Mode.{Mode}
use Rattle.ob_types.specs.declared.types.Signature.{Signature}
use Rattle.ob_types.specs.declared.desc.Desc.{Desc}
use Rattle.ob_types.specs.declared.desc.Desc.TheVariants as desc
use Rattle.ob_types.specs.declared.desc.RecordDesc.{RecordDesc}
use Rattle.ob_types.specs.declared.desc.Field.{Field}
use Rattle.ob_types.specs.declared.desc.Method.{Method}
use Rattle.ob_types.specs.declared.typed.Family.{Family}
use Rattle.ob_types.specs.declared.typed.TypedParameter.{TypedParameter}
use Rattle.ob_types.specs.Maps.{named_by}
use Rattle.ob_types.specs.TypedSyntax.{Procedure}
use Rattle.ob_meaning.specs.Values.{Program, procedure_of, PointerForm, ProcedureForm, ArrayForm, OpenForm, RecordForm, Fields, joined, base_line, base_fields, fields_of, form_in, record_in, formals_in}
use Rattle.ob_meaning.specs.Meaning.{declared_for}
use Rattle.law_simulation_relation.specs.Layout.{field_form, form_named, variables_in}
use Rattle.law_simulation_relation.specs.Relation.{IsLength, FormOk, FieldIn, ValueIn}
use Rattle.law_simulation_relation.specs.Typed.{passing_for, result_form, ReceiverOk, IsRecordForm}
use Rattle.ob_rules.specs.Shapes.{same_name}
use Rattle.ob_rules.specs.Names.{out_string}

-- a type of a program: not that of the parameter of Out.String, which no module declares
abbrev pub IsDeclared : TypeRef → Type 0
IsDeclared (ref.Basic b) = Unit {0}
IsDeclared (ref.Named q) = same_name q out_string ≡ false

-- the parameters of a procedure are those of a signature, by their forms
abbrev pub AreParameters : Program → List TypedParameter → List (Mode × TypeRef) → Type 0
AreParameters program [] [] = Unit {0}
AreParameters program [] (k ∷ ks) = ⊥
AreParameters program (p ∷ ps) [] = ⊥
AreParameters program (p ∷ ps) (k ∷ ks) = (form_in program p.of ≡ form_in program k.1) × ((p.passing ≡ passing_for k.0 (form_in program k.1)) × AreParameters program ps ks)

abbrev pub behind : {A : Type 0} → List A → List A
behind [] = []
behind (x ∷ xs) = xs

-- a procedure of that name and signature is there
pub record IsProcedureOf (program : Program) (q : QName) (s : Signature) : Type 0 where
  pub p : Procedure
  pub found : procedure_of program q ≡ Some p
  pub result : result_form program p.result ≡ result_form program s.result
  pub parameters : AreParameters program p.parameters s.params

abbrev pub introduced : QName → Method → Family
introduced q m = record { owner = q; name = m.name }

-- the record type has the bound procedure that it introduces
pub record IsMethodOf (program : Program) (q : QName) (m : Method) : Type 0 where
  pub name : QName
  pub p : Procedure
  pub declared : declared_for program q (introduced q m) ≡ Some name
  pub found : procedure_of program name ≡ Some p
  pub receives : ReceiverOk program m.receiver q p.parameters
  pub result : result_form program p.result ≡ result_form program m.signature.result
  pub parameters : AreParameters program (behind p.parameters) m.signature.params

-- the record type has the field, of that type
pub record IsFieldOf (program : Program) (q : QName) (f : Field) : Type 0 where
  pub there : FieldIn (fields_of (record_in program q)) q f.name
  pub form : field_form (fields_of (record_in program q)) q f.name ≡ form_in program f.of

-- A record type is what its description says: itself before the line of its base, and its base's fields before its own, among which
-- are those that are described; a description may leave out some.
pub record IsRecordOf (program : Program) (q : QName) (r : RecordDesc) : Type 0 where
  pub own : Fields
  pub is : record_in program q ≡ RecordForm (q ∷ base_line (form_in program) r.base) (joined (base_fields (form_in program) r.base) own)
  pub base : IfSome r.base (λ t. IsRecordForm (form_in program t))
  pub fits : FormOk program (record_in program q)
  pub fields : AllByRecursion (λ f. IsFieldOf program q f) r.fields
  pub methods : AllByRecursion (λ m. IsMethodOf program q m) r.methods

-- a variable of a module is there, of that type
pub record IsVariableOf (program : Program) (q : QName) (t : TypeRef) : Type 0 where
  pub there : ValueIn (variables_in program program q.«module») q.object
  pub form : form_named (variables_in program program q.«module») q.object ≡ form_in program t

-- The map says what the program has: each name that it describes, but that of the parameter of Out.String, is so in the program.
pub record Formed (map : QName → Option Desc) (program : Program) : Type 0 where
  pub aliases : (q : QName) (m : Mark) (t : TypeRef) → map q ≡ Some (desc.Alias m t) → record_in program q ≡ form_in program t
  pub arrays : (q : QName) (m : Mark) (n : ℕ) (t : TypeRef) → map q ≡ Some (desc.Array m n t) → record_in program q ≡ ArrayForm n (form_in program t)
  pub lengths : (q : QName) (m : Mark) (n : ℕ) (t : TypeRef) → map q ≡ Some (desc.Array m n t) → IsLength n
  pub opens : (q : QName) (m : Mark) (t : TypeRef) → map q ≡ Some (desc.OpenArray m t) → same_name q out_string ≡ false → record_in program q ≡ OpenForm (form_in program t)
  pub pointers : (q : QName) (m : Mark) (t : TypeRef) → map q ≡ Some (desc.Pointer m t) → record_in program q ≡ PointerForm t
  pub procedures : (q : QName) (m : Mark) (s : Signature) → map q ≡ Some (desc.ProcType m s) → record_in program q ≡ ProcedureForm (formals_in program s)
  pub records : (q : QName) (r : RecordDesc) → map q ≡ Some (desc.Record r) → IsRecordOf program q r
  pub variables : (q : QName) (m : Mark) (t : TypeRef) → map q ≡ Some (desc.Var m t) → IsVariableOf program q t
  pub proper : (q : QName) (s : Signature) → map q ≡ Some (desc.Proc s) → IsProcedureOf program q s
  -- no description names the type of the parameter of Out.String
  pub declared : (q : QName) (d : Desc) → map q ≡ Some d → AllByRecursion IsDeclared (named_by d)
