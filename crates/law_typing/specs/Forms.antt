-- What a type is in a program, by what a map of descriptions says of it.
use Rattle.std.specs.Prelude.{◌≡◌, ◌⊎◌, ℕ, List, [], ◌∷◌, Option, Some, None, true}
use Rattle.std.specs.List.{AllByRecursion}
use Rattle.ob_tree.specs.declared.names.QName.{QName}
use Rattle.ob_types.specs.declared.types.Basic.{Basic}
use Rattle.ob_types.specs.declared.types.Mode.{Mode}
use Rattle.ob_types.specs.declared.types.TypeRef.{TypeRef}
use Rattle.ob_types.specs.declared.types.Signature.{Signature}
use Rattle.ob_types.specs.declared.desc.Field.{Field}
use Rattle.ob_types.specs.Maps.{IsHeld, listed}
use Rattle.ob_types.specs.AssigningTests.{takes_type, alike_to}
use Rattle.ob_types.specs.Tests.{same_at}
use Rattle.ob_meaning.specs.Values.{Program, Form, BasicForm, PointerForm, ProcedureForm, ArrayForm, OpenForm, Formals, form_in, record_in, formals_in, Held}
use Rattle.law_simulation_relation.specs.Relation.{IsLength, FormOk, Sub, Scalar}
use Rattle.law_simulation_relation.specs.Passed.{IsClosed}
use Rattle.law_simulation_relation.specs.Typed as typed
use Rattle.law_simulation_relation.specs.Typed.{IsRecordType, passing_for}
use Rattle.ob_rules.specs.Shapes.{Map, AField, basic_of, pointed, signature_at, array_of, record_of, member, passing_of, extends_record, is_held}
pub use Rattle.law_typing_forms.specs.Formed.{IsDeclared}

-- a type of the program that the map holds
abbrev pub IsKnown : Map → TypeRef → Type 0
IsKnown map t = IsDeclared t × IsHeld map t

abbrev pub AreKnown : Map → List (Mode × TypeRef) → Type 0
AreKnown map [] = Unit {0}
AreKnown map (k ∷ ks) = IsKnown map k.1 × AreKnown map ks

module _ (program : Program) where
  -- a result is no array and no record
  abbrev pub ResultIs : Option TypeRef → Type 0
  ResultIs None = Unit {0}
  ResultIs (Some t) = IsDeclared t × Scalar (form_in program t)

  -- the types of parameters and result are those of the program
  pub record SignatureIs (map : Map) (s : Signature) : Type 0 where
    pub params : AreKnown map s.params
    pub result : ResultIs s.result
    pub result_held : AllByRecursion (λ t. IsHeld map t) (listed s.result)

  -- what an array is, of a length or open; its elements are no open arrays
  abbrev pub ArrayIs : Map → Form → Option ℕ → TypeRef → Type 0
  ArrayIs map t None u = (t ≡ OpenForm (form_in program u)) × (IsKnown map u × FormOk program (form_in program u))
  ArrayIs map t (Some n) u = (t ≡ ArrayForm n (form_in program u)) × (IsLength n × (IsKnown map u × FormOk program (form_in program u)))

  module _ (Has : Formals → QName → Type 0) (unit : List ℕ) (held : List Held) (result : Option TypeRef) where
    -- a value of the type t is one of the scalar type v
    abbrev pub Widens : Form → Form → Type 0
    Widens t v = typed.Widens program Has unit held result t v

    -- the forms of a program are as a map describes its types
    pub record Forms (map : Map) : Type 0 where
      pub basics : (t : TypeRef) (b : Basic) → basic_of map t ≡ Some b → form_in program t ≡ BasicForm b
      pub pointers : (t u : TypeRef) → pointed map t ≡ Some u → (form_in program t ≡ PointerForm u) × IsDeclared u
      pub bases : (t u : TypeRef) → pointed map t ≡ Some u → is_held map u ≡ true → IsHeld map u
      pub procedures : (t : TypeRef) (s : Signature) → signature_at map t ≡ Some s → (form_in program t ≡ ProcedureForm (formals_in program s)) × SignatureIs map s
      -- signatures that match are of one form
      pub alike : (s t : Signature) → SignatureIs map s → SignatureIs map t → alike_to map s (Some t) ≡ true → formals_in program s ≡ formals_in program t
      pub arrays : (t u : TypeRef) (n : Option ℕ) → IsDeclared t → array_of map t ≡ Some (n, u) → ArrayIs map (form_in program t) n u
      pub records : (t : TypeRef) (q : QName) → record_of map t ≡ Some q → (form_in program t ≡ record_in program q) × IsRecordType program q
      pub same : (t u : TypeRef) → same_at map t u ≡ true → form_in program t ≡ form_in program u
      pub extensions : (a b : QName) (t : TypeRef) → record_of map t ≡ Some b → extends_record map a b ≡ true → Sub (record_in program a) (record_in program b)
      pub fields : (q o : QName) (x : List ℕ) (f : Field) (t : TypeRef) → record_of map t ≡ Some q → member map q x ≡ Some (AField o f) → typed.FieldOk program Has unit held result (record_in program q) o f.name (form_in program f.of) × IsKnown map f.of × IsClosed (form_in program f.of)
      pub passings : (m : Mode) (t : TypeRef) → IsKnown map t → passing_of map m t ≡ passing_for m (form_in program t)
      -- a variable of the type v takes a value of the type t: a scalar one as it is or widened, another as it is or of an extension
      pub scalars : (v t : TypeRef) → takes_type map v t ≡ true → Scalar (form_in program v) → Scalar (form_in program t) × Widens (form_in program t) (form_in program v)
      pub structures : (v t : TypeRef) → takes_type map v t ≡ true → Sub (form_in program t) (form_in program v) ⊎ Scalar (form_in program v)
