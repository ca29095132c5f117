-- Types without the members of records: chains of aliases and arrays.
use Rattle.std.specs.Prelude.{◌≡◌, ℕ, zero, suc, List, [], ◌∷◌, Option, Some, None, MatchOption, IsTrue}
use Rattle.std.specs.List.{AllByRecursion}
use Rattle.ob_tree.specs.declared.names.QName.{QName}
use Rattle.ob_types.specs.declared.types.TypeRef.{TypeRef}
use Rattle.ob_types.specs.declared.types.TypeRef.TheVariants as ref
use Rattle.ob_types.specs.declared.desc.Desc.{Desc}
use Rattle.ob_types.specs.declared.desc.Desc.TheVariants as desc
use Rattle.ob_types.specs.Maps.{is_type}
use Rattle.ob_meaning.specs.Values.{Program, Form, ArrayForm, OpenForm, RecordForm, Fields, fields_of, form_in, record_in, words}
use Rattle.law_simulation_relation.specs.Layout.{field_offset}
use Rattle.law_simulation_relation.specs.Relation.{FieldIn}
use Rattle.ob_layout.specs.Words.{words_of}
use Rattle.ob_scheme.specs.Descriptions.{own_name, elements_of, field_place, open_words}

-- what an alias is equated to, and the element of an array
abbrev pub passes_to : Desc → List TypeRef
passes_to (desc.Alias m t) = t ∷ []
passes_to (desc.Array m n t) = t ∷ []
passes_to d = []

-- each chain of aliases and arrays from the type on has at most n types
unfoldable pub IsShallow : (QName → Option Desc) → ℕ → TypeRef → Type 0
IsShallow types n (ref.Basic b) = Unit {0}
IsShallow types zero (ref.Named q) = ⊥
IsShallow types (suc n) (ref.Named q) = MatchOption (types q) ⊥ (λ d. IsTrue (is_type d) × AllByRecursion (λ t. IsShallow types n t) (passes_to d))

abbrev pub AreShallow : (QName → Option Desc) → Type 0
AreShallow types = (q : QName) (d : Desc) → types q ≡ Some d → IsShallow types 201 (ref.Named q)

-- The declarations of a program agree with what its types are, for each type: in words, elements and names, and in the places of fields.
pub record DescribesAll (types : QName → Option Desc) (program : Program) : Type 0 where
  pub sizes : (t : TypeRef) → words_of types t ≡ words (form_in program t)
  pub elements : (t : TypeRef) (n : ℕ) (e : Form) → form_in program t ≡ ArrayForm n e → elements_of types t ≡ Some n
  pub opens : (t : TypeRef) (e : Form) → form_in program t ≡ OpenForm e → elements_of types t ≡ None
  pub element_sizes : (t : TypeRef) (e : Form) → form_in program t ≡ OpenForm e → open_words types t ≡ words e
  pub records : (t : TypeRef) (q : QName) (line : List QName) (fs : Fields) → form_in program t ≡ RecordForm (q ∷ line) fs → own_name types t ≡ Some q
  pub fields : (o : QName) (x : List ℕ) → FieldIn (fields_of (record_in program o)) o x → field_place types o x ≡ field_offset (fields_of (record_in program o)) o x
