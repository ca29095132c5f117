-- What layouts say of sizes and places, and what code takes from descriptions of held types.
use Rattle.std.specs.Prelude.{◌≡◌, ℕ, List, ◌∷◌, Option, Some, None}
use Rattle.ob_tree.specs.declared.names.QName.{QName}
use Rattle.ob_types.specs.declared.types.TypeRef.{TypeRef}
use Rattle.ob_types.specs.declared.desc.Desc.{Desc}
use Rattle.ob_types.specs.declared.desc.Desc.TheVariants as desc
use Rattle.ob_types.specs.declared.desc.RecordDesc.{RecordDesc}
use Rattle.ob_types.specs.declared.desc.Field.{Field}
use Rattle.ob_types.specs.Maps.{IsHeld}
use Rattle.ob_meaning.specs.Values.{Program, Form, ArrayForm, OpenForm, RecordForm, Fields, fields_of, form_in, record_in, words, description}
use Rattle.law_simulation_relation.specs.Layout.{field_offset}
use Rattle.ob_layout.specs.Words.{words_of}
use Rattle.ob_layout.specs.Members.{field_named}
use Rattle.ob_scheme.specs.Descriptions.{own_name, elements_of, field_place, open_words}
use Rattle.law_typing_forms.specs.Said.{IsOneOf}

-- The descriptions of a program's records have their words, and the places of their fields.
pub record IsSized (program : Program) : Type 0 where
  pub words_are : (q : QName) (s : RecordDesc) → description program q ≡ Some (desc.Record s) → s.words ≡ words (record_in program q)
  pub places : (q : QName) (s : RecordDesc) (f : Field) → description program q ≡ Some (desc.Record s) → IsOneOf s.fields f → f.place ≡ field_offset (fields_of (record_in program q)) q f.name

-- The descriptions of held types agree with what the types are: in their words, elements and names, and in the places of the fields
-- that they have.
pub record Describes (types : QName → Option Desc) (program : Program) : Type 0 where
  pub sizes : (t : TypeRef) → IsHeld types t → words_of types t ≡ words (form_in program t)
  pub elements : (t : TypeRef) (n : ℕ) (e : Form) → IsHeld types t → form_in program t ≡ ArrayForm n e → elements_of types t ≡ Some n
  pub opens : (t : TypeRef) (e : Form) → IsHeld types t → form_in program t ≡ OpenForm e → elements_of types t ≡ None
  pub element_sizes : (t : TypeRef) (e : Form) → IsHeld types t → form_in program t ≡ OpenForm e → open_words types t ≡ words e
  pub records : (t : TypeRef) (q : QName) (line : List QName) (fs : Fields) → IsHeld types t → form_in program t ≡ RecordForm (q ∷ line) fs → own_name types t ≡ Some q
  pub fields : (o : QName) (r : RecordDesc) (x : List ℕ) (f : Field) → types o ≡ Some (desc.Record r) → field_named x r.fields ≡ Some f → field_place types o x ≡ field_offset (fields_of (record_in program o)) o x
