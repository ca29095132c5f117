-- That descriptions say what types are: the premise that the layout of a module keeps.
use Rattle.std.specs.Prelude.{◌≡◌, ℕ, List, ◌∷◌, Option, Some, None}
use Rattle.ob_tree.specs.declared.names.QName.{QName}
use Rattle.ob_types.specs.declared.types.TypeRef.{TypeRef}
use Rattle.ob_types.specs.declared.desc.Desc.{Desc}
use Rattle.ob_layout.specs.Words.{words_of}
use Rattle.ob_scheme.specs.Descriptions.{own_name, elements_of, field_place, open_words}
use Rattle.ob_meaning.specs.Values.{Program, Form, ArrayForm, OpenForm, RecordForm, Fields, fields_of, form_in, record_in, words}
use Rattle.law_simulation_relation.specs.Layout.{field_offset}
use Rattle.law_simulation_relation.specs.Relation.{FieldIn}

-- The descriptions of types agree with what the types are: in their words, elements and names, and in the places of fields.
pub record IsDescribed (types : QName → Option Desc) (program : Program) : Type 0 where
  pub sizes : (t : TypeRef) → words_of types t ≡ words (form_in program t)
  pub elements : (t : TypeRef) (n : ℕ) (e : Form) → form_in program t ≡ ArrayForm n e → elements_of types t ≡ Some n
  pub opens : (t : TypeRef) (e : Form) → form_in program t ≡ OpenForm e → elements_of types t ≡ None
  pub element_sizes : (t : TypeRef) (e : Form) → form_in program t ≡ OpenForm e → open_words types t ≡ words e
  pub records : (t : TypeRef) (q : QName) (line : List QName) (fs : Fields) → form_in program t ≡ RecordForm (q ∷ line) fs → own_name types t ≡ Some q
  pub fields : (o : QName) (x : List ℕ) → FieldIn (fields_of (record_in program o)) o x → field_place types o x ≡ field_offset (fields_of (record_in program o)) o x
