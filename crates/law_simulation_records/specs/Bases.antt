-- What an image has of the bases of each record type.
use Rattle.std.specs.Prelude.{◌≡◌, ◌<◌, ℕ, List, [], ◌∷◌, length, Some, None, true, slice_get}
use Rattle.ob_tree.specs.declared.names.QName.{QName}
use Rattle.ob_tdesc.specs.declared.descriptor.Descriptor.{Descriptor}
use Rattle.ob_instr.specs.Rows.{in_width, tag}
use Rattle.ob_meaning.specs.Values.{RecordForm, fields_of, record_in, is_among}
use Rattle.law_simulation_relation.specs.Layout.{type_number}
use Rattle.law_simulation_relation.specs.Relation.{Sub}
use Rattle.law_simulation_relation.specs.Setting.{Setting}

-- the descriptor of a record type and those of its bases, each with the number of the next one, which stands before it
abbrev pub LineStands : List Descriptor → QName → List QName → Type 0
LineStands types q [] = (d : Descriptor) × (slice_get types (type_number types q) ≡ Some d) × (d.base ≡ None)
LineStands types q (b ∷ line) = ((d : Descriptor) × (slice_get types (type_number types q) ≡ Some d) × (d.base ≡ Some (type_number types b)) × (type_number types b < type_number types q)) × LineStands types b line

pub record BasesStand (c : Setting) : Type 0 where
  pub lines : (q : QName) (line : List QName) → record_in c.program q ≡ RecordForm (q ∷ line) (fields_of (record_in c.program q)) → LineStands c.img.types q line
  -- a record type extends each of its bases
  pub extends : (q : QName) (line : List QName) → record_in c.program q ≡ RecordForm (q ∷ line) (fields_of (record_in c.program q)) → (b : QName) → is_among line b ≡ true → Sub (record_in c.program q) (record_in c.program b)
  -- each tag is a word
  pub tags : (n : ℕ) → n < length c.img.types → in_width 4 (tag n) ≡ true
