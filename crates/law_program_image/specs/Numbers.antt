-- The numbers of the bound procedures that the records of a program introduce: the law.
use Rattle.std.specs.Prelude.{◌≡◌, [], Some}
use Rattle.ob_tree.specs.declared.names.QName.{QName}
use Rattle.ob_types.specs.declared.desc.Desc.TheVariants as desc
use Rattle.ob_types.specs.declared.desc.RecordDesc.{RecordDesc}
use Rattle.ob_meaning.specs.Values.{Program, description}
use Rattle.law_typing_forms.specs.Said.{IsSound}
use Rattle.law_typing_forms.specs.Whole.{IsWhole}
use Rattle.law_typing_env.specs.Words.{AreLaidInOrder}
use Rattle.law_image_tables.specs.Counted.{MethodsNumbered}

-- In modules that are laid out in order, those that a record introduces have different numbers, from the count of its base up to its own.
abbrev pub MethodsAreNumbered : Type 0
MethodsAreNumbered = (program : Program) → IsSound program → IsWhole program → AreLaidInOrder [] program → (q : QName) (r : RecordDesc) → description program q ≡ Some (desc.Record r) → MethodsNumbered program q r
