-- What sound programs have.
use Rattle.std.specs.Prelude.{[]}
use Rattle.std.specs.List.{AllByRecursion}
use Rattle.ob_types.specs.Maps.{IsHeld}
use Rattle.ob_types.specs.Relations.{Is, is_open}
use Rattle.ob_types.specs.TypedSyntax.{Module}
use Rattle.ob_meaning.specs.Values.{Program, description}
use Rattle.law_simulation_relation.specs.Layout.{module_held}
use Rattle.law_simulation_relation.specs.Linked.{OwnFormsOk}
use Rattle.law_image_code.specs.Described.{IsDescribed}
use Rattle.law_typing_forms.specs.Said.{IsSound}
use Rattle.law_typing_forms.specs.Whole.{IsWhole}
use Rattle.law_typing_env.specs.Words.{AreLaidInOrder}

-- no variable of these modules is an open array
abbrev pub AreVariablesClosed : Program → Type 0
AreVariablesClosed program = AllByRecursion (λ k. AllByRecursion (λ v. Is (description program) is_open v.of → ⊥) k.variables) program

-- Variables of a module can have first values, where their types are types of the program, and no open arrays.
abbrev pub VariablesHaveForms : Type 0
VariablesHaveForms = (program : Program) → IsSound program → (m : Module) → AllByRecursion (λ v. IsHeld (description program) v.of) m.variables → AllByRecursion (λ v. Is (description program) is_open v.of → ⊥) m.variables → OwnFormsOk program (module_held program m)

-- The declarations of modules that are laid out in order say the words, places and elements that their types have.
abbrev pub OrderedDescribe : Type 0
OrderedDescribe = (program : Program) → IsSound program → IsWhole program → AreLaidInOrder [] program → IsDescribed (description program) program
