-- The families of bound procedures of a program.
use Rattle.std.specs.Prelude.{◌≡◌, ℕ, List, ◌++◌, Some, Option, codes, map, bytes_eq}
use Rattle.std.specs.List.{AllByRecursion, IsDistinct}
use Rattle.ob_tree.specs.declared.names.QName.{QName}
use Rattle.ob_types.specs.declared.desc.Desc.{Desc}
use Rattle.ob_types.specs.declared.typed.Binding.{Binding}
use Rattle.ob_types.specs.declared.typed.Family.{Family}
use Rattle.ob_types.specs.declared.typed.TypedModule.{TypedModule}
use Rattle.ob_types.specs.TypedSyntax.{Procedure, Module}
use Rattle.ob_types.specs.TypedView.{module_view}
use Rattle.ob_meaning.specs.Values.{Program}
use Rattle.ob_layout.specs.LaidOut.{laid_out}
use Rattle.ob_env.specs.Faces.{Face}
use Rattle.ob_env.specs.Shown.{shown}
use Rattle.law_simulation_relation.specs.Typed.{IsRecordType}
use Rattle.law_typing_forms.specs.Said.{IsSound}
use Rattle.law_typing_forms.specs.Whole.{IsWhole}
use Rattle.law_typing_env.specs.Ages.{AreShown}
use Rattle.law_methods_introduced.specs.Families.{view, IsFamily}
use Rattle.law_image_tables.specs.Families.{HasFamily, AreBoundOnce}
use Rattle.law_image_tables.specs.Counted.{Introduced}

-- a bound procedure is bound to a record of the module, and one of its bases introduces it; and it is named so
pub record IsBinding (shown : QName → Option Desc) (checked : TypedModule) (p : Procedure) (b : Binding) : Type 0 where
  pub family : IsFamily (view shown checked) checked.name b
  pub name : p.name ≡ b.owner.object ++ codes "." ++ b.family.name

-- A module of the program, perhaps with its records laid out, as it was checked over interfaces that show the program's modules: what is
-- bound there.
pub record HasBindings (program : Program) (m : Module) : Type 0 where
  pub checked : TypedModule
  pub types : QName → Option Desc
  pub faces : List (Face (List ℕ))
  pub age : AreShown program faces
  pub is : m ≡ laid_out types (module_view checked)
  pub bindings : AllByRecursion (λ p. (b : Binding) → p.binding ≡ Some b → IsBinding (shown faces) checked p b) m.procedures

-- Each family of a type of such a program is introduced by a type that it extends, or by itself.
abbrev pub FamiliesAreIntroduced : Type 0
FamiliesAreIntroduced = (program : Program) → IsSound program → IsWhole program → AllByRecursion (HasBindings program) program → (t : QName) (f : Family) → IsRecordType program t → HasFamily program t f → Introduced program t f

-- Where the procedures of a module differ in name, no two of a family are bound to one type.
abbrev pub BindingsAreOnce : Type 0
BindingsAreOnce = (program : Program) (m : Module) → HasBindings program m → IsDistinct bytes_eq (map (λ p. p.name) m.procedures) → AreBoundOnce m.name m.procedures
