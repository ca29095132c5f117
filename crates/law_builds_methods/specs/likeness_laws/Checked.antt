-- The bound procedures of a module that was checked, in a program that has the module.
use Rattle.std.specs.Prelude.{◌≡◌, true, ℕ, List, Option, Some, map}
use Rattle.std.specs.List.{AllByRecursion}
use Rattle.ob_tree.specs.declared.names.QName.{QName}
use Rattle.ob_tree.specs.declared.decl.Module.{Module as Tree}
use Rattle.ob_types.specs.declared.desc.Desc.{Desc}
use Rattle.ob_types.specs.declared.typed.TypedModule.{TypedModule}
use Rattle.ob_types.specs.TypedSyntax.{Module}
use Rattle.ob_types.specs.TypedView.{module_view}
use Rattle.ob_meaning.specs.Values.{Program}
use Rattle.ob_layout.specs.LaidOut.{laid_out}
use Rattle.ob_env.specs.Faces.{Face}
use Rattle.ob_env.specs.Shown.{shown}
use Rattle.ob_rules.specs.Declarations.{checked}
use Rattle.law_names_distinct.specs.Distinct.{AreDistinct}
use Rattle.law_spelling.specs.Raw.{decl_named}
use Rattle.law_names_procedures.specs.Procedures.{ShowBases, all_true, is_named_plainly}
use Rattle.law_typing_forms.specs.Said.{IsOneOf, IsSound}
use Rattle.law_typing_forms.specs.Whole.{IsWhole}
use Rattle.law_typing_env.specs.Ages.{AreShown}
use Rattle.law_program_image.specs.Like.{AreLike}

-- A module of a program is the checked module of a text with its records laid out. It was checked over interfaces that show the program's
-- modules, and the bases of the pointers that they show; its types differ in name, and its text is as a grammar reads it.
pub record HasText (program : Program) (m : Module) : Type 0 where
  pub tree : Tree
  pub faces : List (Face (List ℕ))
  pub typed : TypedModule
  pub checked_is : checked (shown faces) tree ≡ Some typed
  pub types : QName → Option Desc
  pub is : m ≡ laid_out types (module_view typed)
  pub age : AreShown program faces
  pub bases : ShowBases (shown faces) tree.name.name
  pub differ : AreDistinct (λ t. t.name) typed.types
  pub plainly : all_true (map is_named_plainly tree.decls) ≡ true
  pub named : AllByRecursion (λ d. decl_named d ≡ true) tree.decls

-- The bound procedures of such a module are like the methods of their families.
abbrev pub CheckedAreLike : Type 0
CheckedAreLike = (program : Program) → IsSound program → IsWhole program → (m : Module) → IsOneOf program m → HasText program m → AreLike program m
