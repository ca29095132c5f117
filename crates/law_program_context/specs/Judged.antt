-- A module of a program as it was judged.
use Rattle.std.specs.Prelude.{◌≡◌, ℕ, List, ◌∷◌, ◌++◌, Option}
use Rattle.std.specs.List.{AllByRecursion}
use Rattle.ob_tree.specs.declared.names.QName.{QName}
use Rattle.ob_types.specs.declared.desc.Desc.{Desc}
use Rattle.ob_types.specs.declared.typed.TypedModule.{TypedModule}
use Rattle.ob_types.specs.TypedSyntax.{Module}
use Rattle.ob_types.specs.TypedView.{module_view}
use Rattle.ob_meaning.specs.Values.{Program}
use Rattle.ob_layout.specs.LaidOut.{laid_out}
use Rattle.ob_env.specs.Faces.{Face}
use Rattle.ob_env.specs.Shown.{shown}
use Rattle.law_typing_env.specs.Ages.{AreShown}
use Rattle.law_typing.specs.Known.{ConstantIs}
use Rattle.law_body_context.specs.Judged.{BodiesAreJudged}

-- the checked module with its records laid out, whose bodies were judged over interfaces that show the program's modules before it
pub record IsJudgedModule (program : Program) (m : Module) : Type 0 where
  pub before : Program
  pub rest : Program
  pub order : program ≡ before ++ m ∷ rest
  pub checked : TypedModule
  pub types : QName → Option Desc
  pub faces : List (Face (List ℕ))
  pub is : m ≡ laid_out types (module_view checked)
  pub age : AreShown before faces
  pub bodies : BodiesAreJudged ConstantIs (shown faces) checked

abbrev pub AreJudgedModules : Program → Type 0
AreJudgedModules program = AllByRecursion (IsJudgedModule program) program
