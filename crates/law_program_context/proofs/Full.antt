-- What interfaces of a judged program show as constants are constants.
use Rattle.std.proofs.Common.{List, [], ◌∷◌, sym, subst}
use Rattle.std.specs.List.{AllByRecursion}
use Rattle.ob_types.specs.TypedSyntax.{Module}
use Rattle.ob_types.specs.TypedView.{module_view}
use Rattle.ob_meaning.specs.Values.{Program}
use Rattle.law_program_context.specs.ShownLaws.{IsFull}
use Rattle.law_program_context.proofs.Shown.{full_are_shown, laid_are_full}
use Rattle.law_program_context.specs.Judged.{IsJudgedModule}
use Rattle.law_program_context.specs.JudgedLaws.{ConstantsShown}

module _ (program : Program) where
  full : (m : Module) → IsJudgedModule program m → IsFull m
  full m j = subst IsFull (sym j.is) (laid_are_full j.types (module_view j.checked) (record { constants = j.bodies.constants; types = j.bodies.types }))

  all_full : (ms : List Module) → AllByRecursion (IsJudgedModule program) ms → AllByRecursion IsFull ms
  all_full [] h = tt
  all_full (m ∷ ms) h = (full m h.0, all_full ms h.1)

pub constants_shown : ConstantsShown
constants_shown program judged faces age q v e = (full_are_shown program faces age (all_full program program judged)).constants q v e
