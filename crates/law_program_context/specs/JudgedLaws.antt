-- The laws of programs whose modules were judged.
use Rattle.std.specs.Prelude.{ℕ, List}
use Rattle.std.specs.List.{AllByRecursion}
use Rattle.ob_types.specs.TypedSyntax.{Module}
use Rattle.ob_meaning.specs.Values.{Program}
use Rattle.ob_env.specs.Faces.{Face}
use Rattle.ob_env.specs.Shown.{shown}
use Rattle.law_typing_env.specs.Ages.{AreShown}
use Rattle.law_typing_env.specs.Views.{FieldsDiffer}
use Rattle.law_typing_forms.specs.Said.{IsOneOf, IsSound}
use Rattle.law_typing_forms.specs.Whole.{IsWhole}
use Rattle.law_typing.specs.Laws.{Having}
use Rattle.law_program_context.specs.Left.{AreConstantsShown, HasProcedures, AreFormed}
use Rattle.law_typing_values.specs.Laws.{AreProceduresTyped}
use Rattle.law_typing_values.specs.Valued.{values}
use Rattle.law_program_context.specs.Judged.{IsJudgedModule, AreJudgedModules}

-- The types of the parameters and the results of procedures are types of the program.
abbrev pub ProceduresTyped : Type 0
ProceduresTyped = (program : Program) → IsWhole program → AreJudgedModules program → AreProceduresTyped program

-- What interfaces show as constants are constants.
abbrev pub ConstantsShown : Type 0
ConstantsShown = (program : Program) → AreJudgedModules program → (faces : List (Face (List ℕ))) → AreShown program faces → AreConstantsShown (shown faces)

-- Wherever types are known in a module of a sound program, whose records have different fields, the map says what the program has.
abbrev pub MapsFormed : Type 0
MapsFormed =
    (program : Program) → IsSound program → IsWhole program → (m : Module) → IsOneOf program m → (j : IsJudgedModule program m) → AllByRecursion (λ t. FieldsDiffer t.desc) j.checked.types
    → AreFormed program (shown j.faces) j.checked j.bodies.content

-- Procedures that may be values are those of the procedure types of their signatures.
abbrev pub ValuesHad : Type 0
ValuesHad = (program : Program) → IsWhole program → AreJudgedModules program → HasProcedures program (Having (values program))
