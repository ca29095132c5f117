-- The law: bound procedures are introduced once.
use Rattle.ob_types.specs.TypedSyntax.{Module}
use Rattle.ob_meaning.specs.Values.{Program}
use Rattle.ob_env.specs.Shown.{shown}
use Rattle.ob_rules.specs.Names.{Around, map_of}
use Rattle.law_typing_forms.specs.Said.{IsOneOf, IsSound}
use Rattle.law_typing_forms.specs.Whole.{IsWhole}
use Rattle.law_typing.specs.Known.{ConstantIs}
use Rattle.law_body_context.specs.Judged.{IsWithin}
use Rattle.law_program_context.specs.Left.{AreIntroducedOnce}
use Rattle.law_program_context.specs.Judged.{IsJudgedModule, AreJudgedModules}
use Rattle.law_program_typing.specs.Steady.{IsSteadyModule, AreSteadyModules}

-- In a sound program of judged modules, wherever types are known in one of them: of a record type and one that it extends, one alone
-- introduces a bound procedure of a name.
abbrev pub IntroducedOnce : Type 0
IntroducedOnce =
    (program : Program) → IsSound program → IsWhole program → (judged : AreJudgedModules program) → AreSteadyModules program program judged
    → (m : Module) → IsOneOf program m → (j : IsJudgedModule program m) → IsSteadyModule program m j → (w : Around) → IsWithin ConstantIs (shown j.faces) j.checked j.bodies.content w
    → AreIntroducedOnce program (map_of w)
