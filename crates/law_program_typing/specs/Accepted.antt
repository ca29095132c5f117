-- The law: what the rules accept is well typed.
use Rattle.std.specs.Prelude.{false}
use Rattle.std.specs.List.{AllByRecursion}
use Rattle.ob_types.specs.TypedSyntax.{Procedure, Module}
use Rattle.ob_meaning.specs.Values.{Program, form_in}
use Rattle.ob_scheme.specs.Procedures.{body_of}
use Rattle.law_simulation_relation.specs.Layout.{static_held}
use Rattle.law_simulation_relation.specs.Relation.{FormOk, AreDifferent}
use Rattle.law_simulation_relation.specs.Typed.{StmtsOk}
use Rattle.law_typing_forms.specs.Said.{IsSound}
use Rattle.law_typing_forms.specs.Whole.{IsWhole}
use Rattle.law_typing.specs.Forms.{ResultIs}
use Rattle.law_typing.specs.Laws.{Having}
use Rattle.law_typing.specs.Redefined.{AreRedefined}
use Rattle.law_typing_values.specs.Valued.{values}
use Rattle.law_program_context.specs.Judged.{AreJudgedModules}
use Rattle.law_program_typing.specs.Steady.{AreSteadyModules}

-- the variables of a procedure differ in name and can be built, and its result is no array and no record
pub record IsBuilt (program : Program) (p : Procedure) : Type 0 where
  pub different : AreDifferent (static_held program p)
  pub locals : AllByRecursion (λ v. FormOk program (form_in program v.of)) p.locals
  pub result : ResultIs program p.result

-- so it is of each procedure of a module and of its body, and its variables can be built
pub record AreBuilt (program : Program) (m : Module) : Type 0 where
  pub procedures : AllByRecursion (IsBuilt program) m.procedures
  pub body : IsBuilt program (body_of m)
  pub variables : AllByRecursion (λ v. FormOk program (form_in program v.of)) m.variables

abbrev pub IsWellTyped : Program → Module → Procedure → Type 0
IsWellTyped program m p = StmtsOk program (Having (values program)) m.name (static_held program p) p.result p.body false

-- the bodies of procedures, and that of the module
pub record AreWellTyped (program : Program) (m : Module) : Type 0 where
  pub procedures : AllByRecursion (IsWellTyped program m) m.procedures
  pub body : IsWellTyped program m (body_of m)

-- In a sound program of judged modules the bodies are well typed, where redefinitions are alike, variables can be built, and the maps of
-- types around bodies are steady.
abbrev pub AcceptedIsWellTyped : Type 0
AcceptedIsWellTyped = (program : Program) → IsSound program → IsWhole program → AreRedefined program → (judged : AreJudgedModules program) → AreSteadyModules program program judged → AllByRecursion (AreBuilt program) program → AllByRecursion (AreWellTyped program) program
