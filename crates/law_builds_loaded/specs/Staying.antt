-- What stays where one more module is behind modules in order.
use Rattle.std.specs.Prelude.{[]}
use Rattle.std.specs.List.{AllByRecursion}
use Rattle.ob_types.specs.Maps.{IsHeld}
use Rattle.ob_types.specs.TypedSyntax.{Module}
use Rattle.ob_meaning.specs.Values.{Program, description}
use Rattle.law_typing_env.specs.Ordered.{StandInOrder}
use Rattle.law_program_runs.specs.Builds.{FormsStay}

-- the types of the variables of modules are types of the program
abbrev pub AreVariablesHeld : Program → Type 0
AreVariablesHeld program = AllByRecursion (λ k. AllByRecursion (λ v. IsHeld (description program) v.of) k.variables) program

-- Types and variables of modules in order are what they are also where one more module is behind.
abbrev pub OrderedStay : Type 0
OrderedStay = (program : Program) → StandInOrder [] program → AreVariablesHeld program → (m : Module) → FormsStay program m
