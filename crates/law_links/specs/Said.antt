-- The links to variables and procedures.
use Rattle.std.specs.Prelude.{◌≡◌, ℕ, List, Option, Ok}
use Rattle.std.specs.List.{AllByRecursion}
use Rattle.ob_env_walk.specs.Walk.{Entry}
use Rattle.ob_compile_model.specs.Compiling.{Compiled, compiled, texts}
use Rattle.ob_link.specs.Files.{linked}
use Rattle.law_load_plan.specs.Compiled.{Text, file_of, is_variable, is_procedure, IsUsedAs}

-- the links to variables and procedures name what the module uses
pub record AreNamesUsed (c : Compiled Text) : Type 0 where
  pub variables : AllByRecursion (λ l. IsUsedAs is_variable c (linked l)) (file_of c).links.variables
  pub procedures : AllByRecursion (λ l. IsUsedAs is_procedure c (linked l)) (file_of c).links.procedures

-- So it is of each module that compiles.
abbrev pub CompiledNamesUsed : Type 0
CompiledNamesUsed = (entry : List ℕ → Entry Text) (source : Option (List ℕ)) (c : Compiled Text) → compiled texts entry source ≡ Ok c → AreNamesUsed c
