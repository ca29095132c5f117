-- The links to record types.
use Rattle.std.specs.Prelude.{◌≡◌, ℕ, List, Option, Ok}
use Rattle.std.specs.List.{AllByRecursion}
use Rattle.ob_env_walk.specs.Walk.{Entry}
use Rattle.ob_compile_model.specs.Compiling.{Compiled, compiled, texts}
use Rattle.law_names_procedures.specs.Named.{AreEntriesNamed}
use Rattle.law_load_plan.specs.Compiled.{Text, file_of, is_record, IsUsedAs}

-- The links to record types name what the module uses, and so it is of each module that compiles.
abbrev pub CompiledTypesUsed : Type 0
CompiledTypesUsed = (entry : List ℕ → Entry Text) → AreEntriesNamed entry → (source : Option (List ℕ)) (c : Compiled Text) → compiled texts entry source ≡ Ok c → AllByRecursion (IsUsedAs is_record c) (file_of c).links.types
