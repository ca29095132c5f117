-- The types of a checked module.
use Rattle.std.specs.Prelude.{◌≡◌, ℕ, ◌<◌, true, List, length, map, Option, Some, Ok, bytes_eq}
use Rattle.std.specs.List.{IsDistinct}
use Rattle.ob_tree.specs.declared.names.QName.{QName}
use Rattle.ob_tree.specs.declared.decl.Module.{Module as Tree}
use Rattle.ob_types.specs.declared.desc.Desc.{Desc}
use Rattle.ob_types.specs.declared.typed.TypedModule.{TypedModule}
use Rattle.ob_rules.specs.Declarations.{checked}
use Rattle.ob_env_walk.specs.Walk.{Entry}
use Rattle.ob_parse_grammar.specs.TextReading.{reading}
use Rattle.ob_compile_model.specs.Compiling.{Compiled, compiled, texts}
use Rattle.law_names_distinct.specs.Distinct.{AreDistinct}
use Rattle.law_names_distinct.specs.Named.{tree_named}
use Rattle.law_names_procedures.specs.Procedures.{ShowBases}
use Rattle.law_names_procedures.specs.Named.{AreEntriesNamed}

-- They have different names, where names that are declared are words. What imported modules show as a pointer's base has to be shown: nothing
-- is said of a receiver of a pointer type whose base is not, and its procedure is named as one that is not bound.
abbrev pub TypesDiffer : Type 0
TypesDiffer = (shown : QName → Option Desc) (tree : Tree) (m : TypedModule) → ShowBases shown tree.name.name → tree_named tree ≡ true → checked shown tree ≡ Some m → AreDistinct (λ t. t.name) m.types

-- So it is of what is read of a text, where 32 bits count its bytes.
abbrev pub ReadTypesDiffer : Type 0
ReadTypesDiffer = (text : List ℕ) (tree : Tree) (shown : QName → Option Desc) (m : TypedModule) → length text < 4294967295 → ShowBases shown tree.name.name → reading text ≡ Ok tree → checked shown tree ≡ Some m → AreDistinct (λ t. t.name) m.types

-- So it is of a module that compiles.
abbrev pub CompiledTypesDiffer : Type 0
CompiledTypesDiffer = (entry : List ℕ → Entry (List ℕ)) → AreEntriesNamed entry → (source : Option (List ℕ)) (c : Compiled (List ℕ)) → compiled texts entry source ≡ Ok c → IsDistinct bytes_eq (map (λ t. t.name) c.tree.types)
