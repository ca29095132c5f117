-- The names of modules in a text that is read.
use Rattle.std.specs.Prelude.{◌≡◌, ℕ, true, List, map as each, Ok}
use Rattle.std.specs.List.{AllByRecursion}
use Rattle.ob_tree.specs.declared.decl.Module.{Module as Tree}
use Rattle.ob_parse_grammar.specs.TextReading.{reading}
use Rattle.ob_compile_model.specs.Compiling.{imported}
use Rattle.ob_parse_grammar.specs.Identifiers.{is_identifier}

abbrev pub AreIdentifiers : List (List ℕ) → Type 0
AreIdentifiers ms = AllByRecursion (λ m. is_identifier m ≡ true) ms

-- The modules that a module imports are named by identifiers.
abbrev pub ImportsAreNamed : Type 0
ImportsAreNamed = (text : List ℕ) (tree : Tree) → reading text ≡ Ok tree → AreIdentifiers (each imported tree.imports)
