-- Texts whose declarations are named by words.
use Rattle.std.specs.Prelude.{◌≡◌, ℕ, ◌<◌, true, List, length, Ok}
use Rattle.ob_tree.specs.declared.decl.Module.{Module as Tree}
use Rattle.ob_parse_grammar.specs.TextReading.{reading}
use Rattle.law_names_distinct.specs.Named.{tree_named}

-- What a text declares is named by words, where 32 bits count its bytes.
abbrev pub ReadingsAreWorded : Type 0
ReadingsAreWorded = (text : List ℕ) (tree : Tree) → length text < 4294967295 → reading text ≡ Ok tree → tree_named tree ≡ true
