-- The law of the strings in a module that is read.
use Rattle.std.specs.Prelude.{◌≡◌, ℕ, List, Ok, true}
use Rattle.ob_tree.specs.declared.decl.Module.{Module as Tree}
use Rattle.ob_parse_grammar.specs.TextReading.{reading}
use Rattle.law_body_context.specs.Spelled.{tree_spelled}

-- THE STRINGS of a module that is read are of characters, of 8 bits.
abbrev pub ReadingsAreSpelled : Type 0
ReadingsAreSpelled = (text : List ℕ) (tree : Tree) → reading text ≡ Ok tree → tree_spelled tree ≡ true
