-- The law of the places and the strings in a module that is read.
use Rattle.std.specs.Prelude.{◌≡◌, ℕ, ◌<◌, ◌^◌, List, length, Ok, true}
use Rattle.ob_tree.specs.declared.decl.Module.{Module as Tree}
use Rattle.ob_parse_grammar.specs.TextReading.{reading}
use Rattle.law_spelling_read.specs.ReadPlaces.{tree_fits}

-- THE PLACES in a module that is read from a text of fewer than 2^30 characters are numbers of 32 bits, and its strings are short and of
-- characters.
abbrev pub ReadingsArePlaced : Type 0
ReadingsArePlaced = (text : List ℕ) → length text < 2 ^ 30 → (tree : Tree) → reading text ≡ Ok tree → tree_fits tree ≡ true
