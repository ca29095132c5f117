-- Declarations of variables in a text that is read.
use Rattle.std.specs.Prelude.{◌≡◌, ℕ, true, List, map, Ok}
use Rattle.ob_tree.specs.declared.decl.Module.{Module as Tree}
use Rattle.ob_parse_grammar.specs.TextReading.{reading}
use Rattle.law_names_procedures.specs.Procedures.{all_true}
use Rattle.law_local_module.specs.Laws.{declares_variables}

-- Each declaration of variables of a module that is read declares one at least.
abbrev pub ReadingsDeclare : Type 0
ReadingsDeclare = (text : List ℕ) (tree : Tree) → reading text ≡ Ok tree → all_true (map declares_variables tree.decls) ≡ true
