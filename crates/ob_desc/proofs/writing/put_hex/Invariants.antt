use Rattle.std.proofs.Common.{◌≡◌, ◌++◌, take}
use Rattle.ob_desc.specs.Grammar.{hex_print}
use Rattle.ob_desc.proofs.writing.put_hex.Given as goal

abbrev pub invariant-loop-c : goal.invariant-loop-c
invariant-loop-c l = l.out.items ≡ l.fn.out.items ++ hex_print (take l.c-index l.text)
