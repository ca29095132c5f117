use Rattle.std.proofs.Common.{◌≡◌, ◌++◌, take}
use Rattle.ob_cdecl_block.proofs.left.put_all.Given as goal

abbrev pub invariant-all : goal.invariant-all
invariant-all l = l.all ≡ l.fn.all ++ take l.left-index l.later
