use Rattle.std.proofs.Common.{◌≡◌, ◌++◌, ◌≤◌, length, take, reverse}
use Rattle.ob_cdecl_block.specs.Steps.{kept_later}
use Rattle.ob_cdecl_block.proofs.left.all_left.Given as goal

abbrev pub invariant-heads : goal.invariant-heads
invariant-heads l = record {
  within : l.i ≤ length l.heads;
  put : l.all ++ kept_later (reverse (take l.i l.heads)) ≡ l.later ++ kept_later (reverse l.heads);
}

abbrev pub decreases-heads : goal.decreases-heads
decreases-heads l = l.i
