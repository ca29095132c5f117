use Rattle.std.proofs.Common.{◌≡◌, ◌+◌, ◌++◌, length}
use Rattle.ob_cmp.specs.Rising.{AreObjects, shown}
use Rattle.ob_cmp.specs.Verdicts.{verdicts_in}
use Rattle.ob_cmp.proofs.comparing.compare_objects.Given as goal

abbrev pub invariant-merge : goal.invariant-merge
invariant-merge l = record {
  older : AreObjects l.old_module l.older;
  newer : AreObjects l.new_module l.newer;
  verdicts : l.all ++ verdicts_in l.old_module (shown l.older) l.new_module (shown l.newer) ≡ verdicts_in l.old_module (shown l.old) l.new_module (shown l.new);
}

abbrev pub decreases-merge : goal.decreases-merge
decreases-merge l = length l.older + length l.newer
