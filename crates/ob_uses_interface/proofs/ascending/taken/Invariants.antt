use Rattle.std.proofs.Common.{◌≡◌, ◌++◌, length, map}
use Rattle.ob_uses_interface.proofs.ascending.taken.Given as goal

abbrev pub invariant-entries : goal.invariant-entries
invariant-entries l = l.objects ++ map (λ e. e.object) l.left.keys ≡ map (λ e. e.object) l.initial.left.keys

abbrev pub decreases-entries : goal.decreases-entries
decreases-entries l = length l.left.keys
