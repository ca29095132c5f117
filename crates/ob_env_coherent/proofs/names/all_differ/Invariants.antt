use Rattle.std.proofs.Common.{◌≡◌, ◌≤◌, true, length, drop}
use Rattle.ob_env.specs.Fit.{are_distinct}
use Rattle.ob_env_coherent.proofs.Distinct.{HasFrom}
use Rattle.ob_env_coherent.proofs.names.all_differ.Given as goal

abbrev pub invariant-loop-at : goal.invariant-loop-at
invariant-loop-at l = record {
  within : l.at ≤ length l.names;
  distinct : are_distinct (drop l.at l.names) ≡ true;
  has : HasFrom l.later.positions l.at l.names;
}

abbrev pub decreases-loop-at : goal.decreases-loop-at
decreases-loop-at l = l.at
