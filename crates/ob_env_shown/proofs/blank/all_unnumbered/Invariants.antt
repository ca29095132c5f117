use Rattle.std.proofs.Common.{◌≡◌, ◌++◌, map, drop}
use Rattle.ob_env.specs.Shown.{unnumbered}
use Rattle.ob_env_shown.proofs.blank.all_unnumbered.Given as goal

abbrev pub invariant-methods : goal.invariant-methods
invariant-methods l = l.all ++ map unnumbered (drop l.method-index l.methods) ≡ map unnumbered l.methods
