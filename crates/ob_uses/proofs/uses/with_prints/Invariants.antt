use Rattle.std.proofs.Common.{◌≡◌, ◌++◌, drop, map}
use Rattle.std.specs.List.{flat_map}
use Rattle.ob_env.specs.Faces.{wanted_of}
use Rattle.ob_uses.specs.Uses.{with_kept}
use Rattle.ob_uses.proofs.uses.with_prints.Given as goal

abbrev pub invariant-pairs : goal.invariant-pairs
invariant-pairs g l = map wanted_of l.all ++ flat_map (with_kept (g.P.Prints.prints l.prints)) (drop l.pair-index l.pairs) ≡ flat_map (with_kept (g.P.Prints.prints l.prints)) l.pairs
