use Rattle.std.proofs.Common.{◌≡◌, ◌+◌, length}
use Rattle.ob_layout.proofs.Names.{IsIndexing}
use Rattle.ob_env.specs.Found.{module_names}
use Rattle.ob_env.proofs.found.modules_of.Given as goal

abbrev pub invariant-loop-rest : goal.invariant-loop-rest
invariant-loop-rest l = record {
  indexing : IsIndexing l.index.positions l.at (module_names l.rest) (module_names l.faces);
  count : l.at + length l.rest ≡ length l.faces;
}

abbrev pub decreases-loop-rest : goal.decreases-loop-rest
decreases-loop-rest l = length l.rest
