use Rattle.std.proofs.Common.{◌≡◌, ◌+◌, length}
use Rattle.ob_layout.proofs.Names.{IsIndexing}
use Rattle.ob_env.specs.Viewed.{type_names}
use Rattle.ob_env.proofs.view.index_of.Given as goal

abbrev pub invariant-loop-rest : goal.invariant-loop-rest
invariant-loop-rest l = record {
  indexing : IsIndexing l.index.positions l.at (type_names l.rest) (type_names l.types);
  count : l.at + length l.rest ≡ length l.types;
}

abbrev pub decreases-loop-rest : goal.decreases-loop-rest
decreases-loop-rest l = length l.rest
