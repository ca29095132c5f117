use Rattle.std.proofs.Common.{◌≡◌, ◌++◌, true, length}
use Rattle.ob_cdecl_scopes.specs.Descending.{are_within, are_of}
use Rattle.ob_cdecl_scopes.proofs.moves.take_inner.Given as goal

abbrev pub invariant-names : goal.invariant-names
invariant-names l = record {
  all : l.names.items ++ l.known ≡ l.fn.known;
  fall : are_within l.scope l.known ≡ true;
  one_scope : are_of l.scope l.names.items ≡ true;
}

abbrev pub decreases-names : goal.decreases-names
decreases-names l = length l.known
