use Rattle.std.proofs.Common.{◌≡◌, ◌++◌, true, length}
use Rattle.ob_cdecl_scopes.specs.Descending.{are_within}
use Rattle.ob_cdecl_scopes.proofs.moves.hide.Given as goal

abbrev pub invariant-names : goal.invariant-names
invariant-names l = record {
  all : l.aside.items ++ l.known ≡ l.fn.aside.items ++ l.fn.known;
  fall : are_within l.scope l.known ≡ true;
}

abbrev pub decreases-names : goal.decreases-names
decreases-names l = length l.known
