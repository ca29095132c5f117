use Rattle.std.proofs.Common.{◌≡◌, ◌++◌, ◌≤◌, length}
use Rattle.ob_cdecl_scopes.proofs.moves.put_back.Given as goal

abbrev pub invariant-names : goal.invariant-names
invariant-names l = record {
  all : l.aside.items ++ l.known ≡ l.fn.aside.items ++ l.fn.known;
  few : length l.fn.known ≤ l.names → length l.known ≤ l.names;
}

abbrev pub decreases-names : goal.decreases-names
decreases-names l = length l.aside.items
