use Rattle.std.proofs.Common.{◌≡◌, ◌++◌, length}
use Rattle.ob_cdecl_scopes.proofs.moves.put_all.Given as goal

abbrev pub invariant-names : goal.invariant-names
invariant-names l = l.rest.items ++ l.known ≡ l.fn.names.items ++ l.fn.known

abbrev pub decreases-names : goal.decreases-names
decreases-names l = length l.rest.items
