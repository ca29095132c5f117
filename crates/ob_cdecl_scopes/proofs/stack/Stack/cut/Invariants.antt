use Rattle.std.proofs.Common.{◌≡◌, ◌-◌, ◌≤◌, length, drop, min}
use Rattle.ob_cdecl_scopes.proofs.stack.Stack.cut.Given as goal

abbrev pub invariant-names : goal.invariant-names
invariant-names l = (l.self ≡ drop (length l.fn.self - length l.self) l.fn.self) × (length l.self ≤ length l.fn.self) × (min l.left (length l.fn.self) ≤ length l.self)

abbrev pub decreases-names : goal.decreases-names
decreases-names l = length l.self
