use Rattle.std.proofs.Common.{◌+◌, arith}
use Rattle.ob_cdecl_scopes.proofs.Scoping.{wider}
use Rattle.ob_cdecl_scopes.proofs.scope.Scope.enter.Goals as goal

pub invariant_of-self-clause-scopes_fall : goal.invariant_of-self-clause-scopes_fall
invariant_of-self-clause-scopes_fall g c = let s = c.args.self.now in wider s.scope (s.scope + 1) s.known (omega arith) s.scopes_fall
