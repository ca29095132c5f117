use Rattle.std.proofs.Common.{refl}
use Rattle.ob_cdecl_scopes.proofs.Scoping.{one_more}
use Rattle.ob_cdecl_scopes.proofs.scope.Scope.declare.Goals as goal

pub invariant_of-self-clause-scopes_fall : goal.invariant_of-self-clause-scopes_fall
invariant_of-self-clause-scopes_fall g c =
    let s = c.args.self.now in
    one_more c.push.result s.scope (record { name = c.args.name; scope = s.scope; what = c.args.what }) s.known c.push.new.self c.push.ensures.ok c.push.ensures.err refl s.scopes_fall
