use Rattle.ob_cdecl_scopes.specs.Scopes.{around_of}
use Rattle.ob_cdecl_bound.proofs.Keeping.{deep_kept}
use Rattle.ob_cdecl_bound.proofs.depth.deep_types.Goals as goal

pub returns : goal.returns
returns g c =
    let types = g.E.Types.types in
    deep_kept c.args.unit (types c.args.imported.now) c.args.types.now c.in_ok-all.all c.as_slice.result.now c.as_slice-2.result.now (around_of types c.in_ok-scope.scope) c.in_ok-deep.deep c.in_ok-scope.ensures c.as_slice.ensures c.as_slice-2.ensures c.in_ok-all.ensures c.in_ok-deep.ensures
