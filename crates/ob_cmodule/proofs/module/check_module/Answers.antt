use Rattle.ob_cdecl_scopes.specs.Scopes.{around_of}
use Rattle.ob_cmodule.proofs.ModuleLaws.{level_at, unit_at, shown_at, tree_at, broken_at}
use Rattle.ob_cmodule.proofs.module.check_module.Goals as goal

pub check_within-requires-clause-level : goal.check_within-requires-clause-level
check_within-requires-clause-level g c = level_at (g.E.Types.types c.args.imported.now) c.args.«module».now (around_of g.E.Types.types c.in_ok-scope.scope) c.in_ok-scope.ensures

pub check_within-requires-clause-unit : goal.check_within-requires-clause-unit
check_within-requires-clause-unit g c = unit_at (g.E.Types.types c.args.imported.now) c.args.«module».now (around_of g.E.Types.types c.in_ok-scope.scope) c.in_ok-scope.ensures

pub check_within-requires-clause-shown : goal.check_within-requires-clause-shown
check_within-requires-clause-shown g c = shown_at (g.E.Types.types c.args.imported.now) c.args.«module».now (around_of g.E.Types.types c.in_ok-scope.scope) c.in_ok-scope.ensures

pub returns-clause-tree : goal.returns-clause-tree
returns-clause-tree g c = tree_at (g.E.Types.types c.args.imported.now) c.args.«module».now (around_of g.E.Types.types c.in_ok-scope.scope) _ c.in_ok-scope.ensures c.in_ok-checked.ensures.tree

pub returns-clause-broken : goal.returns-clause-broken
returns-clause-broken g c = broken_at (g.E.Types.types c.args.imported.now) c.args.«module».now (around_of g.E.Types.types c.in_ok-scope.scope) _ c.in_ok-scope.ensures c.in_ok-checked.ensures.broken
