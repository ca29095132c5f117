use Rattle.ob_cdecl_scopes.specs.Scopes.{around_of}
use Rattle.ob_rules.specs.Types.{written}
use Rattle.ob_rules.specs.Expressions.{phrase_of}
use Rattle.ob_cdecl.proofs.Growing.{grows_not, constant_grows_ok, type_grows_ok, variables_grow_ok}
use Rattle.ob_cdecl.proofs.order.plain_declared.Goals as goal

pub returns-in-Constant-clause-grows : goal.returns-in-Constant-clause-grows
returns-in-Constant-clause-grows g c =
    constant_grows_ok c.constant_declared.result c.in-Constant.name (phrase_of c.in-Constant.value) (around_of g.E.Types.types c.args.scope.now) (around_of g.E.Types.types c.constant_declared.new.scope) c.constant_declared.ensures.around

pub returns-in-NamedType-clause-grows : goal.returns-in-NamedType-clause-grows
returns-in-NamedType-clause-grows g c =
    type_grows_ok c.type_declared.result c.in-NamedType.name (written c.in-NamedType.node) (around_of g.E.Types.types c.args.scope.now) (around_of g.E.Types.types c.type_declared.new.scope) c.type_declared.ensures.around

pub returns-in-Variables-clause-grows : goal.returns-in-Variables-clause-grows
returns-in-Variables-clause-grows g c =
    variables_grow_ok c.variables_declared.result c.as_slice.result.now (written c.in-Variables.node) (around_of g.E.Types.types c.args.scope.now) (around_of g.E.Types.types c.variables_declared.new.scope) c.variables_declared.ensures.around

pub returns-in-Procedure-clause-grows : goal.returns-in-Procedure-clause-grows
returns-in-Procedure-clause-grows g c = grows_not (around_of g.E.Types.types c.args.scope.now)

pub returns-in-Forward-clause-grows : goal.returns-in-Forward-clause-grows
returns-in-Forward-clause-grows g c = grows_not (around_of g.E.Types.types c.args.scope.now)
