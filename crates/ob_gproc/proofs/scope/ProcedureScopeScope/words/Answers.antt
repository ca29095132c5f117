use Rattle.std.proofs.Common.{◌≡◌, ◌∙◌, sym, arith}
use Rattle.ob_gproc.proofs.Placing.{limited_is, limited_small}
use Rattle.ob_gproc.proofs.scope.ProcedureScopeScope.words.Goals as goal

pub returns-in-Some-clause-is : goal.returns-in-Some-clause-is
returns-in-Some-clause-is g c = limited_is _ _ c.in-Some.ensures

pub returns-in-Some-clause-within : goal.returns-in-Some-clause-within
returns-in-Some-clause-within g c = omega (arith, limited_small _ _ c.in-Some.ensures)
