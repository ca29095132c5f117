use Rattle.std.proofs.Common.{◌≡◌, ◌∙◌, ap, arith}
use Rattle.std.specs.Prelude.{pos}
use Rattle.std.specs.Int.{w32}
use Rattle.std.proofs.lemmas.Int.{to_z_pos}
use Rattle.ob_gproc.proofs.scope.ProcedureScopeScope.variable_place.Goals as goal

pub returns : goal.returns
returns g c = to_z_pos w32 c.get.result (omega (arith, c.get.ensures.within)) ∙ ap pos (c.get.ensures.is ∙ c.args.self.now.variables_placed c.args.name.now)
