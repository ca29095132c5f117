use Rattle.std.proofs.Common.{◌≡◌, ◌∙◌, ap, arith}
use Rattle.std.specs.Prelude.{pos}
use Rattle.std.specs.Int.{w32}
use Rattle.std.proofs.lemmas.Int.{to_z_pos}
use Rattle.ob_gproc.specs.Placed.{place_of}
use Rattle.ob_gproc.proofs.scope.ProcedureScopeScope.type_index.Goals as goal

pub returns : goal.returns
returns g c = to_z_pos w32 c.get.result (omega (arith, c.get.ensures.within)) ∙ ap pos (c.get.ensures.is ∙ ap (place_of c.args.self.now.records.now.index.positions c.args.self.now.records.now.total) c.as_bytes.ensures ∙ c.args.self.now.records_placed c.args.name.now)
