use Rattle.std.proofs.Common.{◌≡◌, ◌∙◌, ap, sym, ℕ, suc, ◌+◌, add-one, arith}
use Rattle.std.specs.Prelude.{pos}
use Rattle.std.specs.Int.{w32}
use Rattle.std.proofs.lemmas.Int.{to_z_pos}
use Rattle.ob_gproc.specs.Placed.{place_of}
use Rattle.ob_gproc.proofs.Placing.{procedures_same}
use Rattle.ob_gproc.proofs.scope.ProcedureScopeScope.procedure_index.Goals as goal

pub returns : goal.returns
returns g c =
    to_z_pos w32 (c.get.result + 1) (omega (arith, c.get.ensures.within))
    ∙ ap pos (add-one c.get.result ∙ ap suc (c.get.ensures.is ∙ ap (place_of c.args.self.now.procedures.now.index.positions c.args.self.now.procedures.now.total) c.as_bytes.ensures ∙ c.args.self.now.procedures_placed c.args.name.now ∙ procedures_same c.args.self.now.unit.now.procedures c.args.name.now))
