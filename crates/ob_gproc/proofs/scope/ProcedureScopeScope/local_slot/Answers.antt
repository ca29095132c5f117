use Rattle.std.proofs.Common.{◌≡◌, ◌∙◌, ap, ◌+◌, arith}
use Rattle.std.specs.Prelude.{pos}
use Rattle.std.specs.Int.{w32}
use Rattle.std.proofs.lemmas.Int.{to_z_pos}
use Rattle.ob_gproc.specs.Scoped.{parameters_slots}
use Rattle.ob_gproc.proofs.scope.ProcedureScopeScope.local_slot.Goals as goal

pub returns : goal.returns
returns g c =
    to_z_pos w32 (c.args.self.now.slots.now.total + c.get.result) (omega (arith, c.get.ensures.within, c.args.self.now.slots.now.within))
    ∙ ap pos (ap (λ n. n + c.get.result) c.args.self.now.slots_counted ∙ ap (λ n. parameters_slots c.args.self.now.parameters.now + n) (c.get.ensures.is ∙ c.args.self.now.words_placed c.args.name.now))
