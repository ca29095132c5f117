use Rattle.std.proofs.Common.{sym, ◌∙◌, arith}
use Rattle.ob_machine_calls.proofs.Acts.{calls_waiting}
use Rattle.ob_machine_calls.proofs.calls.Calls.len.Goals as goal

pub returns-clause-len : goal.returns-clause-len
returns-clause-len c = c.len.ensures ∙ c.self.inside.waiting.ok.0 ∙ sym (calls_waiting c.self.inside c.args.self.now c.self.view_is)

pub returns-clause-most : goal.returns-clause-most
returns-clause-most c = omega (arith, c.len.ensures, c.self.inside.waiting.ok.0, c.self.invariant.few)
