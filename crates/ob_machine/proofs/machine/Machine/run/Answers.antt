use Rattle.ob_machine.proofs.Runs.{runs_over}
use Rattle.ob_machine.proofs.machine.Machine.run.Goals as goal

pub returns-clause-runs : goal.returns-clause-runs
returns-clause-runs g c =
    let q = c.entry_procedure-procedure in
    rw (← c.self.view_is) (runs_over _ _ _ c.self.inside.image c.args.entry q.result.now c.self.inside.state c.begin.new.state c.run_calls-outcome.new.state c.run_calls-outcome.new.here c.clear.new.self c.run_calls-outcome.new.calls c.args.turns.now c.entry.result c.run_calls-outcome.result q.ensures.room q.ensures.there c.begin.ensures c.clear.ensures c.entry.ensures c.run_calls-outcome.ensures.does)
