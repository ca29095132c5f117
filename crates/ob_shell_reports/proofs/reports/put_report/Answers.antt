use Rattle.std.proofs.Common.{◌++◌, sym, subst, true, codes, List, ℕ}
use Rattle.std.specs.Prelude.{decimal}
use Rattle.ob_machine.specs.declared.outcome.Outcome.{Outcome}
use Rattle.ob_shell_reports.specs.Texts.{report, stops}
use Rattle.ob_shell_reports.specs.Prints.{PrintDoes}
use Rattle.ob_shell_reports.proofs.reports.put_report.Goals as goal

pub returns-in-Illegal-clause-does : goal.returns-in-Illegal-clause-does
returns-in-Illegal-clause-does g c =
    subst (λ (o : Outcome). PrintDoes (g.O.Sink.tells c.args.out.now) (g.O.Sink.taken c.args.out.now) (g.O.Sink.taken c.put_index.new.out) (report o) (stops o) c.put_index.result) (sym c.in-Illegal.is)
    (subst (λ (n : List ℕ). PrintDoes (g.O.Sink.tells c.args.out.now) (g.O.Sink.taken c.args.out.now) (g.O.Sink.taken c.put_index.new.out) (codes "\nillegal at " ++ (n ++ (codes " " ++ (decimal c.in-Illegal.at ++ codes "\n")))) true c.put_index.result) c.as_bytes-in-Illegal.ensures c.put_index.ensures.does)
