use Rattle.std.proofs.Common.{◌++◌, subst, true, codes, List, ℕ, Err}
use Rattle.ob_cmp.specs.Check.{NoObject}
use Rattle.ob_cmp.specs.Checking.{ChecksAs}
use Rattle.ob_cmp.specs.declared.check.CheckFault.{CheckFault}
use Rattle.ob_shell_reports.specs.Prints.{PrintDoes}
use Rattle.ob_shell_session.proofs.Said.{said_check, five}
use Rattle.ob_shell_session.proofs.comparing.refuse_check.Goals as goal

pub returns-in-NoObject-clause-does : goal.returns-in-NoObject-clause-does
returns-in-NoObject-clause-does g c = λ k e.
    said_check (g.O.Sink.tells c.args.out.now) c.args.name.now (g.O.Sink.taken c.args.out.now) (g.O.Sink.taken c.refuse.new.out) k NoObject c.refuse.result (subst (λ (w : CheckFault). ChecksAs k (Err w)) c.in-NoObject.is e)
    (subst (λ (n : List ℕ). PrintDoes (g.O.Sink.tells c.args.out.now) (g.O.Sink.taken c.args.out.now) (g.O.Sink.taken c.refuse.new.out) (codes "refused " ++ n ++ codes ": " ++ n ++ codes " has no object file\n") true c.refuse.result) c.as_bytes-bytes.ensures
    (subst (λ (t : List ℕ). PrintDoes (g.O.Sink.tells c.args.out.now) (g.O.Sink.taken c.args.out.now) (g.O.Sink.taken c.refuse.new.out) t true c.refuse.result) (five (codes "refused ") c.as_bytes-bytes.result.now (codes ": ") c.as_bytes-bytes.result.now (codes " has no object file\n")) c.refuse.ensures.does))
