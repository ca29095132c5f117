use Rattle.std.proofs.Common.{subst, false, List}
use Rattle.ob_cmp.specs.Check.{IsStale, check_of, stale_text}
use Rattle.ob_cmp.specs.declared.verdict.Stale.{Stale}
use Rattle.ob_shell_reports.specs.Prints.{PrintDoes}
use Rattle.ob_shell_session.proofs.Said.{said_check}
use Rattle.ob_shell_session.proofs.comparing.do_check.Goals as goal

pub returns-in-Ok-clause-does : goal.returns-in-Ok-clause-does
returns-in-Ok-clause-does g c = λ tf.
    said_check (g.O.Sink.tells c.args.out.now) c.args.name.now (g.O.Sink.taken c.args.out.now) (g.O.Sink.taken c.put_stale.new.out) (check_of (g.F.Shelf.files c.args.folder.now) c.args.name.now) (IsStale c.in-Ok.stale) c.put_stale.result (c.in-Ok.ensures.checked tf)
    (subst (λ (l : List Stale). PrintDoes (g.O.Sink.tells c.args.out.now) (g.O.Sink.taken c.args.out.now) (g.O.Sink.taken c.put_stale.new.out) (stale_text c.args.name.now l) false c.put_stale.result) c.as_slice.ensures c.put_stale.ensures.does)

pub returns-in-Err-clause-does : goal.returns-in-Err-clause-does
returns-in-Err-clause-does g c = λ tf. c.refuse_check.ensures.does (check_of (g.F.Shelf.files c.args.folder.now) c.args.name.now) (c.in-Err.ensures.checked tf)
