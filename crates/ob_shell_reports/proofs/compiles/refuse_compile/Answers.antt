use Rattle.std.proofs.Common.{sym, subst, true, List, ℕ}
use Rattle.ob_compile_model.specs.declared.fault.CompileRefusal.{CompileRefusal}
use Rattle.ob_compile_model.specs.declared.fault.CompileRefusal.TheVariants as why
use Rattle.ob_shell_reports.specs.Prints.{PrintDoes}
use Rattle.ob_shell_reports.specs.Texts.{refused, reason_answered}
use Rattle.ob_shell_reports.proofs.compiles.refuse_compile.Goals as goal

pub returns-in-Changed-clause-does : goal.returns-in-Changed-clause-does
returns-in-Changed-clause-does g c =
    subst (λ (w : CompileRefusal). PrintDoes (g.O.Sink.tells c.args.out.now) (g.O.Sink.taken c.args.out.now) (g.O.Sink.taken c.refuse_client-in-Changed.new.out) (refused c.args.name.now (reason_answered w)) true c.refuse_client-in-Changed.result) (sym c.in-Changed.is)
    (subst (λ (n : List ℕ). PrintDoes (g.O.Sink.tells c.args.out.now) (g.O.Sink.taken c.args.out.now) (g.O.Sink.taken c.refuse_client-in-Changed.new.out) (refused n (reason_answered (why.Changed c.in-Changed.client c.in-Changed.object c.in-Changed.aspect c.in-Changed.wanted c.in-Changed.found))) true c.refuse_client-in-Changed.result) c.as_bytes-name.ensures.value c.refuse_client-in-Changed.ensures.does)
