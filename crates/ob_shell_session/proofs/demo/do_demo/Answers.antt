use Rattle.std.proofs.Common.{Option, ℕ, subst}
use Rattle.ob_io.specs.Kept.{file_in}
use Rattle.ob_shell_model.specs.Bytes.{demo_made}
use Rattle.ob_shell_session.specs.Does.{MakesSo}
use Rattle.ob_shell_session.proofs.Demos.{demo_is}
use Rattle.ob_shell_session.proofs.demo.do_demo.Goals as goal

pub returns-in-Ok-Some-clause-does : goal.returns-in-Ok-Some-clause-does
returns-in-Ok-Some-clause-does g c = λ w to.
    demo_is c.args.settings w c.args.count (demo_made c.args.count) (c.in-Ok-Some.objects, file_in c.make_all.new.folder.pairs) (g.O.Sink.taken c.args.out.now) (g.O.Sink.taken c.run_last.new.out) c.run_last.result
    (subst (λ (o : Option ℕ). MakesSo (demo_made c.args.count) (file_in c.make_all.new.folder.pairs) o) c.in-Ok-Some.field-0-is c.in-Ok-Some.ensures)
    (c.run_last.ensures.does w to)
