use Rattle.std.proofs.Common.{refl, arith}
use Rattle.ob_shell_session.proofs.Goings.{ends_early}
use Rattle.ob_shell_model.specs.Session.{bytes}
use Rattle.ob_shell_session.proofs.script.do_all.Goals as goal

pub returns-in-Err-Memory-clause-ends : goal.returns-in-Err-Memory-clause-ends
returns-in-Err-Memory-clause-ends g c = λ s e ti tf to. ends_early (bytes s (g.F.Shelf.files c.args.folder.now)) (g.O.Sink.taken c.args.out.now) (g.F.Shelf.files c.args.folder.now) (g.I.Source.left c.args.script.now) 5 refl (λ e. omega (arith, e)) refl
