use Rattle.std.proofs.Common.{refl, arith}
use Rattle.ob_shell_session.proofs.Goings.{ends_early}
use Rattle.ob_shell_model.specs.Session.{bytes}
use Rattle.ob_shell_session.proofs.script.run_script.Goals as goal

pub returns-in_default-clause-ends : goal.returns-in_default-clause-ends
returns-in_default-clause-ends g c = λ ti tf to. ends_early (bytes c.args.settings (g.F.Shelf.files c.args.folder.now)) (g.O.Sink.taken c.args.out.now) (g.F.Shelf.files c.args.folder.now) (g.I.Source.left c.args.script.now) 5 refl (λ e. omega (arith, e)) refl

pub returns-in_default-new-clause-ends : goal.returns-in_default-new-clause-ends
returns-in_default-new-clause-ends g c = λ ti tf to. ends_early (bytes c.args.settings (g.F.Shelf.files c.args.folder.now)) (g.O.Sink.taken c.args.out.now) (g.F.Shelf.files c.args.folder.now) (g.I.Source.left c.args.script.now) 5 refl (λ e. omega (arith, e)) refl
