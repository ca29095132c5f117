use Rattle.std.proofs.Common.{◌∙◌}
use Rattle.ob_shell_session.proofs.Compiles.{replaced_both}
use Rattle.ob_shell_session.proofs.compiling.replace_both.Goals as goal

pub returns-clause-does : goal.returns-clause-does
returns-clause-does g c = λ tf.
    replaced_both (g.F.Shelf.files c.args.folder.now) (g.F.Shelf.files c.replace.new.self) (g.F.Shelf.files c.replace-2.new.self) (c.args.first.now, c.args.bytes.now) (c.args.second.now, c.args.more.now) c.replace-2.result (c.in_ok-replace.ensures.files tf) (c.replace-2.ensures.files (c.replace.ensures.told ∙ tf))
