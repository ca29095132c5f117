use Rattle.std.proofs.Common.{◌∙◌}
use Rattle.ob_io.specs.Kept.{file_in}
use Rattle.ob_shell_session.proofs.Demos.{one_made}
use Rattle.ob_shell_session.proofs.demo.make_one.Goals as goal

pub returns-clause-makes : goal.returns-clause-makes
returns-clause-makes g c =
    one_made c.args.count c.args.at (file_in c.args.folder.now.pairs) (file_in c.put_file.new.folder.pairs) (file_in c.make_file.new.folder.pairs) c.in-Ok.file.now c.as_slice.result.now c.in_ok-made.made
    (c.in-Ok.ensures.cases.0 ∙ c.deref.ensures.value ∙ c.in_ok-file.ensures) (c.as_slice.ensures ∙ c.in_ok-text.ensures) c.in_ok-put_file.ensures c.in_ok-made.ensures.makes
