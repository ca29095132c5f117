use Rattle.std.proofs.Common.{◌∙◌}
use Rattle.ob_io.specs.Kept.{file_in}
use Rattle.ob_shell_session.proofs.Demos.{opening_cut, command_text}
use Rattle.ob_shell_session.proofs.demo.run_behind.Goals as goal

pub returns-in-Err-clause-does : goal.returns-in-Err-clause-does
returns-in-Err-clause-does g c = λ w to. opening_cut (g.O.Sink.tells c.args.out.now) c.args.settings w c.args.count c.args.objects (file_in c.args.folder.now.pairs) (g.O.Sink.taken c.args.out.now) (g.O.Sink.taken c.put_demo.new.out) c.in-Err.stop to c.in-Err.ensures.does

pub returns-in-Ok-clause-does : goal.returns-in-Ok-clause-does
returns-in-Ok-clause-does g c = λ w to. command_text c.args.settings w c.args.count c.args.objects (file_in c.args.folder.now.pairs) c.args.name.now (g.O.Sink.taken c.args.out.now) (g.O.Sink.taken c.put_demo.new.out) (g.O.Sink.taken c.run_command.new.out) c.run_command.result c.requires.named (c.in-Ok.ensures.does.0 to) c.run_command.ensures.cause.no_folder (c.run_command.ensures.does (c.in-Ok.ensures.told ∙ to))
