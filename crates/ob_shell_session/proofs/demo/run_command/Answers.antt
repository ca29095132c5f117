use Rattle.std.proofs.Common.{refl, ap, Ok, Err}
use Rattle.ob_io.specs.Kept.{file_in}
use Rattle.ob_shell_reports.specs.declared.stop.Stop.{Stop}
use Rattle.ob_shell_reports.specs.declared.stop.Stop.TheVariants.{Sink, Folder, Memory}
use Rattle.ob_shell_model.specs.Bytes.{start}
use Rattle.ob_shell_session.proofs.Demos.{went}
use Rattle.ob_shell_session.proofs.demo.run_command.Goals as goal

pub returns-in-Ok-clause-does : goal.returns-in-Ok-clause-does
returns-in-Ok-clause-does g c = λ to.
    went c.args.settings (start c.args.settings (file_in c.args.folder.now.pairs)) c.args.name.now c.new-command.result (g.O.Sink.taken c.args.out.now) (g.O.Sink.taken c.do_command.new.out) (file_in c.args.folder.now.pairs) (file_in c.do_command.new.folder.pairs) c.do_command.new.system (Ok c.in-Ok.refused) (Ok c.in-Ok.refused) refl c.new-command.ensures (c.in-Ok.ensures.does (start c.args.settings (file_in c.args.folder.now.pairs)) (c.requires.system (file_in c.args.folder.now.pairs)) refl to)

pub returns-in-Err-Sink-clause-does : goal.returns-in-Err-Sink-clause-does
returns-in-Err-Sink-clause-does g c = λ to. went c.args.settings (start c.args.settings (file_in c.args.folder.now.pairs)) c.args.name.now c.new-command.result (g.O.Sink.taken c.args.out.now) (g.O.Sink.taken c.do_command.new.out) (file_in c.args.folder.now.pairs) (file_in c.do_command.new.folder.pairs) c.do_command.new.system (Err c.in-Err-Sink.field-0) (Err Sink) (ap (λ (x : Stop). Err x) c.in-Err-Sink.field-0-is) c.new-command.ensures (c.in-Err-Sink.ensures.does (start c.args.settings (file_in c.args.folder.now.pairs)) (c.requires.system (file_in c.args.folder.now.pairs)) refl to)

pub returns-in-Err-Folder-clause-does : goal.returns-in-Err-Folder-clause-does
returns-in-Err-Folder-clause-does g c = λ to. went c.args.settings (start c.args.settings (file_in c.args.folder.now.pairs)) c.args.name.now c.new-command.result (g.O.Sink.taken c.args.out.now) (g.O.Sink.taken c.do_command.new.out) (file_in c.args.folder.now.pairs) (file_in c.do_command.new.folder.pairs) c.do_command.new.system (Err c.in-Err-Folder.field-0) (Err Folder) (ap (λ (x : Stop). Err x) c.in-Err-Folder.field-0-is) c.new-command.ensures (c.in-Err-Folder.ensures.does (start c.args.settings (file_in c.args.folder.now.pairs)) (c.requires.system (file_in c.args.folder.now.pairs)) refl to)

pub returns-in-Err-Memory-clause-does : goal.returns-in-Err-Memory-clause-does
returns-in-Err-Memory-clause-does g c = λ to. went c.args.settings (start c.args.settings (file_in c.args.folder.now.pairs)) c.args.name.now c.new-command.result (g.O.Sink.taken c.args.out.now) (g.O.Sink.taken c.do_command.new.out) (file_in c.args.folder.now.pairs) (file_in c.do_command.new.folder.pairs) c.do_command.new.system (Err c.in-Err-Memory.field-0) (Err Memory) (ap (λ (x : Stop). Err x) c.in-Err-Memory.field-0-is) c.new-command.ensures (c.in-Err-Memory.ensures.does (start c.args.settings (file_in c.args.folder.now.pairs)) (c.requires.system (file_in c.args.folder.now.pairs)) refl to)
