use Rattle.std.proofs.Common.{◌∙◌, sym, ap}
use Rattle.ob_link.specs.Files.{Files}
use Rattle.ob_shell_lines.specs.Lines.{line_of}
use Rattle.ob_shell_model.specs.Folds.{made_by}
use Rattle.ob_shell_model.specs.Bytes.{answer, changed}
use Rattle.ob_shell_session.proofs.Goings.{flush_failed, answer_files}
use Rattle.ob_shell_session.proofs.script.do_flushed.Goals as goal

pub returns-in-Err-flush-clause-does : goal.returns-in-Err-flush-clause-does
returns-in-Err-flush-clause-does g c = λ w h tf to.
    let a = answer c.args.settings w c.args.n (line_of c.args.line.now) in
    flush_failed (g.O.Sink.taken c.args.out.now) (g.O.Sink.taken c.do_line.new.out) (g.O.Sink.taken c.flush.new.self) (g.F.Shelf.files c.args.folder.now) (g.F.Shelf.files c.do_line.new.folder) c.do_line.new.system a c.in-Ok.refused
    (answer_files c.args.settings w c.args.n (line_of c.args.line.now) ∙ ap (λ (x : Files). changed x (made_by a.parts)) (sym h.files))
    (c.in-Ok.ensures.does w h tf to) (c.flush.ensures.bytes (c.in-Ok.ensures.told_sink ∙ to))
