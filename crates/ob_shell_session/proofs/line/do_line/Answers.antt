use Rattle.std.proofs.Common.{◌≡◌, [], refl, sym, ap, ◌∙◌, subst, false, Ok}
use Rattle.std.proofs.lemmas.List.{append-nil}
use Rattle.ob_shell_lines.specs.Lines as line
use Rattle.ob_shell_lines.specs.Lines.{Line, line_of}
use Rattle.ob_shell_lines.specs.Views.{line_view}
use Rattle.ob_link.specs.Files.{Files}
use Rattle.ob_env_walk.specs.Walk.{symbol_name}
use Rattle.ob_cmp.specs.Check.{check_of}
use Rattle.ob_shell_reports.specs.Texts.{unknown_text}
use Rattle.ob_shell_model.specs.Bytes.{answer, compared, shown, check_said, denied, told, command_answer, compiled_in, demo_made}
use Rattle.ob_shell_session.specs.Does.{LineDoes}
use Rattle.ob_shell_model.specs.Files.{sym_file}
use Rattle.ob_shell_session.proofs.Fine.{fine_demo}
use Rattle.ob_shell_session.proofs.Said.{said_by, said_line, compile_line, demo_line, printed}
use Rattle.ob_shell_session.proofs.Parts.{one_line}
use Rattle.ob_shell_session.proofs.Commands.{command_one}
use Rattle.ob_shell_session.proofs.line.do_line.Goals as goal

pub returns-in-Compile-clause-does : goal.returns-in-Compile-clause-does
returns-in-Compile-clause-does g c = λ w h tf to.
    let e : line_of c.args.line.now ≡ line.Compile c.in-Compile.file.now = sym c.words_of.ensures ∙ ap line_view c.in-Compile.is in
    let r = compiled_in w (w.files c.in-Compile.file.now) in
    subst (λ (l : Line). LineDoes (g.O.Sink.taken c.args.out.now) (g.O.Sink.taken c.do_compile.new.out) (g.F.Shelf.files c.args.folder.now) (g.F.Shelf.files c.do_compile.new.folder) c.args.system.now (answer c.args.settings w c.args.n l) c.do_compile.result) (sym e)
    (compile_line w c.in-Compile.file.now r (g.O.Sink.taken c.args.out.now) (g.O.Sink.taken c.do_compile.new.out) (g.F.Shelf.files c.args.folder.now) (g.F.Shelf.files c.do_compile.new.folder) c.args.system.now c.do_compile.result h (c.do_compile.ensures.does w h.files tf to))

pub returns-in-Compare-clause-does : goal.returns-in-Compare-clause-does
returns-in-Compare-clause-does g c = λ w h tf to.
    let e : line_of c.args.line.now ≡ line.Compare c.in-Compare.old.now c.in-Compare.new.now = sym c.words_of.ensures ∙ ap line_view c.in-Compare.is in
    subst (λ (l : Line). LineDoes (g.O.Sink.taken c.args.out.now) (g.O.Sink.taken c.do_compare.new.out) (g.F.Shelf.files c.args.folder.now) (g.F.Shelf.files c.do_compare.new.folder) c.args.system.now (answer c.args.settings w c.args.n l) c.do_compare.result) (sym e)
    (said_by (g.O.Sink.tells c.args.out.now) w (λ (f : Files). compared c.in-Compare.old.now c.in-Compare.new.now (sym_file f c.in-Compare.old.now) (sym_file f c.in-Compare.new.now)) (g.O.Sink.taken c.args.out.now) (g.O.Sink.taken c.do_compare.new.out) (g.F.Shelf.files c.args.folder.now) (g.F.Shelf.files c.do_compare.new.folder) c.args.system.now c.do_compare.result to h (c.do_compare.ensures.files tf) (c.do_compare.ensures.does tf))

pub returns-in-Check-clause-does : goal.returns-in-Check-clause-does
returns-in-Check-clause-does g c = λ w h tf to.
    let e : line_of c.args.line.now ≡ line.Check c.in-Check.name = sym c.words_of.ensures ∙ ap line_view c.in-Check.is in
    subst (λ (l : Line). LineDoes (g.O.Sink.taken c.args.out.now) (g.O.Sink.taken c.do_check.new.out) (g.F.Shelf.files c.args.folder.now) (g.F.Shelf.files c.do_check.new.folder) c.args.system.now (answer c.args.settings w c.args.n l) c.do_check.result) (sym e)
    (said_by (g.O.Sink.tells c.args.out.now) w (λ (f : Files). check_said c.in-Check.name (check_of f c.in-Check.name)) (g.O.Sink.taken c.args.out.now) (g.O.Sink.taken c.do_check.new.out) (g.F.Shelf.files c.args.folder.now) (g.F.Shelf.files c.do_check.new.folder) c.args.system.now c.do_check.result to h (c.do_check.ensures.files tf) (c.do_check.ensures.does tf))

pub returns-in-Show-clause-does : goal.returns-in-Show-clause-does
returns-in-Show-clause-does g c = λ w h tf to.
    let e : line_of c.args.line.now ≡ line.Show c.in-Show.name = sym c.words_of.ensures ∙ ap line_view c.in-Show.is in
    subst (λ (l : Line). LineDoes (g.O.Sink.taken c.args.out.now) (g.O.Sink.taken c.do_show.new.out) (g.F.Shelf.files c.args.folder.now) (g.F.Shelf.files c.do_show.new.folder) c.args.system.now (answer c.args.settings w c.args.n l) c.do_show.result) (sym e)
    (said_by (g.O.Sink.tells c.args.out.now) w (λ (f : Files). shown (symbol_name c.in-Show.name) (sym_file f (symbol_name c.in-Show.name))) (g.O.Sink.taken c.args.out.now) (g.O.Sink.taken c.do_show.new.out) (g.F.Shelf.files c.args.folder.now) (g.F.Shelf.files c.do_show.new.folder) c.args.system.now c.do_show.result to h (c.do_show.ensures.files tf) (c.do_show.ensures.does tf))

pub returns-in-Make-clause-does : goal.returns-in-Make-clause-does
returns-in-Make-clause-does g c = λ w h tf to.
    let e : line_of c.args.line.now ≡ line.Make c.in-Make.name = sym c.words_of.ensures ∙ ap line_view c.in-Make.is in
    subst (λ (l : Line). LineDoes (g.O.Sink.taken c.args.out.now) (g.O.Sink.taken c.do_make.new.out) (g.F.Shelf.files c.args.folder.now) (g.F.Shelf.files c.do_make.new.folder) c.args.system.now (answer c.args.settings w c.args.n l) c.do_make.result) (sym e)
    (c.do_make.ensures.does w c.args.system.now h tf to)

pub do_demo-requires-clause-first : goal.do_demo-requires-clause-first
do_demo-requires-clause-first g c = (fine_demo c.args.line.now c.in-Demo.count (sym c.words_of.ensures ∙ ap line_view c.in-Demo.is)).0

pub do_demo-requires-clause-few : goal.do_demo-requires-clause-few
do_demo-requires-clause-few g c = (fine_demo c.args.line.now c.in-Demo.count (sym c.words_of.ensures ∙ ap line_view c.in-Demo.is)).1

pub returns-in-Demo-clause-does : goal.returns-in-Demo-clause-does
returns-in-Demo-clause-does g c = λ w h tf to.
    let e : line_of c.args.line.now ≡ line.Demo c.in-Demo.count = sym c.words_of.ensures ∙ ap line_view c.in-Demo.is in
    subst (λ (l : Line). LineDoes (g.O.Sink.taken c.args.out.now) (g.O.Sink.taken c.do_demo.new.out) (g.F.Shelf.files c.args.folder.now) (g.F.Shelf.files c.args.folder.now) c.args.system.now (answer c.args.settings w c.args.n l) c.do_demo.result) (sym e)
    (demo_line c.args.settings w c.in-Demo.count (demo_made c.in-Demo.count) (g.O.Sink.taken c.args.out.now) (g.O.Sink.taken c.do_demo.new.out) (g.F.Shelf.files c.args.folder.now) c.args.system.now c.do_demo.result h (c.do_demo.ensures.does w to))

pub returns-in-Command-clause-does : goal.returns-in-Command-clause-does
returns-in-Command-clause-does g c = λ w h tf to.
    let e : line_of c.args.line.now ≡ line.Command c.in-Command.name c.in-Command.command = sym c.words_of.ensures ∙ ap line_view c.in-Command.is in
    subst (λ (l : Line). LineDoes (g.O.Sink.taken c.args.out.now) (g.O.Sink.taken c.do_command.new.out) (g.F.Shelf.files c.args.folder.now) (g.F.Shelf.files c.do_command.new.folder) c.do_command.new.system (answer c.args.settings w c.args.n l) c.do_command.result) (sym e)
    (one_line (command_answer c.args.settings w c.in-Command.name c.in-Command.command) (g.O.Sink.taken c.args.out.now) (g.O.Sink.taken c.do_command.new.out) (g.F.Shelf.files c.args.folder.now) (g.F.Shelf.files c.do_command.new.folder) c.do_command.new.system c.do_command.result (command_one c.args.settings w c.in-Command.name c.in-Command.command) (c.do_command.ensures.does w h tf to))

pub returns-in-Unknown-clause-does : goal.returns-in-Unknown-clause-does
returns-in-Unknown-clause-does g c = λ w h tf to.
    let e : line_of c.args.line.now ≡ line.Unknown = sym c.words_of.ensures ∙ ap line_view c.in-Unknown.is in
    subst (λ (l : Line). LineDoes (g.O.Sink.taken c.args.out.now) (g.O.Sink.taken c.do_unknown.new.out) (g.F.Shelf.files c.args.folder.now) (g.F.Shelf.files c.args.folder.now) c.args.system.now (answer c.args.settings w c.args.n l) c.do_unknown.result) (sym e)
    (said_line (g.O.Sink.tells c.args.out.now) w (denied (unknown_text c.args.n)) (g.O.Sink.taken c.args.out.now) (g.O.Sink.taken c.do_unknown.new.out) (g.F.Shelf.files c.args.folder.now) (g.F.Shelf.files c.args.folder.now) c.args.system.now c.do_unknown.result to h refl (printed (g.O.Sink.tells c.args.out.now) (g.O.Sink.taken c.args.out.now) (g.O.Sink.taken c.do_unknown.new.out) (denied (unknown_text c.args.n)) c.do_unknown.result c.do_unknown.ensures.does))

pub returns-in-Nothing-clause-does : goal.returns-in-Nothing-clause-does
returns-in-Nothing-clause-does g c = λ w h tf to.
    let e : line_of c.args.line.now ≡ line.Nothing = sym c.words_of.ensures ∙ ap line_view c.in-Nothing.is in
    subst (λ (l : Line). LineDoes (g.O.Sink.taken c.args.out.now) (g.O.Sink.taken c.args.out.now) (g.F.Shelf.files c.args.folder.now) (g.F.Shelf.files c.args.folder.now) c.args.system.now (answer c.args.settings w c.args.n l) (Ok false)) (sym e)
    (said_line (g.O.Sink.tells c.args.out.now) w (told []) (g.O.Sink.taken c.args.out.now) (g.O.Sink.taken c.args.out.now) (g.F.Shelf.files c.args.folder.now) (g.F.Shelf.files c.args.folder.now) c.args.system.now (Ok false) to h refl (λ t. sym (append-nil (g.O.Sink.taken c.args.out.now)), refl))
