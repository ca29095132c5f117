use Rattle.std.proofs.Common.{◌∙◌, sym, subst, true, Err}
use Rattle.ob_shell_reports.specs.Texts.{report, stops, load_answered}
use Rattle.ob_shell_reports.specs.Prints.{PrintDoes}
use Rattle.ob_link.specs.Files.{file_plan}
use Rattle.ob_link.specs.declared.fault.LoadFault.{LoadFault}
use Rattle.ob_load.specs.Contract.{Answers}
use Rattle.ob_shell_session.proofs.Commands.{came_on, came_refused}
use Rattle.ob_shell_session.proofs.commanding.do_command.Goals as goal

pub returns-else-is_cut-clause-does : goal.returns-else-is_cut-clause-does
returns-else-is_cut-clause-does g c = λ w h tf to.
    let l = c.in-Ok.ensures in
    let o = c.in-Ok.outcome in
    came_on (g.O.Sink.tells c.args.out.now) c.args.settings w c.args.name.now c.args.command.now (g.O.Sink.taken c.args.out.now) (g.O.Sink.taken c.load_plan.new.out) (g.O.Sink.taken c.put_report.new.out) (g.F.Shelf.files c.args.folder.now) (g.F.Shelf.files c.load_plan.new.folder) c.args.system.now c.load_plan.new.self o c.put_report.result to h (l.files tf) (sym c.is_cut.ensures ∙ c.if-is_cut.false)
    ((l.does w.loaded h.stands).answers tf)
    (subst (λ b. PrintDoes b (g.O.Sink.taken c.load_plan.new.out) (g.O.Sink.taken c.put_report.new.out) (report o) (stops o) c.put_report.result) l.told_sink c.put_report.ensures.does)

pub returns-in-Err-Refused-clause-does : goal.returns-in-Err-Refused-clause-does
returns-in-Err-Refused-clause-does g c = λ w h tf to.
    let l = c.in-Err-Refused.ensures in
    let d = l.does w.loaded h.stands in
    came_refused (g.O.Sink.tells c.args.out.now) c.args.settings w c.args.name.now c.args.command.now (g.O.Sink.taken c.args.out.now) (g.O.Sink.taken c.load_plan.new.out) (g.O.Sink.taken c.refuse_load.new.out) (g.F.Shelf.files c.args.folder.now) (g.F.Shelf.files c.load_plan.new.folder) c.args.system.now c.load_plan.new.self c.in-Err-Refused.why c.refuse_load.result to h d.leaves.same (l.files tf) (d.leaves.nothing to) (subst (λ (x : LoadFault). Answers (g.O.Sink.tells c.args.out.now) (g.O.Sink.taken c.args.out.now) (g.O.Sink.taken c.load_plan.new.out) c.args.system.now c.load_plan.new.self w.loaded c.args.name.now c.args.command.now c.args.settings.turns (file_plan (g.F.Shelf.files c.args.folder.now) w.loaded c.args.name.now c.args.command.now) (Err x)) c.in-Err-Refused.field-0-is (d.answers tf))
    (subst (λ b. PrintDoes b (g.O.Sink.taken c.load_plan.new.out) (g.O.Sink.taken c.refuse_load.new.out) (load_answered c.args.name.now c.in-Err-Refused.why) true c.refuse_load.result) l.told_sink c.refuse_load.ensures.does)
