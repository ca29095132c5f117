use Rattle.std.proofs.Common.{◌++◌, ◌∙◌, ap, refl, arith, subst, true, false, length, List, ℕ, ◌+◌, Ok, Err, sym}
use Rattle.ob_shell_lines.specs.Lines.{line_of}
use Rattle.ob_shell_input.specs.Reading.{NextDoes, TakesMore}
use Rattle.ob_shell_input.specs.declared.next.Next.{Next}
use Rattle.ob_shell_input.specs.declared.next.NextFault.{NextFault}
use Rattle.ob_shell_model.specs.Bytes.{answer}
use Rattle.ob_shell_session.specs.Does.{LineDoes}
use Rattle.ob_shell_session.specs.Stand.{Goes}
use Rattle.ob_shell_session.proofs.Goings.{goes_start, goes_line, goes_last, goes_cut, goes_end, goes_waits, goes_pieces}
use Rattle.ob_shell_session.proofs.script.run_lines.Goals as goal

pub lines-init : goal.lines-init
lines-init g c = (
  omega arith,
  omega arith,
  refl,
  refl,
  refl,
  omega arith,
  omega arith,
  omega arith,
  λ ti tf to. subst (λ (x : List ℕ). Goes c.args.settings (g.O.Sink.taken c.args.out.now) (g.O.Sink.taken c.args.out.now) (g.F.Shelf.files c.args.folder.now) (g.F.Shelf.files c.args.folder.now) (g.I.Source.left c.args.script.now) c.args.system.now 1 0 (x ++ g.I.Source.left c.args.script.now) false false) (sym c.requires.input)
      (goes_start c.args.settings (g.O.Sink.taken c.args.out.now) (g.F.Shelf.files c.args.folder.now) (g.I.Source.left c.args.script.now) c.args.system.now (c.requires.system (g.F.Shelf.files c.args.folder.now))),
)

pub lines-preserved : goal.lines-preserved
lines-preserved g c =
    let i = c.lines.invariant in
    let e = c.in-Ok-Line.ensures in
    let d = c.in-Ok.ensures in
    let takes = subst (TakesMore c.lines.taken) c.in-Ok-Line.field-0-is e.more in
    let more = takes.0 in
    let before = i.1 in
    let script = e.cause.later in
    let script0 = i.5 in
    let folder = d.cause.later_folder in
    let folder0 = i.6 in
    let sink = d.cause.later_sink in
    let sink0 = i.7 in (
      takes.1,
      omega (arith, more, before),
      e.told ∙ i.2,
      d.told_folder ∙ i.3,
      d.told_sink ∙ i.4,
      omega (arith, script, script0),
      omega (arith, folder, folder0),
      omega (arith, sink, sink0),
      λ ti tf to. let go = i.8 ti tf to in
          goes_line c.args.settings (g.O.Sink.taken c.args.out.now) (g.O.Sink.taken c.lines.out) (g.O.Sink.taken c.do_flushed.new.out) (g.F.Shelf.files c.args.folder.now) (g.F.Shelf.files c.lines.folder) (g.F.Shelf.files c.do_flushed.new.folder) (g.I.Source.left c.args.script.now) (c.lines.input ++ g.I.Source.left c.lines.script) c.next_line.new.line.items (c.next_line.new.input ++ g.I.Source.left c.next_line.new.script) c.lines.system c.do_flushed.new.system c.lines.n c.lines.taken c.in-Ok-Line.count c.lines.refused c.in-Ok.this c.either-refused.result go
          (subst (λ (x : Next). NextDoes (length (g.I.Source.left c.args.script.now)) c.lines.taken (c.lines.input ++ g.I.Source.left c.lines.script) (c.next_line.new.input ++ g.I.Source.left c.next_line.new.script) c.next_line.new.line.items (Ok x)) c.in-Ok-Line.field-0-is (c.in-Ok-Line.ensures.does (i.2 ∙ ti) (length (g.I.Source.left c.args.script.now)) go.whole))
          (λ w h. subst (λ (l : List ℕ). LineDoes (g.O.Sink.taken c.lines.out) (g.O.Sink.taken c.do_flushed.new.out) (g.F.Shelf.files c.lines.folder) (g.F.Shelf.files c.do_flushed.new.folder) c.do_flushed.new.system (answer c.args.settings w c.lines.n (line_of l)) (Ok c.in-Ok.this)) c.deref.ensures.value (d.does w h (i.3 ∙ tf) (i.4 ∙ to)))
          c.either-refused.ensures,
    )

pub returns-in-Err-clause-ends : goal.returns-in-Err-clause-ends
returns-in-Err-clause-ends g c = λ ti tf to.
    let i = c.lines.invariant in
    let go = i.8 ti tf to in
    goes_cut c.args.settings (g.O.Sink.taken c.args.out.now) (g.O.Sink.taken c.lines.out) (g.O.Sink.taken c.do_flushed.new.out) (g.F.Shelf.files c.args.folder.now) (g.F.Shelf.files c.lines.folder) (g.F.Shelf.files c.do_flushed.new.folder) (g.I.Source.left c.args.script.now) (c.lines.input ++ g.I.Source.left c.lines.script) c.next_line.new.line.items (c.next_line.new.input ++ g.I.Source.left c.next_line.new.script) c.lines.system c.do_flushed.new.system c.lines.n c.lines.taken c.in-Ok-Line.count c.lines.refused false c.in-Err.stop c.status_of.result c.status_of.ensures.is go
    (subst (λ (x : Next). NextDoes (length (g.I.Source.left c.args.script.now)) c.lines.taken (c.lines.input ++ g.I.Source.left c.lines.script) (c.next_line.new.input ++ g.I.Source.left c.next_line.new.script) c.next_line.new.line.items (Ok x)) c.in-Ok-Line.field-0-is (c.in-Ok-Line.ensures.does (i.2 ∙ ti) (length (g.I.Source.left c.args.script.now)) go.whole)).0
    (λ w h. subst (λ (l : List ℕ). LineDoes (g.O.Sink.taken c.lines.out) (g.O.Sink.taken c.do_flushed.new.out) (g.F.Shelf.files c.lines.folder) (g.F.Shelf.files c.do_flushed.new.folder) c.do_flushed.new.system (answer c.args.settings w c.lines.n (line_of l)) (Err c.in-Err.stop)) c.deref.ensures.value (c.in-Err.ensures.does w h (i.3 ∙ tf) (i.4 ∙ to)))

pub returns-in-Ok-do_flushed-clause-ends : goal.returns-in-Ok-do_flushed-clause-ends
returns-in-Ok-do_flushed-clause-ends g c = λ ti tf to.
    let i = c.lines.invariant in
    let go = i.8 ti tf to in
    let step = subst (λ (x : Next). NextDoes (length (g.I.Source.left c.args.script.now)) c.lines.taken (c.lines.input ++ g.I.Source.left c.lines.script) (c.next_line.new.input ++ g.I.Source.left c.next_line.new.script) c.next_line.new.line.items (Ok x)) c.in-Ok-Last.field-0-is (c.in-Ok-Last.ensures.does (i.2 ∙ ti) (length (g.I.Source.left c.args.script.now)) go.whole) in
    goes_end c.args.settings (g.O.Sink.taken c.args.out.now) (g.O.Sink.taken c.do_flushed-in-Ok-Last.new.out) (g.F.Shelf.files c.args.folder.now) (g.F.Shelf.files c.do_flushed-in-Ok-Last.new.folder) (g.I.Source.left c.args.script.now) (c.next_line.new.input ++ g.I.Source.left c.next_line.new.script) c.do_flushed-in-Ok-Last.new.system (c.lines.n + 1) c.in-Ok-Last.field-0-0 c.either.result true c.verdict.result
    (goes_last c.args.settings (g.O.Sink.taken c.args.out.now) (g.O.Sink.taken c.lines.out) (g.O.Sink.taken c.do_flushed-in-Ok-Last.new.out) (g.F.Shelf.files c.args.folder.now) (g.F.Shelf.files c.lines.folder) (g.F.Shelf.files c.do_flushed-in-Ok-Last.new.folder) (g.I.Source.left c.args.script.now) (c.lines.input ++ g.I.Source.left c.lines.script) c.next_line.new.line.items (c.next_line.new.input ++ g.I.Source.left c.next_line.new.script) c.lines.system c.do_flushed-in-Ok-Last.new.system c.lines.n c.lines.taken c.in-Ok-Last.field-0-0 c.lines.refused c.in-Ok-do_flushed.this c.either.result go step
    (λ w h. subst (λ (l : List ℕ). LineDoes (g.O.Sink.taken c.lines.out) (g.O.Sink.taken c.do_flushed-in-Ok-Last.new.out) (g.F.Shelf.files c.lines.folder) (g.F.Shelf.files c.do_flushed-in-Ok-Last.new.folder) c.do_flushed-in-Ok-Last.new.system (answer c.args.settings w c.lines.n (line_of l)) (Ok c.in-Ok-do_flushed.this)) c.deref-in-Ok-Last.ensures.value (c.in-Ok-do_flushed.ensures.does w h (i.3 ∙ tf) (i.4 ∙ to)))
    c.either.ensures)
    step.1
    c.verdict.ensures.is

pub returns-in-Err-do_flushed-clause-ends : goal.returns-in-Err-do_flushed-clause-ends
returns-in-Err-do_flushed-clause-ends g c = λ ti tf to.
    let i = c.lines.invariant in
    let go = i.8 ti tf to in
    goes_cut c.args.settings (g.O.Sink.taken c.args.out.now) (g.O.Sink.taken c.lines.out) (g.O.Sink.taken c.do_flushed-in-Ok-Last.new.out) (g.F.Shelf.files c.args.folder.now) (g.F.Shelf.files c.lines.folder) (g.F.Shelf.files c.do_flushed-in-Ok-Last.new.folder) (g.I.Source.left c.args.script.now) (c.lines.input ++ g.I.Source.left c.lines.script) c.next_line.new.line.items (c.next_line.new.input ++ g.I.Source.left c.next_line.new.script) c.lines.system c.do_flushed-in-Ok-Last.new.system c.lines.n c.lines.taken c.in-Ok-Last.field-0-0 c.lines.refused false c.in-Err-do_flushed.stop c.status_of-in-Err-do_flushed.result c.status_of-in-Err-do_flushed.ensures.is go
    (subst (λ (x : Next). NextDoes (length (g.I.Source.left c.args.script.now)) c.lines.taken (c.lines.input ++ g.I.Source.left c.lines.script) (c.next_line.new.input ++ g.I.Source.left c.next_line.new.script) c.next_line.new.line.items (Ok x)) c.in-Ok-Last.field-0-is (c.in-Ok-Last.ensures.does (i.2 ∙ ti) (length (g.I.Source.left c.args.script.now)) go.whole)).0
    (λ w h. subst (λ (l : List ℕ). LineDoes (g.O.Sink.taken c.lines.out) (g.O.Sink.taken c.do_flushed-in-Ok-Last.new.out) (g.F.Shelf.files c.lines.folder) (g.F.Shelf.files c.do_flushed-in-Ok-Last.new.folder) c.do_flushed-in-Ok-Last.new.system (answer c.args.settings w c.lines.n (line_of l)) (Err c.in-Err-do_flushed.stop)) c.deref-in-Ok-Last.ensures.value (c.in-Err-do_flushed.ensures.does w h (i.3 ∙ tf) (i.4 ∙ to)))

pub returns-in-Ok-End-clause-ends : goal.returns-in-Ok-End-clause-ends
returns-in-Ok-End-clause-ends g c = λ ti tf to.
    let i = c.lines.invariant in
    let go = i.8 ti tf to in
    goes_end c.args.settings (g.O.Sink.taken c.args.out.now) (g.O.Sink.taken c.lines.out) (g.F.Shelf.files c.args.folder.now) (g.F.Shelf.files c.lines.folder) (g.I.Source.left c.args.script.now) (c.lines.input ++ g.I.Source.left c.lines.script) c.lines.system c.lines.n c.lines.taken c.lines.refused false c.verdict-in-Ok-End.result go
    (subst (λ (x : Next). NextDoes (length (g.I.Source.left c.args.script.now)) c.lines.taken (c.lines.input ++ g.I.Source.left c.lines.script) (c.next_line.new.input ++ g.I.Source.left c.next_line.new.script) c.next_line.new.line.items (Ok x)) c.in-Ok-End.field-0-is (c.in-Ok-End.ensures.does (i.2 ∙ ti) (length (g.I.Source.left c.args.script.now)) go.whole)).0
    c.verdict-in-Ok-End.ensures.is

pub returns-in-Err-Failed-clause-ends : goal.returns-in-Err-Failed-clause-ends
returns-in-Err-Failed-clause-ends g c = λ ti tf to.
    goes_waits c.args.settings (g.O.Sink.taken c.args.out.now) (g.O.Sink.taken c.lines.out) (g.F.Shelf.files c.args.folder.now) (g.F.Shelf.files c.lines.folder) (g.I.Source.left c.args.script.now) (c.lines.input ++ g.I.Source.left c.lines.script) c.lines.system c.lines.n c.lines.taken c.lines.refused false 3 (c.lines.invariant.8 ti tf to) (λ e. omega (arith, e)) refl

pub returns-in-Err-Failed-clause-pieces : goal.returns-in-Err-Failed-clause-pieces
returns-in-Err-Failed-clause-pieces g c = λ ti tf to same.
    let i = c.lines.invariant in
    let go = i.8 ti tf to in
    goes_pieces c.args.settings (g.O.Sink.taken c.args.out.now) (g.O.Sink.taken c.lines.out) (g.F.Shelf.files c.args.folder.now) (g.F.Shelf.files c.lines.folder) (g.I.Source.left c.args.script.now) (c.lines.input ++ g.I.Source.left c.lines.script) c.next_line.new.line.items c.next_line.new.input (g.I.Source.left c.next_line.new.script) c.lines.system c.lines.n c.lines.taken c.lines.refused go
    (subst (λ (x : NextFault). NextDoes (length (g.I.Source.left c.args.script.now)) c.lines.taken (c.lines.input ++ g.I.Source.left c.lines.script) (c.next_line.new.input ++ g.I.Source.left c.next_line.new.script) c.next_line.new.line.items (Err x)) c.in-Err-Failed.field-0-is (c.in-Err-Failed.ensures.does (i.2 ∙ ti) (length (g.I.Source.left c.args.script.now)) go.whole))
    (c.in-Err-Failed.ensures.empty (ap (λ (x : NextFault). Err x) c.in-Err-Failed.field-0-is))

pub returns-in-Err-Memory-clause-ends : goal.returns-in-Err-Memory-clause-ends
returns-in-Err-Memory-clause-ends g c = λ ti tf to.
    goes_waits c.args.settings (g.O.Sink.taken c.args.out.now) (g.O.Sink.taken c.lines.out) (g.F.Shelf.files c.args.folder.now) (g.F.Shelf.files c.lines.folder) (g.I.Source.left c.args.script.now) (c.lines.input ++ g.I.Source.left c.lines.script) c.lines.system c.lines.n c.lines.taken c.lines.refused false 5 (c.lines.invariant.8 ti tf to) (λ e. omega (arith, e)) refl
