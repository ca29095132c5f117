use Rattle.std.proofs.Common.{◌∙◌, List, ℕ, subst}
use Rattle.ob_shell_model.specs.Bytes.{compile_answer, compiled_in}
use Rattle.ob_shell_session.specs.Does.{AnswerDo}
use Rattle.ob_shell_session.proofs.making.compile_module.Goals as goal

pub returns-clause-does : goal.returns-clause-does
returns-clause-does g c = λ w e tf to.
    subst (λ (n : List ℕ). AnswerDo (g.O.Sink.taken c.args.out.now) (g.O.Sink.taken c.do_compile.new.out) (g.F.Shelf.files c.args.folder.now) (g.F.Shelf.files c.do_compile.new.folder) (compile_answer w n (compiled_in w (w.files n))) c.do_compile.result)
    (c.in-Ok-from_utf8.ensures.cases.0 ∙ c.deref.ensures.value ∙ c.in-Ok.ensures) (c.do_compile.ensures.does w e tf to)
