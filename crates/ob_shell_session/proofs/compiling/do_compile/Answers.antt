use Rattle.std.proofs.Common.{◌∙◌, subst, true, false, Err}
use Rattle.ob_env_walk.specs.Walk.{symbol_entry}
use Rattle.ob_env.specs.Faces.{face_of}
use Rattle.ob_link.specs.Files.{Files}
use Rattle.ob_compile_model.specs.Compiling.{compiled, prints}
use Rattle.ob_compile_trait.specs.Contract.{Compiles, IsBuilt, IsRefused}
use Rattle.ob_compile_model.specs.declared.fault.CompileFault.{CompileFault}
use Rattle.ob_compile_model.specs.declared.fault.CompileRefusal.{CompileRefusal}
use Rattle.ob_shell_reports.specs.Prints.{PrintDoes}
use Rattle.ob_shell_reports.specs.Texts.{refused, reason_answered}
use Rattle.ob_shell_model.specs.Bytes.{compiled_in, counted}
use Rattle.ob_shell_session.specs.Does.{FilesDo}
use Rattle.ob_shell_session.proofs.Compiles.{both_files, compile_built, compile_denied}
use Rattle.ob_shell_session.proofs.compiling.do_compile.Goals as goal

pub returns-in-Ok-clause-does : goal.returns-in-Ok-clause-does
returns-in-Ok-clause-does g c = λ w e tf to.
    compile_built w c.args.file.now (compiled_in w (w.files c.args.file.now)) c.in-Ok.built (g.O.Sink.taken c.args.out.now) (g.O.Sink.taken c.put_built.new.out) (g.F.Shelf.files c.args.folder.now) (g.F.Shelf.files c.put_built.new.folder) c.put_built.result e
    (subst (λ (fs : Files). IsBuilt (compiled prints (symbol_entry fs) (fs c.args.file.now)) c.in-Ok.built) e (c.in-Ok.ensures.compiles tf))
    (subst (λ (fs : Files). FilesDo (g.O.Sink.taken c.args.out.now) (g.O.Sink.taken c.put_built.new.out) fs (g.F.Shelf.files c.put_built.new.folder) (both_files c.in-Ok.built) (counted fs (face_of c.in-Ok.built.face)) false c.put_built.result) (c.in-Ok.ensures.files tf) (c.put_built.ensures.does (c.in-Ok.ensures.told ∙ tf) to))

pub returns-in-Err-Refused-clause-does : goal.returns-in-Err-Refused-clause-does
returns-in-Err-Refused-clause-does g c = λ w e tf to.
    compile_denied (g.O.Sink.tells c.args.out.now) w c.args.file.now (compiled_in w (w.files c.args.file.now)) c.in-Err-Refused.why (g.O.Sink.taken c.args.out.now) (g.O.Sink.taken c.refuse_compile.new.out) (g.F.Shelf.files c.args.folder.now) (g.F.Shelf.files c.compile.new.folder) c.refuse_compile.result to (c.in-Err-Refused.ensures.files tf)
    (subst (λ (fs : Files). IsRefused (compiled prints (symbol_entry fs) (fs c.args.file.now)) c.in-Err-Refused.why) e
    (subst (λ (x : CompileFault). Compiles (compiled prints (symbol_entry (g.F.Shelf.files c.args.folder.now)) (g.F.Shelf.files c.args.folder.now c.args.file.now)) (Err x)) c.in-Err-Refused.field-0-is (c.in-Err-Refused.ensures.compiles tf)))
    (subst (λ (x : CompileRefusal). PrintDoes (g.O.Sink.tells c.args.out.now) (g.O.Sink.taken c.args.out.now) (g.O.Sink.taken c.refuse_compile.new.out) (refused c.args.file.now (reason_answered x)) true c.refuse_compile.result) c.in-Err-Refused.why-is c.refuse_compile.ensures.does)
