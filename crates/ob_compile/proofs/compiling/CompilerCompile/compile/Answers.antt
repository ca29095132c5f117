use Rattle.std.proofs.Common.{Err, ap, ◌∙◌}
use Rattle.ob_env_walk.specs.Walk.{symbol_entry}
use Rattle.ob_compile_model.specs.declared.fault.CompileFault.TheVariants as fault
use Rattle.ob_compile.proofs.Sourced.{then_text}
use Rattle.ob_compile.proofs.Walked.{same_fault}
use Rattle.ob_compile.proofs.compiling.CompilerCompile.compile.Goals as goal

pub returns-in-Ok-clause-compiles : goal.returns-in-Ok-clause-compiles
returns-in-Ok-clause-compiles g c = λ told.
    then_text (g.F.Shelf.files c.args.folder.now) (g.F.Shelf.files c.read_source.new.folder) (g.F.Shelf.files c.args.folder.now c.args.file.now) c.in-Ok.text c.as_slice.result.now c.compile_text.result
    (c.in-Ok.ensures.files told) c.as_slice.ensures.value (c.in-Ok.ensures.source told) (c.compile_text.ensures.compiles (c.in-Ok.ensures.told ∙ told))

pub returns-in-Err-clause-compiles : goal.returns-in-Err-clause-compiles
returns-in-Err-clause-compiles g c = λ told. c.in-Err.ensures.source told (symbol_entry (g.F.Shelf.files c.args.folder.now))

pub returns-in-Err-clause-cause : goal.returns-in-Err-clause-cause
returns-in-Err-clause-cause g c = record {
  later = c.in-Err.ensures.cause.later;
  failed = λ h. c.in-Err.ensures.cause.failed (ap Err (same_fault c.in-Err.fault fault.Folder h));
}
