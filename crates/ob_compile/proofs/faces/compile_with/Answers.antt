use Rattle.std.proofs.Common.{Err, ap}
use Rattle.ob_env.specs.Building.{stands_as}
use Rattle.ob_env_walk.specs.Walk.{symbol_entry, walk}
use Rattle.ob_compile_model.specs.declared.fault.CompileFault.TheVariants as fault
use Rattle.ob_compile_model.specs.Compiling.{of_standing, prints}
use Rattle.ob_compile.proofs.Answered.{made_file, made_fits, no_folder}
use Rattle.ob_compile.proofs.Walked.{whole, same_fault}
use Rattle.ob_compile.proofs.faces.compile_with.Goals as goal

pub returns-in-Ok-clause-compiles : goal.returns-in-Ok-clause-compiles
returns-in-Ok-clause-compiles g c = λ told.
    whole c.args.tree.now (walk (symbol_entry (g.F.Shelf.files c.args.folder.now)) c.args.tree.now.name.name c.args.imports.now) c.in-Ok.faces c.compile_over.result (c.in-Ok.ensures.walked told) c.compile_over.ensures

pub returns-in-Ok-clause-cause : goal.returns-in-Ok-clause-cause
returns-in-Ok-clause-cause g c = record {
  later = c.in-Ok.ensures.cause.later;
  failed = λ h. absurd (no_folder (of_standing prints c.args.tree.now (stands_as c.in-Ok.faces)) c.compile_over.result c.compile_over.ensures h);
}

pub returns-in-Err-clause-compiles : goal.returns-in-Err-clause-compiles
returns-in-Err-clause-compiles g c = λ told.
    c.fault_of_walk.ensures.stopped c.args.tree.now (walk (symbol_entry (g.F.Shelf.files c.args.folder.now)) c.args.tree.now.name.name c.args.imports.now) (c.in-Err.ensures.walked told)

pub returns-in-Err-clause-cause : goal.returns-in-Err-clause-cause
returns-in-Err-clause-cause g c = record {
  later = c.in-Err.ensures.cause.later;
  failed = λ h. c.in-Err.ensures.cause.failed (ap Err (c.fault_of_walk.ensures.folder (same_fault c.fault_of_walk.result fault.Folder h)));
}

pub returns-in-Ok-clause-file : goal.returns-in-Ok-clause-file
returns-in-Ok-clause-file g c = made_file (of_standing prints c.args.tree.now (stands_as c.in-Ok.faces)) c.compile_over.result c.compile_over.ensures

pub returns-in-Ok-clause-fits : goal.returns-in-Ok-clause-fits
returns-in-Ok-clause-fits g c = made_fits (of_standing prints c.args.tree.now (stands_as c.in-Ok.faces)) c.compile_over.result c.compile_over.ensures
