use Rattle.std.proofs.Common.{Err, arith}
use Rattle.ob_parse_grammar.specs.TextReading.{reading}
use Rattle.ob_env_walk.specs.Walk.{Missing, symbol_entry}
use Rattle.ob_compile_model.specs.Compiling.{of_reading, prints}
use Rattle.ob_compile.proofs.Answered.{made_compiles, no_folder}
use Rattle.ob_compile.proofs.Walked.{read_as}
use Rattle.ob_compile.proofs.faces.compile_text.Goals as goal

pub returns-in-Ok-clause-compiles : goal.returns-in-Ok-clause-compiles
returns-in-Ok-clause-compiles g c = λ told.
    read_as (symbol_entry (g.F.Shelf.files c.args.folder.now)) (reading c.args.text.now) c.in-Ok.tree c.compile_tree.result c.in-Ok.ensures (c.compile_tree.ensures.compiles told)

pub returns-in-Err-clause-compiles : goal.returns-in-Err-clause-compiles
returns-in-Err-clause-compiles g c = λ told.
    let entry = symbol_entry (g.F.Shelf.files c.args.folder.now) in
    made_compiles (of_reading prints entry (reading c.args.text.now)) (Err c.fault_of_text.result) (c.fault_of_text.ensures entry (reading c.args.text.now) c.in-Err.ensures)

pub returns-in-Err-clause-cause : goal.returns-in-Err-clause-cause
returns-in-Err-clause-cause g c = record {
  later = omega arith;
  failed = λ h. absurd (no_folder (of_reading prints (λ m. Missing) (reading c.args.text.now)) (Err c.fault_of_text.result) (c.fault_of_text.ensures (λ m. Missing) (reading c.args.text.now) c.in-Err.ensures) h);
}
