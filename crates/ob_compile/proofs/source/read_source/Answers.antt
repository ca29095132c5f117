use Rattle.ob_compile.proofs.Sourced.{none_found, some_found, long_found}
use Rattle.ob_compile.proofs.source.read_source.Goals as goal

pub returns-in-Ok-None-clause-source : goal.returns-in-Ok-None-clause-source
returns-in-Ok-None-clause-source g c = λ told. none_found (g.F.Shelf.files c.args.folder.now c.args.file.now) _ c.in-Ok-None.field-0-is (c.in-Ok-None.ensures.bytes told)

pub returns-in-Ok-Some-clause-source : goal.returns-in-Ok-Some-clause-source
returns-in-Ok-Some-clause-source g c = λ told. some_found (g.F.Shelf.files c.args.folder.now c.args.file.now) _ c.in-Ok-Some.text c.in-Ok-Some.field-0-is (c.in-Ok-Some.ensures.bytes told)

pub returns-in-Err-Long-clause-source : goal.returns-in-Err-Long-clause-source
returns-in-Err-Long-clause-source g c = λ told. long_found (g.F.Shelf.files c.args.folder.now c.args.file.now) _ c.in-Err-Long.field-0-is (c.in-Err-Long.ensures.bytes told)
