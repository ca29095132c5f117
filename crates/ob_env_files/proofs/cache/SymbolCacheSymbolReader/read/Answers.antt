use Rattle.std.proofs.Common.{arith}
use Rattle.ob_env_files.proofs.Readings.{reading_found, one_reading}
use Rattle.ob_env_files.proofs.cache.SymbolCacheSymbolReader.read.Goals as goal

pub returns-in-Ok-Some-clause-found : goal.returns-in-Ok-Some-clause-found
returns-in-Ok-Some-clause-found c = reading_found c.args.bytes.now c.in-Ok-Some.file (λ i. omega (arith, c.type_inv.bytes i)) (rw c.in-Ok-Some.field-0-is at c.in-Ok-Some.ensures)

pub returns-in-Ok-Some-clause-again : goal.returns-in-Ok-Some-clause-again
returns-in-Ok-Some-clause-again c = λ f fits is. one_reading c.args.bytes.now f c.in-Ok-Some.file (rw c.in-Ok-Some.field-0-is at c.in-Ok-Some.ensures) fits is
