use Rattle.std.proofs.Common.{arith}
use Rattle.ob_format.proofs.Whole.{is_found, is_read}
use Rattle.ob_format.proofs.wire.read_whole.Goals as goal

pub returns-clause-found : goal.returns-clause-found
returns-clause-found g c = is_found g.T.Wire.form g.met.T.Wire.exact c.args.bytes.now c.exactly.result (λ i. omega (arith, c.type_inv.bytes i)) c.exactly.ensures

pub returns-clause-only : goal.returns-clause-only
returns-clause-only g c = λ x fits e. is_read g.T.Wire.form g.met.T.Wire.exact c.args.bytes.now c.exactly.result c.exactly.ensures x fits e
