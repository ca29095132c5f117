use Rattle.ob_cstmt.proofs.Steps.{alone_made}
use Rattle.ob_cstmt.proofs.single.with_alone.Goals as goal

pub returns : goal.returns
returns c = alone_made c.alone.result _ _ c.alone.ensures c.with_made.ensures
