-- The law of compiles over kept files.
use Rattle.law_session.proofs.CompileLaw.{kept_compiles_alike}
use Rattle.law_session.proofs.kept_compiles_alike.Goals as goal

pub returns : goal.returns
returns c = kept_compiles_alike
