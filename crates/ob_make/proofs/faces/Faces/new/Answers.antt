use Rattle.ob_make.proofs.Keeping.{keeps_none}
use Rattle.ob_make.proofs.faces.Faces.new.Goals as goal

pub returns : goal.returns
returns c = λ find. keeps_none find c.new.result c.new.ensures
