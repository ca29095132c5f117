use Rattle.ob_make.proofs.Keeping.{faces_put}
use Rattle.ob_make.proofs.faces.Faces.put.Goals as goal

pub invariant_of-self : goal.invariant_of-self
invariant_of-self c = faces_put c.self.inside.kept c.put.new.self c.args.«module».now c.args.face c.put.result c.self.invariant c.requires c.put.ensures.ok c.put.ensures.err
