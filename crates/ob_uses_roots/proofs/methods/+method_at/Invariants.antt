use Rattle.ob_uses_roots.proofs.methods.+method_at.Given as goal

abbrev pub decreases-method_at : goal.decreases-method_at
decreases-method_at g l = l.steps
