use Rattle.ob_env.specs.Faces.{faces_of}
use Rattle.ob_env.specs.Shown.{shown}
use Rattle.ob_compile.proofs.Ruled.{judged_as, is_checked}
use Rattle.ob_compile.proofs.rules.judged.Goals as goal

pub by_rules-requires : goal.by_rules-requires
by_rules-requires c = is_checked (λ t. t.inner) (shown (faces_of c.args.env.now)) c.args.tree.now c.in-Ok.checked.tree c.in-Ok.checked.broken c.in-Ok.ensures.tree c.in-Ok.ensures.broken

pub returns : goal.returns
returns c = judged_as c.args.env.now c.args.tree.now c.in-Ok.checked.deep _ c.in-Ok.checked.broken c.by_rules.result c.in-Ok.ensures.deep c.in-Ok.ensures.tree c.in-Ok.ensures.broken c.by_rules.ensures
