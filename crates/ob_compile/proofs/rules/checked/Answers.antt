use Rattle.std.proofs.Common.{ap, ◌∙◌}
use Rattle.ob_rules.specs.Declarations.{checked, first_break}
use Rattle.ob_env.specs.Faces.{faces_of}
use Rattle.ob_env.specs.Shown.{shown}
use Rattle.ob_compile.proofs.rules.checked.Goals as goal

pub returns-clause-tree : goal.returns-clause-tree
returns-clause-tree c = c.in_ok-checked.ensures.tree ∙ ap (λ is. checked (shown (faces_of is)) c.args.tree.now) c.new-imported.ensures

pub returns-clause-broken : goal.returns-clause-broken
returns-clause-broken c = c.in_ok-checked.ensures.broken ∙ ap (λ is. first_break (shown (faces_of is)) c.args.tree.now) c.new-imported.ensures
