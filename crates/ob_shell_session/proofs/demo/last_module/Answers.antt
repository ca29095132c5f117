use Rattle.std.proofs.Common.{◌≤◌, ◌∙◌, List, ℕ, length, sym, subst}
use Rattle.ob_shell_session.proofs.Demos.{name_fits}
use Rattle.ob_shell_session.proofs.demo.last_module.Goals as goal

pub new-name-requires : goal.new-name-requires
new-name-requires c = subst (λ (l : List ℕ). length l ≤ 64) (sym (c.deref.ensures.value ∙ c.in_ok-text.ensures)) (name_fits c.args.count c.requires)
