use Rattle.std.proofs.Common.{ap, ◌∙◌}
use Rattle.std.specs.Prelude.{is_some}
use Rattle.ob_cdecl_scopes.specs.Stacks.{latest}
use Rattle.ob_cdecl_scopes.proofs.Scoping.{among}
use Rattle.ob_cdecl_scopes.proofs.scope.ScopeSurroundings.declares_type.Goals as goal

pub returns : goal.returns
returns g c = c.is_some.ensures ∙ ap is_some c.find.ensures ∙ ap (λ x. is_some (latest c.args.self.now.later_types x)) c.as_bytes.ensures ∙ among c.args.self.now.later_types c.args.name.now
