use Rattle.std.proofs.Common.{ap, ◌∙◌, arith}
use Rattle.std.specs.Prelude.{bytes_eq}
use Rattle.std.specs.List.{find}
use Rattle.std.specs.Option.{option_map}
use Rattle.ob_cdecl_scopes.specs.Descending.{is_scope}
use Rattle.ob_cdecl_scopes.proofs.Scoping.{in_scope_by}
use Rattle.ob_cdecl_scopes.proofs.scope.ScopeSurroundings.is_known_in_scope.Goals as goal

pub returns : goal.returns
returns g c =
    let s = c.args.self.now in
    c.is_number.ensures ∙ ap (λ o. is_scope o s.scope) (c.scope_in.ensures ∙ ap (option_map (λ k. k.scope)) c.find.ensures ∙ ap (λ x. option_map (λ k. k.scope) (find (λ k. bytes_eq k.name x) s.known)) c.as_bytes.ensures) ∙ in_scope_by s.scope s.scope s.known c.args.name.now s.scopes_fall (omega arith)
