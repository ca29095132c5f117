use Rattle.std.proofs.Common.{rules, ◌≡◌, true, ap, ◌∙◌}
use Rattle.std.specs.Prelude.{bytes_eq}
use Rattle.std.specs.List.{find}
use Rattle.std.specs.Option.{option_copied}
use Rattle.ob_cdecl_scopes.specs.Scopes.{around_of}
use Rattle.ob_cdecl_scopes.proofs.Scoping.{own_seen}
use Rattle.ob_cdecl_scopes.proofs.scope.ScopeTypes.desc_of.Goals as goal

pub returns-then-eq : goal.returns-then-eq
returns-then-eq g c =
    let u = around_of g.E.Types.types c.args.self.now in
    let q = c.args.name.now in
    let e : bytes_eq q.«module» u.unit ≡ true = (search rules) in
    c.desc_in.ensures ∙ own_seen u q (option_copied c.find.result) e (c.find.ensures ∙ ap (λ x. find (λ t. bytes_eq t.name x) u.own) c.as_bytes-then-eq.ensures)
