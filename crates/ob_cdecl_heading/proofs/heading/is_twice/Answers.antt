use Rattle.std.proofs.Common.{◌≡◌, ◌≤◌, ap, ◌∙◌, arith}
use Rattle.std.specs.Option.{option_copied}
use Rattle.ob_cdecl_scopes.specs.Scopes.{around_of}
use Rattle.ob_rules.specs.Headings.{is_twice}
use Rattle.ob_cdecl_heading.specs.Sections.{latest_in}
use Rattle.ob_cdecl_heading.proofs.Growing.{latest_is}
use Rattle.ob_cdecl_heading.proofs.heading.is_twice.Goals as goal

pub returns : goal.returns
returns g c =
    let u = around_of g.E.Types.types c.args.scope.now in
    let f = c.args.forward in
    c.is_latest_twice.ensures ∙ ap (λ n. is_twice f (latest_in n (option_copied c.known.result))) c.scope.ensures ∙ ap (λ o. is_twice f (latest_in u.scope o)) c.known.ensures ∙ ap (is_twice f) (latest_is u.scope u.scope u.known c.args.name.now (omega arith) c.mark.ensures.fall)
