use Rattle.std.proofs.Common.{rules, of_calls, sym}
use Rattle.std.proofs.lemmas.Fn.{always_returns_same}
use Rattle.ob_obj.specs.Grammar.{by_name}
use Rattle.ob_machine_image.proofs.Search.{found, absent}
use Rattle.ob_machine_image.proofs.links.variable_at.Goals as goal

pub returns-in-Ok : goal.returns-in-Ok
returns-in-Ok c =
    let h = c.in-Ok.ensures.position (λ y. by_name y.0 c.args.name.now) (always_returns_same _ _ _ (λ a r f k. search (rules, of_calls))) in
    sym (found c.args.variables.now c.args.name.now c.in-Ok.place c.index-variables-place.result c.requires c.in-Ok.ensures.bound h)

pub returns-in-Err : goal.returns-in-Err
returns-in-Err c =
    let h = c.in-Err.ensures.position (λ y. by_name y.0 c.args.name.now) (always_returns_same _ _ _ (λ a r f k. search (rules, of_calls))) in
    sym (absent _ _ _ c.requires h)
