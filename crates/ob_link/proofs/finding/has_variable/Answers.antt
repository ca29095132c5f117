use Rattle.std.proofs.Common.{rules, of_calls, sym, []}
use Rattle.std.proofs.lemmas.Fn.{always_returns_same}
use Rattle.ob_obj.specs.Grammar.{by_name}
use Rattle.ob_link.proofs.Search.{variable_there, no_variable}
use Rattle.ob_link.proofs.finding.has_variable.Goals as goal

pub returns-in-Ok : goal.returns-in-Ok
returns-in-Ok c =
    let h = c.in-Ok.ensures.position (λ y. by_name y.name c.args.name.now) (always_returns_same _ _ _ (λ a r f k. search (rules, of_calls))) in
    sym (variable_there c.args.name.now c.args.variables.now _ (record { name = []; place = 0 }) c.requires c.in-Ok.ensures.bound h)

pub returns-in-Err : goal.returns-in-Err
returns-in-Err c =
    let h = c.in-Err.ensures.position (λ y. by_name y.name c.args.name.now) (always_returns_same _ _ _ (λ a r f k. search (rules, of_calls))) in
    sym (no_variable c.args.name.now c.args.variables.now _ c.requires h)
