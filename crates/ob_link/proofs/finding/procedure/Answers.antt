use Rattle.std.proofs.Common.{rules, of_calls, sym, ap, Some, ◌∙◌}
use Rattle.std.proofs.lemmas.Fn.{always_returns_same}
use Rattle.ob_obj.specs.Grammar.{by_name}
use Rattle.ob_link.proofs.Search.{procedure_there, no_procedure}
use Rattle.ob_link.proofs.finding.procedure.Goals as goal

pub returns-in-Ok : goal.returns-in-Ok
returns-in-Ok c =
    let h = c.in-Ok.ensures.position (λ y. by_name y.name c.args.name.now) (always_returns_same _ _ _ (λ a r f k. search (rules, of_calls))) in
    ap Some c.index-procedures-place.is ∙ sym (procedure_there c.args.name.now c.args.procedures.now c.in-Ok.place c.index-procedures-place.result c.requires c.in-Ok.ensures.bound h)

pub returns-in-Err : goal.returns-in-Err
returns-in-Err c =
    let h = c.in-Err.ensures.position (λ y. by_name y.name c.args.name.now) (always_returns_same _ _ _ (λ a r f k. search (rules, of_calls))) in
    sym (no_procedure c.args.name.now c.args.procedures.now _ c.requires h)
