use Rattle.std.proofs.Common.{◌+◌, Some, None, ap, ◌∙◌, arith}
use Rattle.ob_link.proofs.Places.{first_place, second_place}
use Rattle.ob_link.proofs.judging.number_of.Goals as goal

pub returns-in-Some : goal.returns-in-Some
returns-in-Some c = first_place c.args.loaded.now c.args.new.now c.args.name.now c.in-Some.place c.in-Some.ensures.place

pub returns-in_err-place-in-None : goal.returns-in_err-place-in-None
returns-in_err-place-in-None c = c.from_residual.ensures ∙ second_place c.args.loaded.now c.args.new.now c.args.name.now None c.in-None.ensures.place c.in_err-place-in-None.ensures.place

pub returns-in_ok-place-in-None : goal.returns-in_ok-place-in-None
returns-in_ok-place-in-None c = ap (λ n. Some (n + c.in_ok-place-in-None.place)) c.count.ensures.count ∙ second_place c.args.loaded.now c.args.new.now c.args.name.now (Some c.in_ok-place-in-None.place) c.in-None.ensures.place c.in_ok-place-in-None.ensures.place

pub overflow_add-result : goal.overflow_add-result
overflow_add-result c = omega (arith, c.count.ensures.most, c.in_ok-place-in-None.ensures.few)
