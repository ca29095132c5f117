use Rattle.std.proofs.Common.{ap, ◌∙◌}
use Rattle.std.specs.List.{flat_map}
use Rattle.ob_uses.specs.Uses.{with_kept}
use Rattle.ob_uses.proofs.uses.uses_of.Goals as goal

pub returns-clause-value : goal.returns-clause-value
returns-clause-value g c = c.in_ok-uses.ensures ∙ ap (flat_map (with_kept (g.P.Prints.prints c.args.prints.now))) (c.as_slice.ensures.value ∙ c.in_ok-pairs.ensures.value)

pub returns-clause-steps : goal.returns-clause-steps
returns-clause-steps g c = λ names all. c.in_ok-uses.ensures ∙ ap (flat_map (with_kept (g.P.Prints.prints c.args.prints.now))) (c.as_slice.ensures.value ∙ c.in_ok-pairs.ensures.steps names all)
