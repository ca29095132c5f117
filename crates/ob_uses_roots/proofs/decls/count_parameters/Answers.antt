use Rattle.std.proofs.Common.{refl, ap, ◌∙◌}
use Rattle.ob_uses_roots.proofs.Parting.{turn, over}
use Rattle.std.specs.List.{flat_map}
use Rattle.ob_uses_roots.specs.Counts.{counts_of_parameter, formal_counts}
use Rattle.ob_uses_roots.specs.Noted.{noted}
use Rattle.ob_uses_roots.proofs.decls.count_parameters.Goals as goal

pub parameters-preserved : goal.parameters-preserved
parameters-preserved c = turn (counts_of_parameter) (flat_map counts_of_parameter) (λ _ _. refl) c.args.parameters.now c.parameters.parameter-index c.parameter-item.result c.parameters.found c.note_formal.new.found _ c.parameters-test.true c.parameter-item.is (c.in_ok-note_formal.ensures ∙ ap (λ m. noted c.parameters.found (formal_counts (m, c.parameter-item.result.of))) c.mode_of.ensures) c.parameters.invariant

pub returns : goal.returns
returns c = over (flat_map counts_of_parameter) refl c.args.parameters.now c.parameters.parameter-index c.parameters.found _ c.parameters-test.false c.parameters.invariant
