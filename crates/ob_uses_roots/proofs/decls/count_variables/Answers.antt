use Rattle.std.proofs.Common.{refl}
use Rattle.ob_uses_roots.proofs.Parting.{turn, over}
use Rattle.std.specs.List.{flat_map}
use Rattle.ob_uses_roots.specs.Counts.{counts_of_variable}
use Rattle.ob_uses_roots.proofs.decls.count_variables.Goals as goal

pub variables-preserved : goal.variables-preserved
variables-preserved c = turn (counts_of_variable) (flat_map counts_of_variable) (λ _ _. refl) c.args.variables.now c.variables.variable-index c.variable-item.result c.variables.found c.note_both.new.found _ c.variables-test.true c.variable-item.is c.in_ok-note_both.ensures c.variables.invariant

pub returns : goal.returns
returns c = over (flat_map counts_of_variable) refl c.args.variables.now c.variables.variable-index c.variables.found _ c.variables-test.false c.variables.invariant
