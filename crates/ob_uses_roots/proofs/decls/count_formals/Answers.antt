use Rattle.std.proofs.Common.{refl}
use Rattle.ob_uses_roots.proofs.Parting.{turn, over}
use Rattle.std.specs.List.{flat_map}
use Rattle.ob_uses_roots.specs.Counts.{formal_counts}
use Rattle.ob_uses_roots.proofs.decls.count_formals.Goals as goal

pub params-preserved : goal.params-preserved
params-preserved c = turn (formal_counts) (flat_map formal_counts) (λ _ _. refl) c.args.params.now c.params.param-index c.param-item.result c.params.found c.note_formal.new.found _ c.params-test.true c.param-item.is c.in_ok-note_formal.ensures c.params.invariant

pub returns : goal.returns
returns c = over (flat_map formal_counts) refl c.args.params.now c.params.param-index c.params.found _ c.params-test.false c.params.invariant
