use Rattle.std.proofs.Common.{refl}
use Rattle.ob_uses_roots.proofs.Parting.{turn, over}
use Rattle.ob_types.specs.TypedView.{module_view}
use Rattle.std.specs.List.{flat_map}
use Rattle.ob_uses_roots.specs.Counts.{counts_of_type}
use Rattle.ob_uses_roots.proofs.decls.count_types.Goals as goal

pub types-preserved : goal.types-preserved
types-preserved c = turn (counts_of_type (module_view c.args.«module».now)) (flat_map (counts_of_type (module_view c.args.«module».now))) (λ _ _. refl) c.args.types.now c.types.t-index c.t-item.result c.types.found c.count_type.new.found _ c.types-test.true c.t-item.is c.in_ok-count_type.ensures c.types.invariant

pub returns : goal.returns
returns c = over (flat_map (counts_of_type (module_view c.args.«module».now))) refl c.args.types.now c.types.t-index c.types.found _ c.types-test.false c.types.invariant
