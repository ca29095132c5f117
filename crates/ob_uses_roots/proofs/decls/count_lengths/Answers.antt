use Rattle.std.proofs.Common.{List, refl, map}
use Rattle.ob_uses_roots.proofs.Parting.{turn, over}
use Rattle.ob_types.specs.declared.typed.Designator.{Designator}
use Rattle.ob_types.specs.TypedView.{designator_view}
use Rattle.std.specs.List.{flat_map}
use Rattle.ob_uses_roots.specs.Counts.{counts_of_designator}
use Rattle.ob_uses_roots.proofs.decls.count_lengths.Goals as goal

pub lengths-preserved : goal.lengths-preserved
lengths-preserved c = turn (λ (d : Designator). counts_of_designator (designator_view d)) (λ (ds : List Designator). flat_map counts_of_designator (map designator_view ds)) (λ _ _. refl) c.args.lengths.now c.lengths.d-index c.d-item.result c.lengths.found c.count_designator.new.found _ c.lengths-test.true c.d-item.is c.in_ok-count_designator.ensures c.lengths.invariant

pub returns : goal.returns
returns c = over (λ (ds : List Designator). flat_map counts_of_designator (map designator_view ds)) refl c.args.lengths.now c.lengths.d-index c.lengths.found _ c.lengths-test.false c.lengths.invariant
