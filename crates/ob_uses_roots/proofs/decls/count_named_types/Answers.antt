use Rattle.std.proofs.Common.{[], ◌∷◌, refl}
use Rattle.ob_uses_roots.proofs.Parting.{turn, over}
use Rattle.ob_types.specs.declared.types.TypeRef.{TypeRef}
use Rattle.ob_uses_roots.specs.Counts.{Shapes, shapes}
use Rattle.ob_uses_roots.proofs.decls.count_named_types.Goals as goal

pub types-preserved : goal.types-preserved
types-preserved c = turn (λ (t : TypeRef). Shapes t ∷ []) (shapes) (λ _ _. refl) c.args.types.now c.types.t-index c.t-item.result c.types.found c.note_shape.new.found _ c.types-test.true c.t-item.is c.in_ok-note_shape.ensures c.types.invariant

pub returns : goal.returns
returns c = over (shapes) refl c.args.types.now c.types.t-index c.types.found _ c.types-test.false c.types.invariant
