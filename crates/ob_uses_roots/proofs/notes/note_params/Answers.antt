use Rattle.std.proofs.Common.{List, [], ◌∷◌, refl, map}
use Rattle.ob_uses_roots.proofs.Parting.{turn, over}
use Rattle.ob_types.specs.declared.types.Mode.{Mode}
use Rattle.ob_types.specs.declared.types.TypeRef.{TypeRef}
use Rattle.ob_uses_roots.specs.Counts.{Shapes, shapes}
use Rattle.ob_uses_roots.proofs.notes.note_params.Goals as goal

pub params-preserved : goal.params-preserved
params-preserved c = turn (λ (p : Mode × TypeRef). Shapes p.1 ∷ []) (λ (ps : List (Mode × TypeRef)). shapes (map (λ p. p.1) ps)) (λ _ _. refl) c.args.params.now c.params.param-index c.param-item.result c.params.found c.note_shape.new.found _ c.params-test.true c.param-item.is c.in_ok-note_shape.ensures c.params.invariant

pub returns : goal.returns
returns c = over (λ (ps : List (Mode × TypeRef)). shapes (map (λ p. p.1) ps)) refl c.args.params.now c.params.param-index c.params.found _ c.params-test.false c.params.invariant
