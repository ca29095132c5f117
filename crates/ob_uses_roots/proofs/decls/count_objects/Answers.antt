use Rattle.std.proofs.Common.{List, [], ◌∷◌, refl, map}
use Rattle.ob_uses_roots.proofs.Parting.{turn, over}
use Rattle.ob_tree.specs.declared.names.QName.{QName}
use Rattle.ob_types.specs.declared.types.TypeRef.TheVariants as ref
use Rattle.ob_uses_roots.specs.Counts.{Shapes}
use Rattle.ob_uses_roots.proofs.decls.count_objects.Goals as goal

pub objects-preserved : goal.objects-preserved
objects-preserved c = turn (λ (q : QName). Shapes (ref.Named q) ∷ []) (λ (qs : List QName). map (λ q. Shapes (ref.Named q)) qs) (λ _ _. refl) c.args.objects.now c.objects.object-index c.object-item.result c.objects.found c.note_named.new.found _ c.objects-test.true c.object-item.is c.in_ok-note_named.ensures c.objects.invariant

pub returns : goal.returns
returns c = over (λ (qs : List QName). map (λ q. Shapes (ref.Named q)) qs) refl c.args.objects.now c.objects.object-index c.objects.found _ c.objects-test.false c.objects.invariant
