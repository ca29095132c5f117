use Rattle.std.proofs.Common.{◌≡◌, drop}
use Rattle.ob_uses_roots.specs.Noted.{noted}
use Rattle.std.proofs.Common.{map}
use Rattle.ob_types.specs.declared.types.TypeRef.TheVariants as ref
use Rattle.ob_uses_roots.specs.Counts.{Shapes}
use Rattle.ob_uses_roots.proofs.decls.count_objects.Given as goal

-- what was noted, and the rest after it, is the whole
abbrev pub invariant-objects : goal.invariant-objects
invariant-objects l = noted l.found (map (λ q. Shapes (ref.Named q)) (drop l.object-index l.objects)) ≡ noted l.initial.found (map (λ q. Shapes (ref.Named q)) l.objects)
