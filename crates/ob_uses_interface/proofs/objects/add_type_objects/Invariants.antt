use Rattle.std.proofs.Common.{◌≡◌, ◌++◌, drop, map}
use Rattle.std.specs.List.{filter}
use Rattle.ob_types.specs.declared.typed.TypedType.{TypedType}
use Rattle.ob_types.specs.declared.face.Aspect.TheVariants.{Shape}
use Rattle.ob_uses.specs.Ways.{has_pair, paired}
use Rattle.ob_uses_interface.specs.Entries.{entry_of}
use Rattle.ob_uses.specs.Objects.{type_object}
use Rattle.ob_uses_interface.proofs.objects.add_type_objects.Given as goal

abbrev pub invariant-types : goal.invariant-types
invariant-types l = l.found.items ++ map (entry_of l.«module») (map type_object (filter (λ (t : TypedType). has_pair l.reached.keys (paired Shape (record { «module» = l.«module»; object = t.name }))) ((drop l.t-index l.types)))) ≡ l.initial.found.items ++ map (entry_of l.«module») (map type_object (filter (λ (t : TypedType). has_pair l.reached.keys (paired Shape (record { «module» = l.«module»; object = t.name }))) (l.types)))
