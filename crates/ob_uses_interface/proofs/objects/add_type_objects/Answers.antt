use Rattle.std.proofs.Common.{List, [], ◌∷◌, refl, map}
use Rattle.std.specs.List.{filter}
use Rattle.ob_types.specs.declared.typed.TypedType.{TypedType}
use Rattle.ob_types.specs.declared.face.Aspect.TheVariants.{Shape}
use Rattle.ob_uses.specs.Ways.{has_pair, paired}
use Rattle.ob_uses_interface.specs.Entries.{entry_of}
use Rattle.ob_uses.specs.Objects.{type_object}
use Rattle.ob_uses.proofs.Looping.{one_more, all_done}
use Rattle.ob_uses_interface.proofs.Objecting.{entries_cons}
use Rattle.ob_uses_interface.proofs.objects.add_type_objects.Goals as goal

pub types-preserved : goal.types-preserved
types-preserved c =
    one_more (λ (x : TypedType). map (entry_of c.args.«module».now) (map type_object (filter (λ (t : TypedType). has_pair c.args.reached.now.keys (paired Shape (record { «module» = c.args.«module».now; object = t.name }))) (x ∷ [])))) (λ (xs : List TypedType). map (entry_of c.args.«module».now) (map type_object (filter (λ (t : TypedType). has_pair c.args.reached.now.keys (paired Shape (record { «module» = c.args.«module».now; object = t.name }))) (xs)))) (λ x xs. entries_cons c.args.«module».now type_object (λ (t : TypedType). has_pair c.args.reached.now.keys (paired Shape (record { «module» = c.args.«module».now; object = t.name }))) (x) (xs))
    c.args.types.now c.types.t-index c.t-item.result c.types.found.items c.add_type_object.new.found.items _ c.types-test.true c.t-item.is c.in_ok-add_type_object.ensures c.types.invariant

pub returns : goal.returns
returns c = all_done (λ (xs : List TypedType). map (entry_of c.args.«module».now) (map type_object (filter (λ (t : TypedType). has_pair c.args.reached.now.keys (paired Shape (record { «module» = c.args.«module».now; object = t.name }))) (xs)))) refl c.args.types.now c.types.t-index c.types.found.items _ c.types-test.false c.types.invariant
