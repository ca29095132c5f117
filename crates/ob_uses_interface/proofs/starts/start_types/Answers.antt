use Rattle.std.proofs.Common.{List, [], ◌∷◌, refl, map}
use Rattle.std.specs.List.{filter}
use Rattle.ob_types.specs.declared.typed.TypedType.{TypedType}
use Rattle.ob_types.specs.TypedView.{module_view}
use Rattle.ob_env.specs.Shown.{is_visible}
use Rattle.ob_uses_roots.specs.Counts.{own_name}
use Rattle.ob_uses.proofs.Looping.{one_more, all_done}
use Rattle.ob_uses_interface.proofs.Starting.{types_cons}
use Rattle.ob_uses_interface.proofs.starts.start_types.Goals as goal

pub types-preserved : goal.types-preserved
types-preserved c =
    one_more (λ (x : TypedType). map (own_name (module_view c.args.«module».now)) (filter (λ t. is_visible t.desc) (x ∷ []))) (λ (xs : List TypedType). map (own_name (module_view c.args.«module».now)) (filter (λ t. is_visible t.desc) xs)) (types_cons (module_view c.args.«module».now))
    c.args.types.now c.types.t-index c.t-item.result c.types.left.items c.start_type.new.left.items _ c.types-test.true c.t-item.is c.in_ok-start_type.ensures c.types.invariant

pub returns : goal.returns
returns c = all_done (λ (xs : List TypedType). map (own_name (module_view c.args.«module».now)) (filter (λ t. is_visible t.desc) xs)) refl c.args.types.now c.types.t-index c.types.left.items _ c.types-test.false c.types.invariant
