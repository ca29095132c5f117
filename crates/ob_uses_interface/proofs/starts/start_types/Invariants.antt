use Rattle.std.proofs.Common.{◌≡◌, ◌++◌, drop, map}
use Rattle.std.specs.List.{filter}
use Rattle.ob_types.specs.TypedView.{module_view}
use Rattle.ob_env.specs.Shown.{is_visible}
use Rattle.ob_uses_roots.specs.Counts.{own_name}
use Rattle.ob_uses_interface.proofs.starts.start_types.Given as goal

abbrev pub invariant-types : goal.invariant-types
invariant-types l = l.left.items ++ map (own_name (module_view l.«module»)) (filter (λ t. is_visible t.desc) (drop l.t-index l.types)) ≡ l.initial.left.items ++ map (own_name (module_view l.«module»)) (filter (λ t. is_visible t.desc) l.types)
