-- Chains of types where the limit of depth is kept.
use Rattle.std.specs.Prelude.{◌≡◌, true, false}
use Rattle.std.specs.List.{AllByRecursion}
use Rattle.ob_types.specs.declared.types.TypeRef.TheVariants as ref
use Rattle.ob_rules.specs.Names.{Around, map_of, in_unit}
use Rattle.ob_rules.specs.Depth.{is_within, names_held, is_deep}

-- Where the types of a module name only types that are there, and the limit of depth is kept, each chain from one of them on has at most
-- 200 types.
abbrev pub ChainsAreShort : Type 0
ChainsAreShort = (u : Around) → AllByRecursion (λ t. names_held (map_of u) t ≡ true) u.own → is_deep u ≡ false → AllByRecursion (λ t. is_within (map_of u) 200 (ref.Named (in_unit u t.name)) ≡ true) u.own
