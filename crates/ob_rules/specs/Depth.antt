-- How long the chains are in which each type stands on the next.
use Rattle.std.specs.Prelude.{ℕ, zero, suc, ◌+◌, ◌*◌, min, Bool, true, false, not, ◌&&◌, ◌||◌, nat_eq, List, [], ◌∷◌, ◌++◌, length, map, Option, Some, None, bytes_eq}
use Rattle.std.specs.List.{find, list_all, list_any}
use Rattle.ob_tree.specs.declared.names.QName.{QName}
use Rattle.ob_types.specs.declared.types.TypeRef.{TypeRef}
use Rattle.ob_types.specs.declared.types.TypeRef.TheVariants as ref
use Rattle.ob_types.specs.declared.desc.Desc.{Desc}
use Rattle.ob_types.specs.declared.desc.Desc.TheVariants as desc
use Rattle.ob_types.specs.declared.desc.RecordDesc.{RecordDesc}
use Rattle.ob_types.specs.declared.desc.Field.{Field}
use Rattle.ob_types.specs.declared.desc.Method.{Method}
use Rattle.ob_types.specs.declared.typed.TypedType.{TypedType}
use Rattle.ob_types.specs.Maps.{stands_on, named_by, is_type}
use Rattle.ob_types.specs.Numbers.{text_less}
use Rattle.ob_rules.specs.Shapes.{Map, is_held}
use Rattle.ob_rules.specs.Names.{Around, map_of, in_unit}

-- THE LIMIT `depth`: 200 types in a chain in which each stands on the next; basic types do not count

abbrev pub chain_of : (TypeRef → Bool) → Option Desc → Bool
chain_of f None = false
chain_of f (Some d) = list_all f (stands_on d)

abbrev pub is_within : Map → ℕ → TypeRef → Bool
is_within map n (ref.Basic b) = true
is_within map zero (ref.Named q) = false
is_within map (suc n) (ref.Named q) = chain_of (λ t. is_within map n t) (map q)

-- the types that name only types that are there: others go, so many times as there are types
abbrev pub names_held : Map → TypedType → Bool
names_held map t = list_all (is_held map) (named_by t.desc)

abbrev pub keep_if : Bool → TypedType → List TypedType → List TypedType
keep_if true t ts = t ∷ ts
keep_if false t ts = ts

abbrev pub kept_of : (TypedType → Bool) → List TypedType → List TypedType
kept_of f [] = []
kept_of f (t ∷ ts) = keep_if (f t) t (kept_of f ts)

abbrev pub kept_within : Around → ℕ → List TypedType → List TypedType
kept_within u zero ts = ts
kept_within u (suc n) ts = kept_within u n (kept_of (names_held (map_of (record u { own = ts }))) ts)

abbrev pub kept : Around → List TypedType
kept u = kept_within u (length u.own) u.own

abbrev pub deep_among : Around → List TypedType → Bool
deep_among u ts = list_any (λ t. not (is_within (map_of (record u { own = ts })) 200 (ref.Named (in_unit u t.name)))) ts

abbrev pub is_deep : Around → Bool
is_deep u = deep_among u (kept u)
