-- How many types the longest chain from a type on has.
use Rattle.std.specs.Prelude.{◌≡◌, ℕ, false, ◌≤◌, nat_le, nat_lt, bytes_eq, List, Option, Some, None, if◌then◌else◌}
use Rattle.std.specs.List.{find, list_all}
use Rattle.std.specs.Option.{option_map}
use Rattle.ob_tree.specs.declared.names.QName.{QName}
use Rattle.ob_types.specs.declared.types.TypeRef.{TypeRef}
use Rattle.ob_types.specs.declared.types.TypeRef.TheVariants as ref
use Rattle.ob_rules.specs.Shapes.{Map}
use Rattle.ob_rules.specs.Depth.{is_within}
use Rattle.ob_cdecl_heading.specs.Keys.{key}
use Rattle.ob_cdecl_bound.specs.declared.depth.Height.{Height}

-- the type is within so many and no fewer
abbrev pub HasHeight : Map → TypeRef → ℕ → Type 0
HasHeight map t h = (n : ℕ) → is_within map n t ≡ nat_le h n

abbrev pub HaveHeight : Map → List TypeRef → ℕ → Type 0
HaveHeight map ts h = (n : ℕ) → list_all (λ t. is_within map n t) ts ≡ nat_le h n

abbrev pub known_height : List Height → List ℕ → Option ℕ
known_height hs x = option_map (λ h. h.height) (find (λ h. bytes_eq h.key x) hs)

abbrev pub HeightOf : Map → QName → Option ℕ → Type 0
HeightOf map q None = Unit {0}
HeightOf map q (Some h) = HasHeight map (ref.Named q) h

-- the heights that are known are so
abbrev pub AreHeights : Map → List Height → Type 0
AreHeights map hs = (q : QName) → HeightOf map q (known_height hs (key q.«module» q.object))

-- the height, which is at most `left`, or it is more
abbrev pub Measures : Map → ℕ → TypeRef → Option ℕ → Type 0
Measures map left t None = is_within map left t ≡ false
Measures map left t (Some h) = HasHeight map t h × (h ≤ left)

abbrev pub MeasuresAll : Map → ℕ → List TypeRef → Option ℕ → Type 0
MeasuresAll map left ts None = list_all (λ t. is_within map left t) ts ≡ false
MeasuresAll map left ts (Some h) = HaveHeight map ts h × (h ≤ left)

abbrev pub within_left : ℕ → ℕ → Option ℕ
within_left left h = if nat_le h left then Some h else None

abbrev pub greater_of : ℕ → ℕ → ℕ
greater_of a b = if nat_lt a b then b else a
