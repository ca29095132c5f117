-- Which objects stand on no chain that is too long: a mark for each object of each interface.
use Rattle.std.specs.Prelude.{◌≡◌, ℕ, Bool, true, false, ◌&&◌, nat_lt, List, [], ◌∷◌, map as each, Option, Some, None, slice_get, unwrap_or}
use Rattle.std.specs.List.{list_all}
use Rattle.ob_format.specs.Format.{◌>>=◌}
use Rattle.ob_types.specs.declared.types.TypeRef.{TypeRef}
use Rattle.ob_types.specs.declared.types.TypeRef.TheVariants as ref
use Rattle.ob_types.specs.declared.face.Object.{Object}
use Rattle.ob_types.specs.declared.face.Interface.{Interface}
use Rattle.ob_types.specs.Maps.{stands_on}
use Rattle.ob_env.specs.Found.{place_of}
use Rattle.ob_env.specs.Mapped.{map_of}
use Rattle.ob_env.specs.Fit.{is_within}

-- the mark at a place
abbrev pub mark_at : List (List Bool) → ℕ × ℕ → Option Bool
mark_at marks p = slice_get marks p.0 >>= λ m. slice_get m p.1

-- a basic type is marked, and so is one that is not held
abbrev pub is_marked : List Interface → List (List Bool) → TypeRef → Bool
is_marked is marks (ref.Basic b) = true
is_marked is marks (ref.Named q) = unwrap_or (place_of is q >>= mark_at marks) true

-- the marks of the types of an interface all of whose parts pass
abbrev pub row_by : (TypeRef → Bool) → Interface → List Bool
row_by passes i = each (λ o. list_all passes (stands_on o.desc)) i.objects

abbrev pub marks_by : (TypeRef → Bool) → List Interface → List (List Bool)
marks_by passes is = each (row_by passes) is

abbrev pub are_all : List (List Bool) → Bool
are_all marks = list_all (λ m. list_all (λ b. b) m) marks

-- the marks say which types stand on chains of at most n
abbrev pub SayWithin : List Interface → ℕ → List (List Bool) → Type 0
SayWithin is n marks = (t : TypeRef) → is_within (map_of is) n t ≡ is_marked is marks t

abbrev pub is_basic : TypeRef → Bool
is_basic (ref.Basic b) = true
is_basic (ref.Named q) = false

-- ---- heights, which rise from what a type stands on to the type

-- the height at a place
abbrev pub height_at : List (List ℕ) → ℕ × ℕ → Option ℕ
height_at heights p = slice_get heights p.0 >>= λ m. slice_get m p.1

abbrev pub is_less : Option ℕ → ℕ → Bool
is_less None n = false
is_less (Some h) n = nat_lt h n

-- below a height are the basic types, and the names whose own height is less
abbrev pub is_below : List Interface → List (List ℕ) → ℕ → TypeRef → Bool
is_below is heights n (ref.Basic b) = true
is_below is heights n (ref.Named q) = is_less (place_of is q >>= height_at heights) n

-- the height is at most 200, and all that the object stands on is below it
abbrev pub keeps_height : (ℕ → TypeRef → Bool) → Object → ℕ → Bool
keeps_height below o h = nat_lt h 201 && list_all (below h) (stands_on o.desc)

-- each object has a height, and keeps it
abbrev pub row_keeps : (ℕ → TypeRef → Bool) → List Object → List ℕ → Bool
row_keeps below [] hs = true
row_keeps below (o ∷ os) [] = false
row_keeps below (o ∷ os) (h ∷ hs) = keeps_height below o h && row_keeps below os hs

abbrev pub rows_keep : (ℕ → TypeRef → Bool) → List Interface → List (List ℕ) → Bool
rows_keep below [] rows = true
rows_keep below (i ∷ is) [] = false
rows_keep below (i ∷ is) (r ∷ rows) = row_keeps below i.objects r && rows_keep below is rows

abbrev pub are_ranked : List Interface → List (List ℕ) → Bool
are_ranked is heights = rows_keep (is_below is heights) is heights

-- heights that are known are kept
abbrev pub AreRanks : List Interface → Option (List (List ℕ)) → Type 0
AreRanks is None = Unit {0}
AreRanks is (Some heights) = are_ranked is heights ≡ true
