-- How the descriptors are kept: each with its level and its ancestors of the levels 0 to 15, and what its
-- type defines as a part of one list.
use Rattle.std.specs.Prelude.{◌≡◌, ℕ, ◌+◌, ◌-◌, ◌<◌, ◌≤◌, ◌^◌, List, [], ◌∷◌, ◌++◌, length, take, drop, map, get_or, Option, Some, None, slice_get, slice_set, replicate, nat_lt, if◌then◌else◌, vec_len, vec_capacity}
use Rattle.std.specs.List.Sorted.{IsStrictlySortedBy}
use Rattle.ob_tdesc.specs.declared.descriptor.Descriptor.{Descriptor}
use Rattle.ob_tdesc.specs.declared.declaration.OwnMethod.{OwnMethod}
use Rattle.ob_tdesc.specs.declared.declaration.Declaration.{Declaration}
use Rattle.ob_tdesc.specs.declared.descriptors.Entry.{Entry}
use Rattle.ob_tdesc.specs.declared.descriptors.Descriptors.TheInside.{Inside}
use Rattle.ob_tdesc.specs.Bases.{base_of, line_of, level_of}
use Rattle.ob_tdesc.specs.Tables.{by_number, declared}

abbrev pub Methods : Type 0
Methods = List OwnMethod

-- what an entry's type defines
abbrev pub own_of : Methods → Entry → Methods
own_of methods e = take e.own (drop e.first methods)

abbrev pub declaration_of : Methods → Entry → Declaration
declaration_of methods e = record { «module» = e.«module»; name = e.name; base = e.base; words = e.words; count = e.count; methods = own_of methods e }

-- the descriptor of an entry behind others
abbrev pub described : Methods → List Descriptor → Entry → Descriptor
described methods types e = declared types (declaration_of methods e)

-- the descriptors of entries behind others
abbrev pub list_behind : Methods → List Descriptor → List Entry → List Descriptor
list_behind methods types [] = []
list_behind methods types (e ∷ entries) = described methods types e ∷ list_behind methods (types ++ described methods types e ∷ []) entries

abbrev pub list_of : Methods → List Entry → List Descriptor
list_of methods entries = list_behind methods [] entries

abbrev pub own_counts : List Entry → List ℕ
own_counts entries = map Entry.own entries

-- what an entry's type defines begins where that of the one before it ends, the first at n, the last ends
-- at len
abbrev pub Tiles : ℕ → List Entry → ℕ → Type 0
Tiles n [] len = n ≡ len
Tiles n (e ∷ entries) len = (e.first ≡ n) × Tiles (n + e.own) entries len

-- what each type defines rises by number
abbrev pub AreRising : Methods → List Entry → Type 0
AreRising methods entries = (k : ℕ) (e : Entry) → slice_get entries k ≡ Some e → IsStrictlySortedBy by_number (own_of methods e)

-- a base stands before its type, and the entry has the type's level and the ancestors of the levels
-- up to it, as far as the table goes
pub record IsPlaced (types : List Descriptor) (k : ℕ) (e : Entry) : Type 0 where
  pub below : (b : ℕ) → base_of types k ≡ Some b → b < k
  pub level : e.level ≡ level_of types k
  pub long : length e.ancestors ≡ 16
  pub table : (l : ℕ) → l ≤ e.level → l < 16 → get_or e.ancestors l 0 ≡ get_or (line_of types k) (e.level - l) 0

abbrev pub ArePlaced : List Descriptor → List Entry → Type 0
ArePlaced types entries = (k : ℕ) (e : Entry) → slice_get entries k ≡ Some e → IsPlaced types k e

pub record IsKept (d : Inside) : Type 0 where
  pub tiles : Tiles 0 d.entries.items (length d.methods.items)
  pub rising : AreRising d.methods.items d.entries.items
  pub placed : ArePlaced (list_of d.methods.items d.entries.items) d.entries.items
  pub few : vec_len d.entries + d.types_room < 2 ^ 32
  pub types : vec_len d.entries + d.types_room ≤ vec_capacity d.entries
  pub methods : vec_len d.methods + d.methods_room ≤ vec_capacity d.methods

-- the level and the ancestors of a new entry with a base or none
abbrev pub level_over : Option Entry → ℕ
level_over None = 0
level_over (Some e) = e.level + 1

abbrev pub level_above : List Entry → Option ℕ → ℕ
level_above entries None = 0
level_above entries (Some b) = level_over (slice_get entries b)

abbrev pub ancestors_over : Option Entry → List ℕ
ancestors_over None = replicate 16 0
ancestors_over (Some e) = e.ancestors

abbrev pub ancestors_above : List Entry → Option ℕ → List ℕ
ancestors_above entries None = replicate 16 0
ancestors_above entries (Some b) = ancestors_over (slice_get entries b)

-- the number of an entry among its own ancestors, where its level is one of the table's
abbrev pub with_own : ℕ → ℕ → List ℕ → List ℕ
with_own number level ancestors = if nat_lt level 16 then slice_set ancestors level number else ancestors
