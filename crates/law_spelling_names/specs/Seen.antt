-- What is seen of the types of a module in the map of all types, and what the types of other modules are.
use Rattle.std.specs.Prelude.{◌≡◌, ℕ, suc, ◌+◌, ◌≤◌, true, List, length, Option, Some, bytes_eq}
use Rattle.ob_tree.specs.declared.names.QName.{QName}
use Rattle.ob_types.specs.declared.types.TypeRef.{TypeRef}
use Rattle.ob_types.specs.declared.types.TypeRef.TheVariants as ref
use Rattle.ob_types.specs.declared.desc.Desc.{Desc}
use Rattle.ob_types.specs.declared.desc.Desc.TheVariants as desc
use Rattle.ob_types.specs.declared.typed.TypedType.{TypedType}
use Rattle.ob_rules.specs.Depth.{is_within}

-- the type of that name in the module
abbrev pub named_in : List ℕ → List ℕ → TypeRef
named_in unit x = ref.Named (record { «module» = unit; object = x })

-- behind an array a chain goes on to its elements
abbrev pub Follows : (QName → Option Desc) → ℕ → Desc → Type 0
Follows types n (desc.Array m k t) = (j : ℕ) × (n ≡ suc j) × (is_within types j t ≡ true)
Follows types n d = Unit {0}

-- the chains from the type on have at most 200 types, and are those of its description
pub record IsSeen (types : QName → Option Desc) (unit : List ℕ) (t : TypedType) : Type 0 where
  pub within : is_within types 200 (named_in unit t.name) ≡ true
  pub follows : (n : ℕ) → is_within types n (named_in unit t.name) ≡ true → Follows types n t.desc

-- a type of the module has a name of so few characters
abbrev pub ShortRef : List ℕ → ℕ → TypeRef → Type 0
ShortRef unit b (ref.Basic c) = Unit {0}
ShortRef unit b (ref.Named q) = bytes_eq q.«module» unit ≡ true → length q.object ≤ b

-- so has what a type with a name of n characters is equated to or points to
abbrev pub ShortDesc : List ℕ → ℕ → Desc → Type 0
ShortDesc unit n (desc.Alias m t) = ShortRef unit 64 t
ShortDesc unit n (desc.Pointer m t) = ShortRef unit (65 + n) t
ShortDesc unit n d = Unit {0}

-- the types of other modules do not name those of this one, or short ones alone
abbrev pub AreOthers : (QName → Option Desc) → List ℕ → Type 0
AreOthers shown unit = (q : QName) (d : Desc) → shown q ≡ Some d → ShortDesc unit 0 d
