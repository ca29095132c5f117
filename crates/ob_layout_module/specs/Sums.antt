-- Words of a module's own types, as rows: of each number of steps the words of each type, those above the limit as the next number.
use Rattle.std.specs.Prelude.{◌≡◌, ℕ, zero, suc, ◌-◌, ◌≤◌, Bool, true, false, cond, ◌&&◌, List, [], ◌∷◌, ◌++◌, map as each, length, Option, Some, None, slice_get}
use Rattle.std.specs.Option.{option_or}
use Rattle.ob_tree.specs.declared.names.QName.{QName}
use Rattle.ob_types.specs.declared.types.TypeRef.{TypeRef}
use Rattle.ob_types.specs.declared.types.TypeRef.TheVariants as ref
use Rattle.ob_types.specs.declared.desc.Desc.{Desc}
use Rattle.ob_types.specs.declared.desc.Desc.TheVariants as desc
use Rattle.ob_types.specs.declared.desc.Field.{Field}
use Rattle.ob_types.specs.declared.typed.TypedType.{TypedType}
use Rattle.ob_types.specs.TypedSyntax.{Module}
use Rattle.ob_layout.specs.LaidOut.{summed, kept, is_own, viewed}
use Rattle.ob_layout_module.specs.declared.sums.Sum.{Sum}

abbrev pub own_name : List ℕ → List ℕ → QName
own_name m x = record { «module» = m; object = x }

abbrev pub own_ref : List ℕ → List ℕ → TypeRef
own_ref m x = ref.Named (own_name m x)

-- ---- chains of names that end

abbrev pub base_ends : (TypeRef → Bool) → Option TypeRef → Bool
base_ends ends None = true
base_ends ends (Some t) = ends t

abbrev pub fields_end : (TypeRef → Bool) → List Field → Bool
fields_end ends [] = true
fields_end ends (f ∷ fs) = ends f.of && fields_end ends fs

-- only a record of the module itself stands on its base and its fields
abbrev pub declared_ends : (TypeRef → Bool) → Bool → Option Desc → Bool
declared_ends ends own (Some (desc.Alias m t)) = ends t
declared_ends ends own (Some (desc.Array m n t)) = ends t
declared_ends ends own (Some (desc.Record r)) = cond own (base_ends ends r.base && fields_end ends r.fields) true
declared_ends ends own d = true

-- whether each chain of names from a type ends within so many steps
abbrev pub ends_in : (QName → Option Desc) → Module → ℕ → TypeRef → Bool
ends_in map m n (ref.Basic b) = true
ends_in map m zero (ref.Named q) = false
ends_in map m (suc n) (ref.Named q) = declared_ends (ends_in map m n) (is_own m q) (viewed map m q)

-- ---- rows

abbrev pub sum_in : (QName → Option Desc) → Module → ℕ → TypeRef → Sum
sum_in map m n t = record { words = kept (summed map m n t); ends = ends_in map m n t }

-- the words of each type in so many steps
abbrev pub row_at : (QName → Option Desc) → Module → ℕ → List Sum
row_at map m n = each (λ t. sum_in map m n (own_ref m.name t.name)) m.types

abbrev pub all_end : List Sum → Bool
all_end [] = true
all_end (s ∷ more) = s.ends && all_end more

-- the rows of each number of steps below this one
abbrev pub rows_below : (QName → Option Desc) → Module → ℕ → List (List Sum)
rows_below map m zero = []
rows_below map m (suc n) = rows_below map m n ++ row_at map m n ∷ []

-- the row of so many steps; where it was not made, the last one
abbrev pub row_in : List (List Sum) → ℕ → Option (List Sum)
row_in rows n = option_or (slice_get rows n) (slice_get rows (length rows - 1))

-- they have the row of each number of steps up to this one
abbrev pub Hold : (QName → Option Desc) → Module → List (List Sum) → ℕ → Type 0
Hold map m rows n = (k : ℕ) → k ≤ n → row_in rows k ≡ Some (row_at map m k)
