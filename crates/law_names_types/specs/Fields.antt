-- Fields of records, and the names of procedures that are bound to them.
use Rattle.std.specs.Prelude.{◌≡◌, ℕ, Bool, true, false, List, [], Option, Some, is_some, bytes_eq}
use Rattle.std.specs.List.{AllByRecursion, find}
use Rattle.ob_types.specs.declared.desc.Desc.{Desc}
use Rattle.ob_types.specs.declared.desc.Desc.TheVariants as desc
use Rattle.ob_types.specs.declared.desc.Field.{Field}
use Rattle.ob_types.specs.declared.typed.TypedType.{TypedType}
use Rattle.ob_rules.specs.Names.{Around, own_desc}
use Rattle.ob_rules.specs.Headings.{Head, BoundAs, bindings}

-- of a record: it has a field of that name
abbrev pub has_field : Option Desc → List ℕ → Bool
has_field (Some (desc.Record r)) y = is_some (find (λ (f : Field). bytes_eq f.name y) r.fields)
has_field d y = false

-- the first type of that name
abbrev pub found : List TypedType → List ℕ → Option TypedType
found ts x = find (λ (t : TypedType). bytes_eq t.name x) ts

-- which has a field of that name
abbrev pub field_at : List TypedType → List ℕ → List ℕ → Bool
field_at ts x y = has_field (own_desc (found ts x)) y

-- of a procedure that is bound to a record of the module: its record has no field of its name
abbrev pub IsFree : List ℕ → List TypedType → Head → Type 0
IsFree unit own h = h.forward ≡ false → (a : BoundAs) → h.bound ≡ Some a → bytes_eq a.owner.«module» unit ≡ true → field_at own a.owner.object h.name ≡ false

-- so it is of each, where what is bound keeps the rules
abbrev pub BoundAreFree : Type 0
BoundAreFree = (u : Around) (hs : List Head) → (bindings u hs).notes.broken ≡ [] → AllByRecursion (λ h. h.is_bound ≡ true → IsFree u.unit u.own h) hs
