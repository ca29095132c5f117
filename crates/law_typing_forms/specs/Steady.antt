-- Maps of types in which chains end, however long those through the fields of records are.
use Rattle.std.specs.Prelude.{◌≡◌, ℕ, [], Option, Some}
use Rattle.std.specs.Option.{option_map}
use Rattle.std.specs.List.{AllByRecursion}
use Rattle.ob_tree.specs.declared.names.QName.{QName}
use Rattle.ob_types.specs.declared.types.TypeRef.{TypeRef}
use Rattle.ob_types.specs.declared.desc.Desc.{Desc}
use Rattle.ob_types.specs.declared.desc.Desc.TheVariants as desc
use Rattle.ob_types.specs.Maps.{IsHeld, IsWithin, named_by}
use Rattle.ob_types.specs.Relations.{Keeps}

-- a record by its base alone
abbrev pub bare : Desc → Desc
bare (desc.Record r) = desc.Record (record r { fields = []; methods = [] })
bare d = d

abbrev pub without_members : (QName → Option Desc) → QName → Option Desc
without_members map q = option_map bare (map q)

-- Each type that a description names is held, each chain of types ends, those of aliases, elements and bases have at most 200 others, and each
-- description keeps what it has to. So are the types of modules of different ages: what a module sees through the field of another's record
-- alone may be nested deeper by now than the limit of depth allowed when it was compiled.
pub record IsSteady (map : QName → Option Desc) : Type 0 where
  pub held : (q : QName) (d : Desc) → map q ≡ Some d → AllByRecursion (λ t. IsHeld map t) (named_by d)
  pub ends : (t : TypeRef) → IsHeld map t → (n : ℕ) × IsWithin map n t
  pub lines : (t : TypeRef) → IsHeld map t → IsWithin (without_members map) 201 t
  pub keeps : (q : QName) (d : Desc) → map q ≡ Some d → Keeps map d
