-- Bound procedures that are introduced once.
use Rattle.std.specs.Prelude.{◌≡◌, ◌⊎◌, ℕ, zero, suc, true, false, List, Option, Some, bytes_eq}
use Rattle.ob_tree.specs.declared.names.QName.{QName}
use Rattle.ob_types.specs.declared.types.TypeRef.{TypeRef}
use Rattle.ob_types.specs.declared.types.TypeRef.TheVariants as ref
use Rattle.ob_types.specs.declared.desc.Desc.{Desc}
use Rattle.ob_rules.specs.Shapes.{Map, base_record}
use Rattle.law_body_context.specs.Order.{IsBased}
use Rattle.law_methods_introduced.specs.Families.{Introduces}

-- the record type itself, or one of its bases, of so many
abbrev pub Line : Map → ℕ → QName → QName → Type 0
Line map zero q b = ⊥
Line map (suc n) q b = (q ≡ b) ⊎ ((c : QName) × ((base_record map q ≡ Some c) × Line map n c b))

-- of a record type of the module and its bases, one alone introduces a bound procedure of a name
abbrev pub AreOnce : Map → List ℕ → Type 0
AreOnce map unit = (q c b : QName) (x : List ℕ) → bytes_eq q.«module» unit ≡ true → Introduces map q x → base_record map q ≡ Some c → Line map 200 c b → Introduces map b x → ⊥

-- a type of another module
abbrev pub IsOther : List ℕ → TypeRef → Type 0
IsOther unit (ref.Basic b) = Unit {0}
IsOther unit (ref.Named q) = bytes_eq q.«module» unit ≡ false

-- the records of other modules have bases in other modules
abbrev pub ShowOthers : (QName → Option Desc) → List ℕ → Type 0
ShowOthers shown unit = (q : QName) (d : Desc) → bytes_eq q.«module» unit ≡ false → shown q ≡ Some d → IsBased (IsOther unit) d
