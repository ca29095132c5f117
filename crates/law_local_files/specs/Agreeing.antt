-- When two maps of descriptions agree on what a module uses.
use Rattle.std.specs.Prelude.{◌≡◌, ℕ, true, List, Option}
use Rattle.std.specs.Option.{option_map}
use Rattle.ob_tree.specs.declared.names.QName.{QName}
use Rattle.ob_types.specs.declared.types.TypeRef.{TypeRef}
use Rattle.ob_types.specs.declared.types.TypeRef.TheVariants as ref
use Rattle.ob_types.specs.declared.desc.Desc.{Desc}
use Rattle.ob_types.specs.declared.desc.Desc.TheVariants as desc
use Rattle.ob_types.specs.TypedSyntax.{Module}
use Rattle.ob_uses_roots.specs.Counts.{counts_of_module}
use Rattle.ob_uses_roots.specs.Noted.{names_of, shape_starts, layout_starts}
use Rattle.ob_uses.specs.declared.way.Way.TheVariants as way
use Rattle.ob_uses.specs.Closed.{is_among}
use Rattle.ob_uses.specs.Reaching.{Reaches}
use Rattle.ob_uses.specs.Ways.{leads_by}

abbrev pub Map : Type 0
Map = QName → Option Desc

-- two maps say the same of each of these names
abbrev pub AgreeOn : (QName → Type 0) → Map → Map → Type 0
AgreeOn P map other = (q : QName) → P q → map q ≡ other q

-- NEAR a module, in the view from it: the names whose shapes count for its uses
abbrev pub IsNear : Map → Module → QName → Type 0
IsNear map m = Reaches (leads_by way.Near map m.name) (names_of (shape_starts (counts_of_module map m)))

-- FLAT: the names through which its layouts go
abbrev pub IsFlat : Map → Module → QName → Type 0
IsFlat map m = Reaches (leads_by way.Flat map m.name) (names_of (layout_starts (counts_of_module map m)))

-- a description as a shape says it, without a record's words and the number of its bound procedures
abbrev pub as_shape : Desc → Desc
as_shape (desc.Record r) = desc.Record (record r { words = 0; procedures = 0 })
as_shape d = d

-- of a named type the name is so; a basic type has none
abbrev pub On : (QName → Type 0) → TypeRef → Type 0
On P (ref.Basic b) = Unit {0}
On P (ref.Named q) = P q

-- Two maps agree for a module named so: on the shapes of names, and on what those lead to; and, of fewer names, on layouts too, and on
-- what those go through.
pub record Agree (map other : Map) (m : List ℕ) (Shapes Layouts : QName → Type 0) : Type 0 where
  pub shapes : (q : QName) → Shapes q → option_map as_shape (map q) ≡ option_map as_shape (other q)
  pub near : (p q : QName) → Shapes p → is_among (leads_by way.Near map m p) q ≡ true → Shapes q
  pub layouts : (q : QName) → Layouts q → map q ≡ other q
  pub flat : (p q : QName) → Layouts p → is_among (leads_by way.Flat map m p) q ≡ true → Layouts q
