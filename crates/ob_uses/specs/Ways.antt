-- The three ways in which types are reached from types.
use Rattle.std.specs.Prelude.{◌≡◌, ◌⊎◌, ℕ, Bool, true, false, List, [], Option, Some, None, not, ◌&&◌, codes, bytes_eq}
use Rattle.std.specs.List.{filter, list_any}
use Rattle.std.specs.BTreeMap.{is_at}
use Rattle.ob_tree.specs.declared.names.QName.{QName}
use Rattle.ob_types.specs.declared.types.TypeRef.{TypeRef}
use Rattle.ob_types.specs.declared.desc.Desc.{Desc}
use Rattle.ob_types.specs.declared.face.Aspect.{Aspect}
use Rattle.ob_uses_roots.specs.Noted.{names_of}
use Rattle.ob_uses.specs.declared.pair.Pair.{Pair}
use Rattle.ob_uses.specs.declared.way.Way.{Way}
use Rattle.ob_uses.specs.declared.way.Way.TheVariants as way
use Rattle.ob_uses.specs.Closed.{is_among, of_found}
use Rattle.ob_uses.specs.Order.{by_pair}
use Rattle.ob_uses.specs.Objects.{shown_types}
use Rattle.ob_uses.specs.Uses.{near_types, flat_types}
use Rattle.ob_uses.specs.Reaching.{Reaches}

-- a name of the module
abbrev pub is_of : List ℕ → QName → Bool
is_of m q = bytes_eq q.«module» m

-- a name of another module, but of Out
abbrev pub is_foreign : List ℕ → QName → Bool
is_foreign m q = not (is_of m q) && not (bytes_eq q.«module» (codes "Out"))

-- the names among types, or those of the module alone
abbrev pub type_names : (alone : Bool) → List ℕ → List TypeRef → List QName
type_names true m ts = filter (is_of m) (names_of ts)
type_names false m ts = names_of ts

-- of what the interface shows, the types of the module alone
abbrev pub is_alone : Way → Bool
is_alone way.Near = false
is_alone way.Flat = false
is_alone way.Shown = true

abbrev pub types_by : Way → (own : Bool) → Desc → List TypeRef
types_by way.Near own d = near_types d
types_by way.Flat own d = flat_types own d
types_by way.Shown own d = shown_types d

-- what one description leads to
abbrev pub desc_leads : Way → List ℕ → QName → Desc → List QName
desc_leads w m q d = type_names (is_alone w) m (types_by w (is_of m q) d)

abbrev pub leads_by : Way → (QName → Option Desc) → List ℕ → QName → List QName
leads_by w map m q = of_found (desc_leads w m q) (map q)

abbrev pub paired : Aspect → QName → Pair
paired a q = record { object = q; aspect = a }

abbrev pub has_pair : List Pair → Pair → Bool
has_pair ps p = list_any (is_at (by_pair p)) ps

-- The pairs of this aspect of all names that are reached, and no others.
pub record AreReached (leads : QName → List QName) (starts : List QName) (a : Aspect) (ps : List Pair) : Type 0 where
  pub right : (p : Pair) → has_pair ps p ≡ true → (p.aspect ≡ a) × Reaches leads starts p.object
  pub whole : (q : QName) → Reaches leads starts q → has_pair ps (paired a q) ≡ true

-- All names that the map holds are among these.
abbrev pub AreAllNames : (QName → Option Desc) → List QName → Type 0
AreAllNames map names = (q : QName) → (map q ≡ None) ⊎ (is_among names q ≡ true)
