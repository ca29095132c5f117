-- Modules in an order in which each stands over what those before it show.
use Rattle.std.specs.Prelude.{◌≡◌, ◌≢◌, List, [], ◌∷◌, ◌++◌, Option, Some, true}
use Rattle.std.specs.List.{AllByRecursion}
use Rattle.ob_tree.specs.declared.names.QName.{QName}
use Rattle.ob_types.specs.declared.desc.Desc.{Desc}
use Rattle.ob_types.specs.declared.desc.Desc.TheVariants as desc
use Rattle.ob_types.specs.Maps.{is_type}
use Rattle.ob_types.specs.Relations.{IsGrounded}
use Rattle.ob_types.specs.TypedSyntax.{Module}
use Rattle.ob_meaning.specs.Values.{Program, description}
use Rattle.ob_layout.specs.LaidOut.{viewed}

-- a description without the members of a record
abbrev pub bare : Desc → Desc
bare (desc.Record r) = desc.Record (record r { fields = []; methods = [] })
bare d = d

-- A module stands over those before it: no other has its name, the types that it sees of others are as those declare them, but for the
-- members of records, and the map of its own types over them is grounded.
pub record StandsOver (before : Program) (m : Module) : Type 0 where
  pub others : QName → Option Desc
  pub name : AllByRecursion (λ k. k.name ≢ m.name) before
  pub types : AllByRecursion (λ t. is_type t.desc ≡ true) m.types
  pub shown : (q : QName) (d : Desc) → others q ≡ Some d → is_type d ≡ true → (e : Desc) × ((description before q ≡ Some e) × (bare e ≡ bare d))
  pub grounded : IsGrounded (viewed others m)

abbrev pub StandInOrder : Program → List Module → Type 0
StandInOrder before [] = Unit {0}
StandInOrder before (m ∷ ms) = StandsOver before m × StandInOrder (before ++ m ∷ []) ms
