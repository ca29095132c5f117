-- Types in the order in which they are made.
use Rattle.std.specs.Prelude.{◌≡◌, ℕ, List, [], ◌∷◌, Option}
use Rattle.ob_tree.specs.declared.names.QName.{QName}
use Rattle.ob_types.specs.declared.types.TypeRef.{TypeRef}
use Rattle.ob_types.specs.declared.desc.Desc.{Desc}
use Rattle.ob_types.specs.declared.desc.Desc.TheVariants as desc
use Rattle.ob_types.specs.declared.typed.TypedType.{TypedType}
use Rattle.law_typing.specs.Makes.{IfThere}
use Rattle.law_body_context.specs.Knows.{Stands}

-- no procedure is bound to it yet
abbrev pub IsFresh : Desc → Type 0
IsFresh (desc.Record r) = r.methods ≡ []
IsFresh d = Unit {0}

-- what an alias is equated to stands, and so does the base of a record
abbrev pub IsBased : (TypeRef → Type 0) → Desc → Type 0
IsBased S (desc.Alias m t) = S t
IsBased S (desc.Record r) = IfThere S r.base
IsBased S d = Unit {0}

-- it is made where these types stand
pub record IsOver (S : TypeRef → Type 0) (t : TypedType) : Type 0 where
  pub based : IsBased S t.desc
  pub fresh : IsFresh t.desc

-- the latest first, each over those behind it
abbrev pub AreInOrder : List ℕ → (QName → Option Desc) → List TypedType → Type 0
AreInOrder unit shown [] = Unit {0}
AreInOrder unit shown (t ∷ ts) = IsOver (Stands unit shown ts) t × AreInOrder unit shown ts
