-- What is known around a part of a module, as far as types and constants go.
use Rattle.std.specs.Prelude.{◌≡◌, ℕ, ◌≤◌, Bool, true, false, List, Option, bytes_eq, pos, MatchOption, IsTrue}
use Rattle.std.specs.List.{AllByRecursion}
use Rattle.ob_tree.specs.declared.names.QName.{QName}
use Rattle.ob_types.specs.declared.types.TypeRef.{TypeRef}
use Rattle.ob_types.specs.declared.types.TypeRef.TheVariants as ref
use Rattle.ob_types.specs.declared.value.Value.{Value}
use Rattle.ob_types.specs.declared.value.Value.TheVariants as literal
use Rattle.ob_types.specs.declared.desc.Desc.{Desc}
use Rattle.ob_types.specs.declared.desc.Desc.TheVariants as desc
use Rattle.ob_types.specs.declared.typed.TypedType.{TypedType}
use Rattle.ob_types.specs.Maps.{is_type}
use Rattle.ob_rules.specs.declared.entity.Entity.{Entity}
use Rattle.ob_rules.specs.declared.entity.Entity.TheVariants as entity
use Rattle.ob_rules.specs.Shapes.{same_name, is_structured}
use Rattle.ob_rules.specs.Names.{Around, map_of, out_string}
use Rattle.law_typing_forms.specs.Said.{IsOneOf}

-- a type of that name is among them
abbrev pub HasName : List TypedType → List ℕ → Type 0
HasName ts x = (t : TypedType) × (IsOneOf ts t × (t.name ≡ x))

-- no name is lost
abbrev pub Grows : List TypedType → List TypedType → Type 0
Grows own more = (x : List ℕ) → HasName own x → HasName more x

abbrev pub IsTypeDesc : Option Desc → Type 0
IsTypeDesc o = MatchOption o ⊥ (λ d. IsTrue (is_type d))

abbrev pub StandsBy : Bool → (QName → Option Desc) → List TypedType → QName → Type 0
StandsBy true shown own q = HasName own q.object
StandsBy false shown own q = IsTypeDesc (shown q)

-- a basic type, one of these types of the module, or one that another module shows
abbrev pub Stands : List ℕ → (QName → Option Desc) → List TypedType → TypeRef → Type 0
Stands unit shown own (ref.Basic b) = Unit {0}
Stands unit shown own (ref.Named q) = (same_name q out_string ≡ false) × StandsBy (bytes_eq q.«module» unit) shown own q

module _ (IsConstant : Value → Type 0) where
  -- the length of an array is a constant, and not 0
  abbrev pub LengthIs : Desc → Type 0
  LengthIs (desc.Array m n t) = IsConstant (literal.Int (pos n)) × (1 ≤ n)
  LengthIs d = Unit {0}

  -- a description of a type
  pub record IsDescribed (t : TypedType) : Type 0 where
    pub type : is_type t.desc ≡ true
    pub length : LengthIs t.desc

  module _ (unit : List ℕ) (shown : QName → Option Desc) where
    -- types stand, constants are constants, and the module does not import itself
    abbrev pub EntityStands : List TypedType → Entity → Type 0
    EntityStands own (entity.Constant v) = IsConstant v
    EntityStands own (entity.TypeName t) = Stands unit shown own t
    EntityStands own (entity.Module n) = bytes_eq n unit ≡ false
    EntityStands own e = Unit {0}

    -- anywhere in the module
    pub record Knows (u : Around) : Type 0 where
      pub unit_is : u.unit ≡ unit
      pub shown_is : u.shown ≡ shown
      pub own : AllByRecursion IsDescribed u.own
      pub known : AllByRecursion (λ k. EntityStands u.own k.what) u.known

    -- no array and no record, where the type is named
    pub record IsPlain (t : TypeRef) : Type 0 where
      pub u : Around
      pub knows : Knows u
      pub stands : Stands unit shown u.own t
      pub plain : is_structured (map_of u) t ≡ false
