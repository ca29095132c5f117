-- What is known around a part of a text, so that what is judged there is tied to the types that it names.
use Rattle.std.specs.Prelude.{◌≡◌, ◌⊎◌, [], Option, Some, None}
use Rattle.std.specs.List.{AllByRecursion}
use Rattle.ob_tree.specs.declared.names.QName.{QName}
use Rattle.ob_tree.specs.declared.ident.Mark.TheVariants as mark
use Rattle.ob_types.specs.declared.types.Basic.TheVariants as basic
use Rattle.ob_types.specs.declared.types.TypeRef.{TypeRef}
use Rattle.ob_types.specs.declared.types.TypeRef.TheVariants as ref
use Rattle.ob_types.specs.declared.desc.Desc.{Desc}
use Rattle.ob_types.specs.declared.desc.Desc.TheVariants as desc
use Rattle.ob_types.specs.declared.typed.Variable.{Variable}
use Rattle.ob_types.specs.Maps.{named_by, signature_types}
use Rattle.ob_rules.specs.declared.entity.Entity.{Entity}
use Rattle.ob_rules.specs.declared.entity.Entity.TheVariants as entity
use Rattle.ob_rules.specs.declared.entity.Received.{Received}
use Rattle.ob_rules.specs.Shapes.{Map}
use Rattle.ob_rules.specs.Names.{Around, map_of, out_string}
use Rattle.law_local_judged.specs.Agreement.{IsIn, AreIn}

-- a description without the members and the sizes of a record
abbrev pub core : Desc → Desc
core (desc.Record r) = desc.Record (record r { fields = []; methods = []; words = 0; procedures = 0 })
core d = d

-- the map says the same of the name, but for the members and the sizes of a record
abbrev pub Says : Map → QName → Desc → Type 0
Says map q d = (e : Desc) × ((map q ≡ Some e) × (core e ≡ core d))

-- the type of the parameter of Out.String
abbrev pub open_chars : Desc
open_chars = desc.OpenArray mark.Hidden (ref.Basic basic.Char)

-- Another map says the same of each name that this one has, but for what is built in.
abbrev pub SaysAll : Map → Map → Type 0
SaysAll other map = (q : QName) (d : Desc) → map q ≡ Some d → Says other q d ⊎ (d ≡ open_chars)

-- all types that a description names are among these
abbrev pub NamesIn : (QName → Type 0) → Desc → Type 0
NamesIn Held d = AreIn Held (named_by d)

-- the types of what a name means are among these, with those of parameters and results
abbrev pub MeansIn : (QName → Type 0) → Entity → Type 0
MeansIn Held (entity.Variable v t) = IsIn Held t
MeansIn Held (entity.TypeName t) = IsIn Held t
MeansIn Held (entity.Procedure q s) = AreIn Held (signature_types s)
MeansIn Held (entity.Forward q s) = AreIn Held (signature_types s)
MeansIn Held e = Unit {0}

abbrev pub GuardIn : (QName → Type 0) → Option TypeRef → Type 0
GuardIn Held None = Unit {0}
GuardIn Held (Some t) = IsIn Held t

-- Around a part of a text all types that are named, by what is known, by the types of the module and by what the imported modules
-- show, are held; the other map says of the types what is known of them; and the receiver of the procedure at hand is bound to an own type.
pub record IsSettled (map : Map) (Own Held : QName → Type 0) (u : Around) : Type 0 where
  pub says : SaysAll map (map_of u)
  pub named : (q : QName) (d : Desc) → map_of u q ≡ Some d → NamesIn Held d
  pub shown : (q : QName) (d : Desc) → u.shown q ≡ Some d → Held q × NamesIn Held d
  pub out : Held out_string
  pub known : AllByRecursion (λ k. MeansIn Held k.what) u.known
  pub guards : AllByRecursion (λ (g : Variable × Option TypeRef). GuardIn Held g.1) u.guards
  pub receiver : (r : Received) → u.receiver ≡ Some r → Own r.owner
