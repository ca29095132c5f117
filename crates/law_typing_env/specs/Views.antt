-- A module of a program as the rules know it, and as its code knows it.
use Rattle.std.specs.Prelude.{◌≡◌, List, map as each, Option}
use Rattle.std.specs.List.{AllByRecursion}
use Rattle.ob_tree.specs.declared.names.QName.{QName}
use Rattle.ob_types.specs.declared.desc.Desc.{Desc}
use Rattle.ob_types.specs.declared.desc.Desc.TheVariants as desc
use Rattle.ob_types.specs.declared.desc.RecordDesc.{RecordDesc}
use Rattle.ob_types.specs.declared.typed.TypedType.{TypedType}
use Rattle.ob_types.specs.TypedSyntax.{Module}
use Rattle.ob_meaning.specs.Values.{Program}
use Rattle.ob_layout.specs.LaidOut.{laid_type}
use Rattle.ob_env.specs.Faces.{Face}
use Rattle.ob_env.specs.Shown.{shown}
use Rattle.ob_rules.specs.Names.{Around}
use Rattle.law_typing_forms.specs.Said.{IsOneOf, IsPartOf, HaveNames}
use Rattle.law_typing_env.specs.Ages.{AreShown}

-- the fields of a record differ
abbrev pub FieldsDiffer : Desc → Type 0
FieldsDiffer (desc.Record r) = HaveNames r.fields
FieldsDiffer d = Unit {0}

-- a module is the checked one with its records laid out, as these types say
pub record IsLaid (types : QName → Option Desc) (checked m : Module) : Type 0 where
  pub name : m.name ≡ checked.name
  pub types_are : m.types ≡ each (laid_type types checked) checked.types
  pub fields : AllByRecursion (λ t. FieldsDiffer t.desc) checked.types

-- of a record type no more than another description says, of another type the same
abbrev pub SaysNoMore : Desc → Desc → Type 0
SaysNoMore (desc.Record r) d = (s : RecordDesc) × ((d ≡ desc.Record s) × IsPartOf r s)
SaysNoMore e d = e ≡ d

-- one of these types, perhaps before procedures are bound to it
pub record IsEarly (ts : List TypedType) (t : TypedType) : Type 0 where
  pub s : TypedType
  pub there : IsOneOf ts s
  pub name : s.name ≡ t.name
  pub says : SaysNoMore t.desc s.desc

-- What stands around a part of a module of the program: the interfaces of one age, and types of the module as it was checked, or before
-- procedures are bound to them.
pub record IsAround {K : Type 0} (program : Program) (faces : List (Face K)) (u : Around) : Type 0 where
  pub m : Module
  pub checked : Module
  pub types : QName → Option Desc
  pub there : IsOneOf program m
  pub laid : IsLaid types checked m
  pub unit : u.unit ≡ m.name
  pub own : AllByRecursion (IsEarly checked.types) u.own
  pub interfaces : u.shown ≡ shown faces
  pub age : AreShown program faces
