-- When what a map says is what a program declares, and what a program keeps.
use Rattle.std.specs.Prelude.{◌≡◌, ◌≢◌, ◌⊎◌, ℕ, List, [], ◌∷◌, Some, None, true}
use Rattle.std.specs.List.{AllByRecursion}
use Rattle.ob_tree.specs.declared.names.QName.{QName}
use Rattle.ob_tree.specs.declared.ident.Mark.{Mark}
use Rattle.ob_types.specs.declared.types.Basic.TheVariants as basic
use Rattle.ob_types.specs.declared.types.TypeRef.{TypeRef}
use Rattle.ob_types.specs.declared.types.TypeRef.TheVariants as ref
use Rattle.ob_types.specs.declared.desc.Desc.{Desc}
use Rattle.ob_types.specs.declared.desc.Desc.TheVariants as desc
use Rattle.ob_types.specs.declared.desc.RecordDesc.{RecordDesc}
use Rattle.ob_types.specs.declared.desc.Field.{Field}
use Rattle.ob_types.specs.declared.desc.Method.{Method}
use Rattle.ob_types.specs.Maps.{named_by, signature_types, IsHeld, IsWithin}
use Rattle.ob_types.specs.Relations.{Keeps}
use Rattle.ob_meaning.specs.Values.{Program, description}
use Rattle.law_simulation_relation.specs.Relation.{IsLength}
use Rattle.ob_rules.specs.Shapes.{same_name}
use Rattle.ob_rules.specs.Names.{out_string}
use Rattle.law_typing_forms.specs.Formed.{IsDeclared, IsVariableOf, IsProcedureOf, IsMethodOf}

abbrev pub IsOneOf : {A : Type 0} → List A → A → Type 0
IsOneOf [] x = ⊥
IsOneOf (y ∷ ys) x = (y ≡ x) ⊎ IsOneOf ys x

-- a field of that name and type is among them
pub record IsAmong (fs : List Field) (f : Field) : Type 0 where
  pub g : Field
  pub there : IsOneOf fs g
  pub name : g.name ≡ f.name
  pub of : g.of ≡ f.of

-- a bound procedure of that name, receiver and signature is among them
pub record IsBoundAmong (ms : List Method) (m : Method) : Type 0 where
  pub k : Method
  pub there : IsOneOf ms k
  pub name : k.name ≡ m.name
  pub receiver : k.receiver ≡ m.receiver
  pub signature : k.signature ≡ m.signature

-- A description of a record type says of it no more than its declaration: the same base, and of its fields and bound procedures each or
-- some, with their places and numbers or without.
pub record IsPartOf (r s : RecordDesc) : Type 0 where
  pub base : r.base ≡ s.base
  pub fields : AllByRecursion (λ f. IsAmong s.fields f) r.fields
  pub methods : AllByRecursion (λ m. IsBoundAmong s.methods m) r.methods

-- The description says what the program declares by that name: a variable, a procedure or a type. What no module declares is the type of
-- the parameter of Out.String.
abbrev pub IsSaid : Program → QName → Desc → Type 0
IsSaid program q (desc.Const v) = Unit {0}
IsSaid program q (desc.Var m t) = IsVariableOf program q t × IsDeclared t
IsSaid program q (desc.Proc s) = IsProcedureOf program q s × AllByRecursion IsDeclared (signature_types s)
IsSaid program q (desc.Alias m t) = (k : Mark) × (description program q ≡ Some (desc.Alias k t))
IsSaid program q (desc.Array m n t) = (k : Mark) × (description program q ≡ Some (desc.Array k n t))
IsSaid program q (desc.OpenArray m t) = ((same_name q out_string ≡ true) × (t ≡ ref.Basic basic.Char)) ⊎ ((k : Mark) × (description program q ≡ Some (desc.OpenArray k t)))
IsSaid program q (desc.Pointer m t) = (k : Mark) × (description program q ≡ Some (desc.Pointer k t))
IsSaid program q (desc.ProcType m s) = (k : Mark) × (description program q ≡ Some (desc.ProcType k s))
IsSaid program q (desc.Record r) = (s : RecordDesc) × ((description program q ≡ Some (desc.Record s)) × IsPartOf r s)

-- different names
abbrev pub IsFreshName : List ℕ → List Field → Type 0
IsFreshName x [] = Unit {0}
IsFreshName x (f ∷ fs) = (x ≢ f.name) × IsFreshName x fs

abbrev pub HaveNames : List Field → Type 0
HaveNames [] = Unit {0}
HaveNames (f ∷ fs) = IsFreshName f.name fs × HaveNames fs

-- each chain of types from one that a program declares on ends
abbrev pub ChainsEnd : Program → Type 0
ChainsEnd program = (q : QName) (d : Desc) → description program q ≡ Some d → (n : ℕ) × IsWithin (description program) n (ref.Named q)

-- The types that a program declares are sound: each type that one names is declared, each chain from one on ends, each keeps what it has
-- to; arrays have lengths, the fields of a record differ, its bound procedures are there, and no module is Out.
pub record IsSound (program : Program) : Type 0 where
  pub held : (q : QName) (d : Desc) → description program q ≡ Some d → AllByRecursion (λ t. IsHeld (description program) t) (named_by d)
  pub ends : (q : QName) (d : Desc) → description program q ≡ Some d → (n : ℕ) × IsWithin (description program) n (ref.Named q)
  pub keeps : (q : QName) (d : Desc) → description program q ≡ Some d → Keeps (description program) d
  pub lengths : (q : QName) (m : Mark) (n : ℕ) (t : TypeRef) → description program q ≡ Some (desc.Array m n t) → IsLength n
  pub fields : (q : QName) (r : RecordDesc) → description program q ≡ Some (desc.Record r) → HaveNames r.fields
  pub methods : (q : QName) (r : RecordDesc) → description program q ≡ Some (desc.Record r) → AllByRecursion (λ m. IsMethodOf program q m) r.methods
  pub out : description program out_string ≡ None
