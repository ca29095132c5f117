-- Headings of procedures with other interfaces around.
use Rattle.std.specs.Prelude.{◌≡◌, List, [], ◌∷◌, Option, Some, None}
use Rattle.std.specs.List.{AllByRecursion, filter}
use Rattle.ob_tree.specs.declared.names.QName.{QName}
use Rattle.ob_tree.specs.declared.decl.Heading.{Heading}
use Rattle.ob_types.specs.declared.types.Mode.{Mode}
use Rattle.ob_types.specs.declared.types.TypeRef.{TypeRef}
use Rattle.ob_types.specs.declared.desc.Desc.{Desc}
use Rattle.ob_types.specs.declared.desc.Method.{Method}
use Rattle.ob_types.specs.declared.typed.TypedType.{TypedType}
use Rattle.ob_rules.specs.declared.entity.Known.{Known}
use Rattle.ob_rules.specs.Types.{Parameters}
use Rattle.ob_rules.specs.Judged.{no_notes}
use Rattle.ob_rules.specs.Shapes.{AMethod, member}
use Rattle.ob_rules.specs.Names.{Around, map_of}
use Rattle.ob_rules.specs.Headings.{BoundAs, heading_of, Head, Heads, Binding, counted, bind_one, bind_all, of_record, reversed}
use Rattle.ob_rules.specs.Declarations.{Written_procedure}
use Rattle.law_local_judged.specs.Agreement.{IsIn}
use Rattle.law_local_judged.specs.Said.{SaidIn, SignatureIn}
use Rattle.law_local_judged.specs.Followed.{beside, EntityIn, TypeIn, Agrees}
use Rattle.law_local_judged.specs.Declared.{MadeIn}

-- the types of parameters and result, and what is near the types that they make, are among the names
abbrev pub ParametersIn : (QName → Type 0) → Parameters → Type 0
ParametersIn P p = (AllByRecursion (λ (x : Mode × TypeRef). IsIn P x.1) p.signature.params × TypeIn P p.signature.result) × MadeIn P p.made

abbrev pub KnownIn : (QName → Type 0) → List Known → Type 0
KnownIn P ks = AllByRecursion (λ k. EntityIn P k.what) ks

abbrev pub BoundIn : (QName → Type 0) → Option BoundAs → Type 0
BoundIn P None = Unit {0}
BoundIn P (Some b) = IsIn P b.of × P b.owner

abbrev pub ThereIn : (QName → Type 0) → Option Parameters → Type 0
ThereIn P None = ⊥
ThereIn P (Some p) = ParametersIn P p

-- its heading is one of the grammar
abbrev pub FromGrammar : Written_procedure → Type 0
FromGrammar p = (h : Heading) × (p.heading ≡ heading_of h)

-- the heading keeps all rules, and what it says is among the names
pub record HeadSaid (P : QName → Type 0) (h : Head) : Type 0 where
  pub parameters : (p : Parameters) × (h.parameters ≡ Some p)
  pub notes : SaidIn P h.notes

-- what it comes to is among the names
pub record HeadIn (P : QName → Type 0) (h : Head) : Type 0 where
  pub parameters : ThereIn P h.parameters
  pub bound : BoundIn P h.bound
  pub inside : KnownIn P h.inside
  pub known : KnownIn P h.known

-- Headings in order come to the same there, and what stands around what follows them agrees again.
pub record HeadsSame (P : QName → Type 0) (shown : QName → Option Desc) (x y : Heads) : Type 0 where
  pub before : y.before ≡ x.before
  pub around : y.around ≡ beside x.around shown
  pub agrees : Agrees P x.around shown
  pub heads : AllByRecursion (HeadIn P) x.before

-- the parameters and the result of the bound procedure that a heading redefines, where it redefines one, are among the names
abbrev pub StepIn : (QName → Type 0) → Around → Binding → Head → Option BoundAs → Type 0
StepIn P u s h None = Unit {0}
StepIn P u s h (Some b) = (owner : QName) (m : Method) → member (map_of (record u { own = s.own })) b.owner h.name ≡ Some (AMethod owner m) → SignatureIn P m.signature

-- those of one record, in their order
abbrev pub StepsIn : (QName → Type 0) → Around → Binding → List Head → Type 0
StepsIn P u s [] = Unit {0}
StepsIn P u s (h ∷ hs) = StepIn P u s h h.bound × StepsIn P u (bind_one u s h h.bound) hs

-- those of each record
abbrev pub RecordsIn : (QName → Type 0) → Around → List Head → Binding → List TypedType → Type 0
RecordsIn P u hs s [] = Unit {0}
RecordsIn P u hs s (t ∷ ts) = StepsIn P u s (filter (of_record t.name) hs) × RecordsIn P u hs (bind_all u s (filter (of_record t.name) hs)) ts

abbrev pub BindingsIn : (QName → Type 0) → Around → List Head → Type 0
BindingsIn P u hs = RecordsIn P u (counted hs) (record { own = u.own; bound = []; notes = no_notes }) (reversed u.own)
