-- Members of records while procedures are bound to them, and what headings redefine.
use Rattle.std.specs.Prelude.{◌≡◌, ℕ, Bool, true, List, [], Option, Some, None, bytes_eq}
use Rattle.std.specs.List.{AllByRecursion}
use Rattle.ob_tree.specs.declared.names.QName.{QName}
use Rattle.ob_types.specs.declared.desc.Method.{Method}
use Rattle.ob_types.specs.declared.typed.TypedType.{TypedType}
use Rattle.ob_rules.specs.Shapes.{Map, Member, AMethod, member}
use Rattle.ob_rules.specs.Names.{Around, map_of}
use Rattle.ob_rules.specs.Headings.{BoundAs, Head, with_method, change_type, counted, bindings}
use Rattle.ob_rules.specs.Declarations.{Written_procedure, headings_in_order}
use Rattle.law_local_judged.specs.Said.{SignatureIn}
use Rattle.law_local_judged.specs.Headed.{BindingsIn}

-- the map where these are the types of the module at hand
abbrev pub with_own : Around → List TypedType → Map
with_own u own = map_of (record u { own = own })

-- WHERE A PROCEDURE IS BOUND to a record of the module that has no member of its name, the members that records had are the same.
abbrev pub MembersStay : Type 0
MembersStay = (u : Around) (own : List TypedType) (owner : QName) (m : Method) → bytes_eq owner.«module» u.unit ≡ true → member (with_own u own) owner m.name ≡ None →
    (q : QName) (x : List ℕ) (r : Member) → member (with_own u own) q x ≡ Some r → member (with_own u (change_type owner.object (λ r. with_method r m) own)) q x ≡ Some r

-- what is bound is bound to a record of the module of this name
abbrev pub IsOwned : List ℕ → Option BoundAs → Type 0
IsOwned unit None = Unit {0}
IsOwned unit (Some b) = bytes_eq b.owner.«module» unit ≡ true

-- the parameters and the result of the bound procedure that the map has under the name of a heading, for its record, are among the names
abbrev pub RedefinesIn : (QName → Type 0) → Map → Head → Option BoundAs → Type 0
RedefinesIn P map h None = Unit {0}
RedefinesIn P map h (Some b) = (owner : QName) (m : Method) → member map b.owner h.name ≡ Some (AMethod owner m) → SignatureIn P m.signature

-- WHAT HEADINGS REDEFINE is among these names while procedures are bound, where it is so when all that is bound is known.
abbrev pub RedefinedAreFound : Type 0
RedefinedAreFound = (names : QName → Bool) (u : Around) (hs : List Head) → AllByRecursion (λ (h : Head). IsOwned u.unit h.bound) (counted hs) →
    AllByRecursion (λ (h : Head). RedefinesIn (λ q. names q ≡ true) (with_own u (bindings u hs).own) h h.bound) (counted hs) → BindingsIn (λ q. names q ≡ true) u hs

-- EACH HEADING is bound to a record of the module at hand, if to any.
abbrev pub HeadsAreOwned : Type 0
HeadsAreOwned = (u : Around) (ps : List Written_procedure) → AllByRecursion (λ (h : Head). IsOwned u.unit h.bound) (headings_in_order ps (record { around = u; before = [] })).before
