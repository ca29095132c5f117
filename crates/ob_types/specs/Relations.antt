-- How types stand to each other.
use Rattle.std.specs.Prelude.{◌≡◌, Bool, true, false, List, [], ◌∷◌, Option, Some, None, MatchOption, IfSome, IsTrue}
use Rattle.std.specs.List.{AllByRecursion}
use Rattle.ob_tree.specs.declared.names.QName.{QName}
use Rattle.ob_tree.specs.declared.ident.Mark.{Mark}
use Rattle.ob_types.specs.declared.types.Mode.{Mode}
use Rattle.ob_types.specs.declared.types.TypeRef.{TypeRef}
use Rattle.ob_types.specs.declared.types.TypeRef.TheVariants as types
use Rattle.ob_types.specs.declared.types.Signature.{Signature}
use Rattle.ob_types.specs.declared.desc.Desc.{Desc}
use Rattle.ob_types.specs.declared.desc.Desc.TheVariants as desc
use Rattle.ob_types.specs.declared.desc.RecordDesc.{RecordDesc}
use Rattle.ob_types.specs.Maps.{IsHeld, IsWithin, named_by}

abbrev pub is_alias : Desc → Bool
is_alias (desc.Alias m t) = true
is_alias d = false

-- no alias
abbrev pub IsOwn : (QName → Option Desc) → TypeRef → Type 0
IsOwn map (types.Basic b) = Unit {0}
IsOwn map (types.Named q) = MatchOption (map q) (Unit {0}) (λ d. is_alias d ≡ false)

-- t is u itself, which is no alias, or is equated to what stands for u
pub data StandsFor (map : QName → Option Desc) : TypeRef → TypeRef → Type 0 where
  itself : {t : TypeRef} → IsOwn map t → StandsFor map t t
  equated : {q : QName} {m : Mark} {t u : TypeRef} → map q ≡ Some (desc.Alias m t) → StandsFor map t u → StandsFor map (types.Named q) u

-- Two types are the same where they come from one type.
abbrev pub Same : (QName → Option Desc) → TypeRef → TypeRef → Type 0
Same map a b = (u : TypeRef) × (StandsFor map a u × StandsFor map b u)

-- the same result, or none
abbrev pub SameResult : (QName → Option Desc) → Option TypeRef → Option TypeRef → Type 0
SameResult map None None = Unit {0}
SameResult map None (Some b) = ⊥
SameResult map (Some a) None = ⊥
SameResult map (Some a) (Some b) = Same map a b

mutual
  -- Two types are equal where they are the same, or both open arrays of equal elements, or both procedure types with matching parameter lists.
  pub data Equal (map : QName → Option Desc) : TypeRef → TypeRef → Type 0 where
    are_same : {a b : TypeRef} → Same map a b → Equal map a b
    arrays : {a b s t : TypeRef} {p q : QName} {m k : Mark} → StandsFor map a (types.Named p) → map p ≡ Some (desc.OpenArray m s) → StandsFor map b (types.Named q) → map q ≡ Some (desc.OpenArray k t) → Equal map s t → Equal map a b
    procedures : {a b : TypeRef} {s t : Signature} {p q : QName} {m k : Mark} → StandsFor map a (types.Named p) → map p ≡ Some (desc.ProcType m s) → StandsFor map b (types.Named q) → map q ≡ Some (desc.ProcType k t) → EqualParams map s.params t.params → SameResult map s.result t.result → Equal map a b

  -- equally many parameters, pairwise of the same mode and of equal types
  pub data EqualParams (map : QName → Option Desc) : List (Mode × TypeRef) → List (Mode × TypeRef) → Type 0 where
    no_params : EqualParams map [] []
    one_more : {k : Mode} {a b : TypeRef} {ps qs : List (Mode × TypeRef)} → Equal map a b → EqualParams map ps qs → EqualParams map ((k, a) ∷ ps) ((k, b) ∷ qs)

-- Parameter lists match where the parameters are equal and the results the same, or none.
abbrev pub Matches : (QName → Option Desc) → Signature → Signature → Type 0
Matches map s t = EqualParams map s.params t.params × SameResult map s.result t.result

-- A type extends the same type, and what its base extends; a pointer extends a pointer where what it points to extends what the other points to.
pub data Extends (map : QName → Option Desc) : TypeRef → TypeRef → Type 0 where
  same : {a b : TypeRef} → Same map a b → Extends map a b
  base : {a b c : TypeRef} {q : QName} {r : RecordDesc} → StandsFor map a (types.Named q) → map q ≡ Some (desc.Record r) → r.base ≡ Some c → Extends map c b → Extends map a b
  pointers : {a b s t : TypeRef} {p q : QName} {m k : Mark} → StandsFor map a (types.Named p) → map p ≡ Some (desc.Pointer m s) → StandsFor map b (types.Named q) → map q ≡ Some (desc.Pointer k t) → Extends map s t → Extends map a b

-- through aliases, a type of this kind
abbrev pub Is : (QName → Option Desc) → (Desc → Bool) → TypeRef → Type 0
Is map kind t = (q : QName) × (StandsFor map t (types.Named q) × MatchOption (map q) ⊥ (λ d. IsTrue (kind d)))

abbrev pub is_record : Desc → Bool
is_record (desc.Record r) = true
is_record d = false

-- what a pointer may point to
abbrev pub is_structure : Desc → Bool
is_structure (desc.Record r) = true
is_structure (desc.Array m n t) = true
is_structure (desc.OpenArray m t) = true
is_structure d = false

abbrev pub is_open : Desc → Bool
is_open (desc.OpenArray m t) = true
is_open d = false

-- a result, which is neither record nor array
abbrev pub IsPlainResult : (QName → Option Desc) → Signature → Type 0
IsPlainResult map s = IfSome s.result (λ t. Is map is_structure t → ⊥)

-- what a description alone has to keep: a base is a record, a pointer's base a record or array, open arrays stand as pointer bases and parameters alone and have no open elements, results are neither records nor arrays
abbrev pub Keeps : (QName → Option Desc) → Desc → Type 0
Keeps map (desc.Const v) = Unit {0}
Keeps map (desc.Var m t) = Is map is_open t → ⊥
Keeps map (desc.Proc s) = IsPlainResult map s
Keeps map (desc.Alias m t) = Is map is_open t → ⊥
Keeps map (desc.Array m n t) = Is map is_open t → ⊥
Keeps map (desc.OpenArray m t) = Is map is_open t → ⊥
Keeps map (desc.Pointer m t) = Is map is_structure t
Keeps map (desc.ProcType m s) = IsPlainResult map s
Keeps map (desc.Record r) = IfSome r.base (Is map is_record) × (AllByRecursion (λ f. Is map is_open f.of → ⊥) r.fields × AllByRecursion (λ m. IsPlainResult map m.signature) r.methods)

-- A map of types is grounded where each type that a description names is held, no type stands on itself or on a chain of more than 200 others, and each description keeps what it has to.
pub record IsGrounded (map : QName → Option Desc) : Type 0 where
  pub held : (q : QName) (d : Desc) → map q ≡ Some d → AllByRecursion (λ t. IsHeld map t) (named_by d)
  pub chains : (t : TypeRef) → IsHeld map t → IsWithin map 201 t
  pub keeps : (q : QName) (d : Desc) → map q ≡ Some d → Keeps map d
