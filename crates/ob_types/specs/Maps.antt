-- Maps of descriptions: what a type stands on, and which maps are grounded.
use Rattle.std.specs.Prelude.{◌≡◌, ◌⊎◌, ℕ, zero, suc, Bool, true, false, List, [], ◌∷◌, ◌++◌, map as each, Option, Some, None, Contains, MatchOption, IsTrue}
use Rattle.std.specs.List.{flat_map, AllByRecursion}
use Rattle.ob_tree.specs.declared.names.QName.{QName}
use Rattle.ob_types.specs.declared.types.TypeRef.{TypeRef}
use Rattle.ob_types.specs.declared.types.TypeRef.TheVariants as types
use Rattle.ob_types.specs.declared.types.Signature.{Signature}
use Rattle.ob_types.specs.declared.desc.Desc.{Desc}
use Rattle.ob_types.specs.declared.desc.Desc.TheVariants as desc

-- there is a list of all names that the map holds
abbrev pub IsFinite : (QName → Option Desc) → Type 0
IsFinite types = (names : List QName) × ((q : QName) → (types q ≡ None) ⊎ Contains names q)

-- a description of a type
abbrev pub is_type : Desc → Bool
is_type (desc.Const v) = false
is_type (desc.Var m t) = false
is_type (desc.Proc s) = false
is_type d = true

abbrev pub listed : {A : Type 0} → Option A → List A
listed None = []
listed (Some x) = x ∷ []

-- the types of the parameters and of the result
abbrev pub signature_types : Signature → List TypeRef
signature_types s = each (λ p. p.1) s.params ++ listed s.result

-- the types on which a type stands: the target of an alias, the element of an array, the base and the fields of a record, the parameters and the result of a procedure type. A pointer stands on none.
abbrev pub stands_on : Desc → List TypeRef
stands_on (desc.Alias m t) = t ∷ []
stands_on (desc.Array m n t) = t ∷ []
stands_on (desc.OpenArray m t) = t ∷ []
stands_on (desc.ProcType m s) = signature_types s
stands_on (desc.Record r) = listed r.base ++ each (λ f. f.of) r.fields
stands_on d = []

-- all types that a description names
abbrev pub named_by : Desc → List TypeRef
named_by (desc.Var m t) = t ∷ []
named_by (desc.Proc s) = signature_types s
named_by (desc.Pointer m t) = t ∷ []
named_by (desc.Record r) = (listed r.base ++ each (λ f. f.of) r.fields) ++ flat_map (λ m. signature_types m.signature) r.methods
named_by d = stands_on d

-- a basic type, or one that the map holds
abbrev pub IsHeld : (QName → Option Desc) → TypeRef → Type 0
IsHeld map (types.Basic b) = Unit {0}
IsHeld map (types.Named q) = MatchOption (map q) ⊥ (λ d. IsTrue (is_type d))

-- the type is held, and each chain from it on, in which each type stands on the next, has at most n types; basic types do not count
unfoldable pub IsWithin : (QName → Option Desc) → ℕ → TypeRef → Type 0
IsWithin map n (types.Basic b) = Unit {0}
IsWithin map zero (types.Named q) = ⊥
IsWithin map (suc n) (types.Named q) = MatchOption (map q) ⊥ (λ d. IsTrue (is_type d) × AllByRecursion (λ t. IsWithin map n t) (stands_on d))
