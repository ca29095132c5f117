-- The relations as they are computed, by chains of at most so many steps.
use Rattle.std.specs.Prelude.{ℕ, zero, suc, Bool, true, false, ◌&&◌, ◌||◌, List, [], ◌∷◌, Option, Some, None, bytes_eq, nat_eq}
use Rattle.ob_tree.specs.declared.names.QName.{QName}
use Rattle.ob_types.specs.declared.types.Basic.{Basic}
use Rattle.ob_types.specs.declared.types.Basic.TheVariants.{Boolean, Char, ShortInt, Integer, LongInt, Set}
use Rattle.ob_types.specs.declared.types.Mode.{Mode}
use Rattle.ob_types.specs.declared.types.Mode.TheVariants as mode
use Rattle.ob_types.specs.declared.types.TypeRef.{TypeRef}
use Rattle.ob_types.specs.declared.types.TypeRef.TheVariants as types
use Rattle.ob_types.specs.declared.types.Signature.{Signature}
use Rattle.ob_types.specs.declared.desc.Desc.{Desc}
use Rattle.ob_types.specs.declared.desc.Desc.TheVariants as desc

abbrev pub basic_number : Basic → ℕ
basic_number Boolean = 0
basic_number Char = 1
basic_number ShortInt = 2
basic_number Integer = 3
basic_number LongInt = 4
basic_number Set = 5

abbrev pub target_of : Option Desc → Option TypeRef
target_of (Some (desc.Alias m t)) = Some t
target_of d = None

-- what the type is equated to
abbrev pub alias_of : (QName → Option Desc) → TypeRef → Option TypeRef
alias_of map (types.Basic b) = None
alias_of map (types.Named q) = target_of (map q)

-- the value, or else what stands in its place
abbrev pub follow : Option TypeRef → TypeRef → (TypeRef → TypeRef) → TypeRef
follow None t f = t
follow (Some u) t f = f u

unfoldable pub target : (QName → Option Desc) → ℕ → TypeRef → TypeRef
target map zero t = t
target map (suc n) t = follow (alias_of map t) t (λ u. target map n u)

abbrev pub type_eq : TypeRef → TypeRef → Bool
type_eq (types.Basic a) (types.Basic b) = nat_eq (basic_number a) (basic_number b)
type_eq (types.Basic a) (types.Named q) = false
type_eq (types.Named p) (types.Basic b) = false
type_eq (types.Named p) (types.Named q) = bytes_eq p.module q.module && bytes_eq p.object q.object

-- both stand for one type
unfoldable pub same_at : (QName → Option Desc) → TypeRef → TypeRef → Bool
same_at map a b = type_eq (target map 201 a) (target map 201 b)

-- what the map has of the type that a type stands for
abbrev pub shape_at : (QName → Option Desc) → TypeRef → Option Desc
shape_at map (types.Basic b) = None
shape_at map (types.Named q) = map q

abbrev pub base_of : Option Desc → Option TypeRef
base_of (Some (desc.Record r)) = r.base
base_of d = None

abbrev pub pointer_of : Option Desc → Option TypeRef
pointer_of (Some (desc.Pointer m t)) = Some t
pointer_of d = None

abbrev pub element_of : Option Desc → Option TypeRef
element_of (Some (desc.OpenArray m t)) = Some t
element_of d = None

abbrev pub signature_of : Option Desc → Option Signature
signature_of (Some (desc.ProcType m s)) = Some s
signature_of d = None

-- there is a value, and it passes the test
abbrev pub holds_of : Option TypeRef → (TypeRef → Bool) → Bool
holds_of None f = false
holds_of (Some c) f = f c

-- from the type up to its base, and so on, there is one that is the same as b
unfoldable pub climbs : (QName → Option Desc) → ℕ → TypeRef → TypeRef → Bool
climbs map zero a b = same_at map a b
climbs map (suc n) a b = same_at map a b || holds_of (base_of (shape_at map (target map 201 a))) (λ c. climbs map n c b)

abbrev pub both : {A : Type 0} → (A → A → Bool) → Option A → Option A → Bool
both f None None = false
both f None (Some b) = false
both f (Some a) None = false
both f (Some a) (Some b) = f a b

unfoldable pub extends_at : (QName → Option Desc) → TypeRef → TypeRef → Bool
extends_at map a b = climbs map 201 a b || both (λ s t. climbs map 201 s t) (pointer_of (shape_at map (target map 201 a))) (pointer_of (shape_at map (target map 201 b)))

abbrev pub results_alike : (TypeRef → TypeRef → Bool) → Option TypeRef → Option TypeRef → Bool
results_alike f None None = true
results_alike f None (Some b) = false
results_alike f (Some a) None = false
results_alike f (Some a) (Some b) = f a b

abbrev pub modes_alike : Mode → Mode → Bool
modes_alike mode.Value mode.Value = true
modes_alike mode.Value mode.Var = false
modes_alike mode.Var mode.Value = false
modes_alike mode.Var mode.Var = true

abbrev pub params_alike : (TypeRef → TypeRef → Bool) → List (Mode × TypeRef) → List (Mode × TypeRef) → Bool
params_alike f [] [] = true
params_alike f [] (q ∷ qs) = false
params_alike f (p ∷ ps) [] = false
params_alike f (p ∷ ps) (q ∷ qs) = modes_alike p.0 q.0 && (f p.1 q.1 && params_alike f ps qs)

-- both have elements, which pass f, or both have signatures, which pass g
abbrev pub parts_alike : (TypeRef → TypeRef → Bool) → (Signature → Signature → Bool) → Option TypeRef → Option TypeRef → Option Signature → Option Signature → Bool
parts_alike f g (Some a) (Some b) s t = f a b
parts_alike f g (Some a) None s t = false
parts_alike f g None e (Some s) (Some t) = g s t
parts_alike f g None e (Some s) None = false
parts_alike f g None e None t = false

abbrev pub shapes_alike : (TypeRef → TypeRef → Bool) → (Signature → Signature → Bool) → Option Desc → Option Desc → Bool
shapes_alike f g o p = parts_alike f g (element_of o) (element_of p) (signature_of o) (signature_of p)

abbrev pub signatures_alike : (TypeRef → TypeRef → Bool) → (TypeRef → TypeRef → Bool) → Signature → Signature → Bool
signatures_alike f g s t = params_alike f s.params t.params && results_alike g s.result t.result

-- the same, or alike in their parts: the elements of open arrays, the parameters and results of procedure types
unfoldable pub equal_at : (QName → Option Desc) → ℕ → TypeRef → TypeRef → Bool
equal_at map zero a b = same_at map a b
equal_at map (suc n) a b = same_at map a b || shapes_alike (λ x y. equal_at map n x y) (λ s t. signatures_alike (λ x y. equal_at map n x y) (λ x y. same_at map x y) s t) (shape_at map (target map 201 a)) (shape_at map (target map 201 b))
