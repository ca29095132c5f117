-- The length of a dimension.
use Rattle.std.proofs.Common.{◌≡◌, refl, sym, ap, ◌∙◌, ℕ, suc, ◌+◌, ◌-◌, ◌<◌, ◌≤◌, nat_eq, Option, Some, None, arith}
use Rattle.std.specs.Option.{option_map}
use Rattle.ob_types.specs.declared.types.TypeRef.{TypeRef}
use Rattle.ob_rules.specs.declared.values.Place.{Place}
use Rattle.ob_rules.specs.Operators.{and_so}
use Rattle.ob_rules.specs.Shapes.{Map, array_of}
use Rattle.ob_rules.specs.Predeclared.{dimension, length_of, len_at}

first_of : {A B C : Type 0} (o : Option (A × B)) (f : A → Option C) → and_so (option_map (λ a. a.0) o) f ≡ and_so o (λ a. f a.0)
first_of None f = refl
first_of (Some a) f = refl

pub length_at : (map : Map) (n : ℕ) (p : Place) → and_so (option_map (λ a. a.0) (dimension map n p.of)) (λ l. length_of l (nat_eq n 0) p) ≡ len_at map n p
length_at map n p = first_of (dimension map n p.of) (λ l. length_of l (nat_eq n 0) p)

one_less : (map : Map) (n i : ℕ) (t : TypeRef) → i < n → dimension map (n - i) t ≡ dimension map (suc (n - (i + 1))) t
one_less map n i t lt = let k : n - i ≡ suc (n - (i + 1)) = omega arith in ap (λ (m : ℕ). dimension map m t) k

-- the loop over dimensions
pub stops : (map : Map) (n i : ℕ) (t : TypeRef) (w : Option (Option ℕ × TypeRef)) → i < n → None ≡ array_of map t → dimension map (n - i) t ≡ w → None ≡ w
stops map n i t w lt e h =
    let F : Option (Option ℕ × TypeRef) → Option (Option ℕ × TypeRef) = λ o. and_so o (λ a. dimension map (n - (i + 1)) a.1) in
    ap F e ∙ sym (one_less map n i t lt) ∙ h

pub goes : (map : Map) (n i : ℕ) (t : TypeRef) (l : Option ℕ) (u : TypeRef) (w : Option (Option ℕ × TypeRef)) → i < n → Some (l, u) ≡ array_of map t → dimension map (n - i) t ≡ w → dimension map (n - (i + 1)) u ≡ w
goes map n i t l u w lt e h =
    let F : Option (Option ℕ × TypeRef) → Option (Option ℕ × TypeRef) = λ o. and_so o (λ a. dimension map (n - (i + 1)) a.1) in
    ap F e ∙ sym (one_less map n i t lt) ∙ h

pub ends : (map : Map) (n i : ℕ) (t : TypeRef) (w : Option (Option ℕ × TypeRef)) → n ≤ i → dimension map (n - i) t ≡ w → array_of map t ≡ w
ends map n i t w le h =
    let k : 0 ≡ n - i = omega arith in
    ap (λ (m : ℕ). dimension map m t) k ∙ h
