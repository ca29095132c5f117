-- Bases stand before their types in the descriptors.
use Rattle.std.proofs.Common.{◌≡◌, ℕ, zero, suc, ◌<◌, ◌≤◌, List, [], ◌∷◌, ◌++◌, length, take, Option, Some, refl, sym, ap, subst, ◌∙◌, arith, ⊎_elim}
use Rattle.std.specs.Prelude.{slice_get, IfSome}
use Rattle.std.proofs.lemmas.Bool.{cases_lt}
use Rattle.ob_tdesc.specs.declared.descriptor.Descriptor.{Descriptor}
use Rattle.ob_tdesc.specs.Bases.{base_in}
use Rattle.ob_machine_image.specs.Whole.{BasesBefore}

get_front : (xs : List Descriptor) (d : Descriptor) (k : ℕ) → k < length xs → slice_get (xs ++ d ∷ []) k ≡ slice_get xs k
get_front [] d k lt = absurd (omega arith)
get_front (x ∷ xs) d zero lt = refl
get_front (x ∷ xs) d (suc k) lt = get_front xs d k (omega arith)

-- the last one, or none behind it
behind : (xs : List Descriptor) (d : Descriptor) (k b : ℕ) → length xs ≤ k → base_in (slice_get (xs ++ d ∷ []) k) ≡ Some b → d.base ≡ Some b
behind [] d zero b le e = e
behind [] d (suc k) b le e = absurd cc
behind (x ∷ xs) d zero b le e = absurd (omega arith)
behind (x ∷ xs) d (suc k) b le e = behind xs d k b (omega arith) e

small : (o : Option ℕ) (n b : ℕ) → o ≡ Some b → IfSome o (λ x. x < n) → b < n
small o n b e h = subst (λ x. IfSome x (λ y. y < n)) e h

pub bases_added : (types : List Descriptor) (d : Descriptor) → BasesBefore types → IfSome d.base (λ b. b < length types) → BasesBefore (types ++ d ∷ [])
bases_added types d before here a b e = ⊎_elim front last (cases_lt a (length types))
  where
    front : a < length types → b < a
    front lt = before a b (ap base_in (sym (get_front types d a lt)) ∙ e)

    last : length types ≤ a → b < a
    last le = let lt = small d.base (length types) b (behind types d a b le e) here in omega arith

get_taken : (n k b : ℕ) (xs : List Descriptor) → base_in (slice_get (take n xs) k) ≡ Some b → base_in (slice_get xs k) ≡ Some b
get_taken zero k b xs e = absurd cc
get_taken (suc n) k b [] e = e
get_taken (suc n) zero b (x ∷ xs) e = e
get_taken (suc n) (suc k) b (x ∷ xs) e = get_taken n k b xs e

pub bases_cut : (n : ℕ) (types : List Descriptor) → BasesBefore types → BasesBefore (take n types)
bases_cut n types before a b e = before a b (get_taken n a b types e)
