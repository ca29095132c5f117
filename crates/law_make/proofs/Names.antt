-- Names in lists.
use Rattle.std.proofs.Common.{◌≡◌, ◌⊎◌, ℕ, List, [], ◌∷◌, ◌++◌, Bool, true, false, refl, ap, ◌∙◌, inl, inr}
use Rattle.std.specs.Prelude.{◌||◌, bytes_eq, map as each}
use Rattle.std.specs.List.{AllByRecursion}
use Rattle.ob_link.specs.Walk.{has}
use Rattle.ob_make.proofs.Names.{has_right}
use Rattle.law_lists.proofs.Lists.{bytes_itself, same_bytes, or_first, or_second, or_parts}

pub true_or : (b : Bool) → (b ≡ true) ⊎ (b ≡ false)
true_or true = inl refl
true_or false = inr refl

pub has_here : (x : List ℕ) (xs ys : List (List ℕ)) → has x (xs ++ x ∷ ys) ≡ true
has_here x xs ys = has_right x xs (x ∷ ys) (or_first (bytes_eq x x) (has x ys) (bytes_itself x))

-- in a list with one more at its end
pub has_last : (n x : List ℕ) (xs : List (List ℕ)) → has n (xs ++ x ∷ []) ≡ true → (has n xs ≡ true) ⊎ (n ≡ x)
has_last n x [] h = go (bytes_eq n x) refl h
  where
    go : (b : Bool) → bytes_eq n x ≡ b → b || false ≡ true → (false ≡ true) ⊎ (n ≡ x)
    go true e h = inr (same_bytes n x e)
    go false e h = inl h
has_last n x (y ∷ xs) h = go (bytes_eq n y) h (has_last n x xs)
  where
    go : (b : Bool) → b || has n (xs ++ x ∷ []) ≡ true → (has n (xs ++ x ∷ []) ≡ true → (has n xs ≡ true) ⊎ (n ≡ x)) → (b || has n xs ≡ true) ⊎ (n ≡ x)
    go true h more = inl refl
    go false h more = more h

pub not_last : (n x : List ℕ) (xs : List (List ℕ)) → has n (xs ++ x ∷ []) ≡ false → (has n xs ≡ false) × (bytes_eq n x ≡ false)
not_last n x [] h = (refl, (or_parts (bytes_eq n x) false h).0)
not_last n x (y ∷ xs) h =
    let p = or_parts (bytes_eq n y) (has n (xs ++ x ∷ [])) h in
    let q = not_last n x xs p.1 in
    (ap (λ b. b || has n xs) p.0 ∙ q.0, q.1)

-- what holds of each name that is there
pub all_named : {A : Type 0} (name : A → List ℕ) (Q : List ℕ → Type 0) (us : List A) → ((n : List ℕ) → has n (each name us) ≡ true → Q n) → AllByRecursion (λ u. Q (name u)) us
all_named name Q [] h = tt
all_named name Q (u ∷ us) h = (h (name u) (or_first (bytes_eq (name u) (name u)) (has (name u) (each name us)) (bytes_itself (name u))), all_named name Q us (λ n k. h n (or_second (bytes_eq n (name u)) (has n (each name us)) k)))

-- what holds of each name of a list
pub all_there : (Q : List ℕ → Type 0) (ns : List (List ℕ)) → ((n : List ℕ) → has n ns ≡ true → Q n) → AllByRecursion Q ns
all_there Q [] h = tt
all_there Q (m ∷ ns) h = (h m (or_first (bytes_eq m m) (has m ns) (bytes_itself m)), all_there Q ns (λ n k. h n (or_second (bytes_eq n m) (has n ns) k)))
