-- Members of lists, and what all of them have.
use Rattle.std.proofs.Common.{◌≡◌, inl, inr, Bool, true, false, List, [], ◌∷◌, ◌++◌, map as each, refl, sym, ap, subst, ◌∙◌}
use Rattle.std.specs.Prelude.{cond}
use Rattle.std.specs.List.{filter, flat_map, AllByRecursion}
use Rattle.law_typing_forms.specs.Said.{IsOneOf}

-- of all items of a list, where it is so of each that stands in it
pub all_by : {A : Type 0} (P : A → Type 0) (xs : List A) → ((x : A) → IsOneOf xs x → P x) → AllByRecursion P xs
all_by P [] f = tt
all_by P (x ∷ xs) f = (f x (inl refl), all_by P xs (λ y i. f y (inr i)))

pub one_front : {A : Type 0} (xs ys : List A) (x : A) → IsOneOf xs x → IsOneOf (xs ++ ys) x
one_front [] ys x h = absurd h
one_front (y ∷ xs) ys x (inl e) = inl e
one_front (y ∷ xs) ys x (inr k) = inr (one_front xs ys x k)

pub one_back : {A : Type 0} (xs ys : List A) (x : A) → IsOneOf ys x → IsOneOf (xs ++ ys) x
one_back [] ys x h = h
one_back (z ∷ xs) ys x h = inr (one_back xs ys x h)

pub one_flat : {A B : Type 0} (f : A → List B) (xs : List A) (x : A) (y : B) → IsOneOf xs x → IsOneOf (f x) y → IsOneOf (flat_map f xs) y
one_flat f [] x y h i = absurd h
one_flat f (z ∷ xs) x y (inl e) i = one_front (f z) (flat_map f xs) y (subst (λ u. IsOneOf (f u) y) (sym e) i)
one_flat f (z ∷ xs) x y (inr k) i = one_back (f z) (flat_map f xs) y (one_flat f xs x y k i)

-- one that is kept
pub one_kept : {A : Type 0} (f : A → Bool) (xs : List A) (x : A) → f x ≡ true → IsOneOf xs x → IsOneOf (filter f xs) x
one_kept f [] x e h = absurd h
one_kept f (y ∷ ys) x e (inl i) = subst (λ (b : Bool). IsOneOf (cond b (y ∷ filter f ys) (filter f ys)) x) (sym (ap f i ∙ e)) (inl i)
one_kept f (y ∷ ys) x e (inr k) = by (f y) (one_kept f ys x e k)
  where
    by : (b : Bool) → IsOneOf (filter f ys) x → IsOneOf (cond b (y ∷ filter f ys) (filter f ys)) x
    by true i = inr i
    by false i = i

-- what all have that are kept
pub sifted : {A : Type 0} (test : A → Bool) (P : A → Type 0) (xs : List A) → AllByRecursion P (filter test xs) → AllByRecursion (λ x. test x ≡ true → P x) xs
sifted test P [] h = tt
sifted test P (x ∷ xs) h = by (test x) refl h (sifted test P xs)
  where
    by : (b : Bool) → test x ≡ b → AllByRecursion P (cond b (x ∷ filter test xs) (filter test xs)) → (AllByRecursion P (filter test xs) → AllByRecursion (λ x. test x ≡ true → P x) xs) → (test x ≡ true → P x) × AllByRecursion (λ x. test x ≡ true → P x) xs
    by true e h f = (λ i. h.0, f h.1)
    by false e h f = (λ i. let bad : false ≡ true = sym e ∙ i in absurd cc, f h)

pub all_parts : {A B : Type 0} (f : A → List B) (P : B → Type 0) (xs : List A) → ((ys zs : List B) → AllByRecursion P (ys ++ zs) → AllByRecursion P ys × AllByRecursion P zs) → AllByRecursion P (flat_map f xs) → AllByRecursion (λ x. AllByRecursion P (f x)) xs
all_parts f P [] cut h = tt
all_parts f P (x ∷ xs) cut h = let k = cut (f x) (flat_map f xs) h in (k.0, all_parts f P xs cut k.1)
