-- What stands in a list.
use Rattle.std.proofs.Common.{◌≡◌, ℕ, ◌<◌, List, [], ◌∷◌, ◌++◌, length, take, refl, sym, ap, ◌∙◌, subst, arith, ⊎_elim, inl, inr}
use Rattle.std.specs.Prelude.{zero, suc, ◌⊎◌, Contains, slice_index_or}

abbrev pub In : {A : Type 0} → List A → A → Type 0
In [] x = ⊥
In (y ∷ ys) x = (y ≡ x) ⊎ In ys x

at_in : {A : Type 0} (xs : List A) (x : A) (k : ℕ) → k < length xs → slice_index_or xs k x ≡ x → In xs x
at_in [] x k h e = absurd (omega (arith, h))
at_in (y ∷ ys) x zero h e = inl e
at_in (y ∷ ys) x (suc k) h e = inr (at_in ys x k (omega (arith, h)) e)

pub to_in : {A : Type 0} (xs : List A) (x : A) → Contains xs x → In xs x
to_in xs x c = at_in xs x c.0 c.1 c.2

pub of_in : {A : Type 0} (xs : List A) (x : A) → In xs x → Contains xs x
of_in [] x i = absurd i
of_in (y ∷ ys) x (inl e) = (0, omega arith, e)
of_in (y ∷ ys) x (inr i) = let r = of_in ys x i in let h = r.1 in (suc r.0, omega (arith, h), r.2)

in_left : {A : Type 0} (xs ys : List A) (x : A) → In xs x → In (xs ++ ys) x
in_left [] ys x i = absurd i
in_left (y ∷ xs) ys x (inl e) = inl e
in_left (y ∷ xs) ys x (inr i) = inr (in_left xs ys x i)

in_right : {A : Type 0} (xs ys : List A) (x : A) → In ys x → In (xs ++ ys) x
in_right [] ys x i = i
in_right (y ∷ xs) ys x i = inr (in_right xs ys x i)

in_either : {A : Type 0} (xs ys : List A) (x : A) → In (xs ++ ys) x → In xs x ⊎ In ys x
in_either [] ys x i = inr i
in_either (y ∷ xs) ys x (inl e) = inl (inl e)
in_either (y ∷ xs) ys x (inr i) = ⊎_elim (λ (a : In xs x). inl (inr a)) (λ (b : In ys x). inr b) (in_either xs ys x i)

in_take : {A : Type 0} (n : ℕ) (xs : List A) (x : A) → In (take n xs) x → In xs x
in_take zero [] x i = absurd i
in_take (suc n) [] x i = absurd i
in_take zero (y ∷ xs) x i = absurd i
in_take (suc n) (y ∷ xs) x (inl e) = inl e
in_take (suc n) (y ∷ xs) x (inr i) = inr (in_take n xs x i)

pub has_left : {A : Type 0} (xs ys : List A) (x : A) → Contains xs x → Contains (xs ++ ys) x
has_left xs ys x c = of_in (xs ++ ys) x (in_left xs ys x (to_in xs x c))

pub has_right : {A : Type 0} (xs ys : List A) (x : A) → Contains ys x → Contains (xs ++ ys) x
has_right xs ys x c = of_in (xs ++ ys) x (in_right xs ys x (to_in ys x c))

pub has_more : {A : Type 0} (y : A) (xs : List A) (x : A) → Contains xs x → Contains (y ∷ xs) x
has_more y xs x c = has_right (y ∷ []) xs x c

pub has_head : {A : Type 0} (x : A) (xs : List A) → Contains (x ∷ xs) x
has_head x xs = of_in (x ∷ xs) x (inl refl)

pub has_either : {A : Type 0} (xs ys : List A) (x : A) → Contains (xs ++ ys) x → Contains xs x ⊎ Contains ys x
has_either xs ys x c = ⊎_elim (λ (i : In xs x). inl (of_in xs x i)) (λ (i : In ys x). inr (of_in ys x i)) (in_either xs ys x (to_in (xs ++ ys) x c))

pub has_take : {A : Type 0} (n : ℕ) (xs : List A) (x : A) → Contains (take n xs) x → Contains xs x
has_take n xs x c = of_in xs x (in_take n xs x (to_in (take n xs) x c))

pub has_none : {A : Type 0} (x : A) → Contains [] x → ⊥
has_none x c = to_in [] x c
