-- Members of lists, and what holds of all of them.
use Rattle.std.proofs.Common.{◌≡◌, ◌⊎◌, ⊎_elim, inl, inr, refl, subst, Bool, true, false, List, [], ◌∷◌, ◌++◌, map, Option, Some, None}
use Rattle.std.specs.Prelude.{cond}
use Rattle.std.specs.List.{AllByRecursion, find, filter}
use Rattle.law_typing_forms.specs.Said.{IsOneOf}
use Rattle.law_typing.specs.Makes.{IfThere}

pub one_left : {A : Type 0} (xs ys : List A) (x : A) → IsOneOf xs x → IsOneOf (xs ++ ys) x
one_left [] ys x h = absurd h
one_left (y ∷ xs) ys x (inl e) = inl e
one_left (y ∷ xs) ys x (inr h) = inr (one_left xs ys x h)

pub one_right : {A : Type 0} (xs ys : List A) (x : A) → IsOneOf ys x → IsOneOf (xs ++ ys) x
one_right [] ys x h = h
one_right (y ∷ xs) ys x h = inr (one_right xs ys x h)

pub one_joined : {A : Type 0} (xs ys : List A) (x : A) → IsOneOf (xs ++ ys) x → IsOneOf xs x ⊎ IsOneOf ys x
one_joined [] ys x h = inr h
one_joined (y ∷ xs) ys x h = ⊎_elim (λ e. inl (inl e)) (λ k. ⊎_elim (λ i. inl (inr i)) (λ i. inr i) (one_joined xs ys x k)) h

pub one_all : {A : Type 0} (P : A → Type 0) (xs : List A) (x : A) → AllByRecursion P xs → IsOneOf xs x → P x
one_all P [] x h k = absurd k
one_all P (y ∷ xs) x h (inl e) = subst P e h.0
one_all P (y ∷ xs) x h (inr k) = one_all P xs x h.1 k

pub all_one : {A : Type 0} (P : A → Type 0) (xs : List A) → ((x : A) → IsOneOf xs x → P x) → AllByRecursion P xs
all_one P [] h = tt
all_one P (y ∷ xs) h = (h y (inl refl), all_one P xs (λ x k. h x (inr k)))

pub all_of : {A : Type 0} (P Q : A → Type 0) (xs : List A) → ((x : A) → P x → Q x) → AllByRecursion P xs → AllByRecursion Q xs
all_of P Q [] f h = tt
all_of P Q (x ∷ xs) f h = (f x h.0, all_of P Q xs f h.1)

pub all_same : {A B : Type 0} (P : B → Type 0) (f : A → B) (xs : List A) → ((x : A) → IsOneOf xs x → P (f x)) → AllByRecursion P (map f xs)
all_same P f [] h = tt
all_same P f (x ∷ xs) h = (h x (inl refl), all_same P f xs (λ y k. h y (inr k)))

-- those that pass a test
pub all_filtered : {A : Type 0} (P : A → Type 0) (f : A → Bool) (xs : List A) → AllByRecursion (λ x. f x ≡ true → P x) xs → AllByRecursion P (filter f xs)
all_filtered P f [] h = tt
all_filtered P f (x ∷ xs) h = by (f x) refl (all_filtered P f xs h.1)
  where
    by : (b : Bool) → f x ≡ b → AllByRecursion P (filter f xs) → AllByRecursion P (cond b (x ∷ filter f xs) (filter f xs))
    by true e k = (h.0 e, k)
    by false e k = k

first_if : {A : Type 0} (P : A → Type 0) (b : Bool) (x : A) (o : Option A) → P x → IfThere P o → IfThere P (cond b (Some x) o)
first_if P true x o h k = h
first_if P false x o h k = k

-- the first that passes a test
pub find_has : {A : Type 0} (P : A → Type 0) (test : A → Bool) (xs : List A) → AllByRecursion P xs → IfThere P (find test xs)
find_has P test [] h = tt
find_has P test (x ∷ xs) h = first_if P (test x) x (find test xs) h.0 (find_has P test xs h.1)

pub there_of : {A : Type 0} (P Q : A → Type 0) (o : Option A) → ((x : A) → P x → Q x) → IfThere P o → IfThere Q o
there_of P Q None f h = tt
there_of P Q (Some x) f h = f x h
