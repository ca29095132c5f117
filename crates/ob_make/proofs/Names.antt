-- Names in lists.
use Rattle.std.proofs.Common.{◌≡◌, ℕ, Bool, true, false, List, [], ◌∷◌, ◌++◌, refl, sym, ap, subst, ◌∙◌}
use Rattle.std.specs.Prelude.{bytes_eq, cond, ◌||◌, ◌&&◌}
use Rattle.std.specs.List.{filter, AllByRecursion}
use Rattle.std.specs.Cmp.Lexicographic.{bytes_decides}
use Rattle.ob_link.specs.Walk.{has}
use Rattle.ob_cmp.proofs.Merging.{eq_itself}

or_apart : (a b c : Bool) → (a || (b || c)) ≡ ((a || b) || c)
or_apart true b c = refl
or_apart false b c = refl

or_true : (b : Bool) → (b || true) ≡ true
or_true true = refl
or_true false = refl

-- a name is in a list that is joined where it is in one of the two
pub has_joined : (n : List ℕ) (xs ys : List (List ℕ)) → has n (xs ++ ys) ≡ (has n xs || has n ys)
has_joined n [] ys = refl
has_joined n (x ∷ xs) ys = ap (λ b. bytes_eq n x || b) (has_joined n xs ys) ∙ or_apart (bytes_eq n x) (has n xs) (has n ys)

pub has_left : (n : List ℕ) (xs ys : List (List ℕ)) → has n xs ≡ true → has n (xs ++ ys) ≡ true
has_left n xs ys h = has_joined n xs ys ∙ ap (λ b. b || has n ys) h

pub has_right : (n : List ℕ) (xs ys : List (List ℕ)) → has n ys ≡ true → has n (xs ++ ys) ≡ true
has_right n xs ys h = has_joined n xs ys ∙ ap (λ b. has n xs || b) h ∙ or_true (has n xs)

pub has_first : (n : List ℕ) (xs : List (List ℕ)) → has n (n ∷ xs) ≡ true
has_first n xs = ap (λ b. b || has n xs) (eq_itself n)

pub has_later : (n x : List ℕ) (xs : List (List ℕ)) → has n xs ≡ true → has n (x ∷ xs) ≡ true
has_later n x xs h = ap (λ b. bytes_eq n x || b) h ∙ or_true (bytes_eq n x)

-- one that is in a list and one that is not are two
pub apart : (k n : List ℕ) (xs : List (List ℕ)) → has k xs ≡ true → has n xs ≡ false → bytes_eq k n ≡ false
apart k n xs h f = go (bytes_eq k n) refl
  where
    go : (b : Bool) → bytes_eq k n ≡ b → b ≡ false
    go true e = absurd (let bad : true ≡ false = sym h ∙ ap (λ z. has z xs) ((bytes_decides k n).0 e) ∙ f in cc)
    go false e = refl

-- not in both
pub has_none : (n : List ℕ) (xs ys : List (List ℕ)) → has n xs ≡ false → has n ys ≡ false → has n (xs ++ ys) ≡ false
has_none n xs ys h f = has_joined n xs ys ∙ ap (λ b. b || has n ys) h ∙ f

-- a name that is in a list, and what is said of each of it
pub of_all : (P : List ℕ → Type 0) (n : List ℕ) (xs : List (List ℕ)) → AllByRecursion P xs → has n xs ≡ true → P n
of_all P n [] all h = absurd cc
of_all P n (x ∷ xs) all h = by_first (bytes_eq n x) refl h (of_all P n xs all.1)
  where
    by_first : (b : Bool) → bytes_eq n x ≡ b → (b || has n xs) ≡ true → (has n xs ≡ true → P n) → P n
    by_first true e f more = subst P (sym ((bytes_decides n x).0 e)) all.0
    by_first false e f more = more f

pub all_weaker : (P Q : List ℕ → Type 0) (xs : List (List ℕ)) → ((x : List ℕ) → P x → Q x) → AllByRecursion P xs → AllByRecursion Q xs
all_weaker P Q [] f all = tt
all_weaker P Q (x ∷ xs) f all = (f x all.0, all_weaker P Q xs f all.1)

-- ---- what passes a test

kept_by : (p : List ℕ → Bool) (n x : List ℕ) (xs : List (List ℕ)) → has n (filter p xs) ≡ (p n && has n xs) → (b : Bool) → p x ≡ b → (c : Bool) → bytes_eq n x ≡ c → has n (cond b (x ∷ filter p xs) (filter p xs)) ≡ (p n && (c || has n xs))
kept_by p n x xs h true e true f = ap (λ c. c || has n (filter p xs)) f ∙ sym (ap (λ b. b && true) (ap p ((bytes_decides n x).0 f) ∙ e))
kept_by p n x xs h true e false f = ap (λ c. c || has n (filter p xs)) f ∙ h
kept_by p n x xs h false e true f = h ∙ ap (λ b. b && has n xs) (ap p ((bytes_decides n x).0 f) ∙ e) ∙ sym (ap (λ b. b && true) (ap p ((bytes_decides n x).0 f) ∙ e))
kept_by p n x xs h false e false f = h

none_kept : (b : Bool) → false ≡ (b && false)
none_kept true = refl
none_kept false = refl

-- a name is in what passes where it passes and is in the list
pub has_filter : (p : List ℕ → Bool) (n : List ℕ) (xs : List (List ℕ)) → has n (filter p xs) ≡ (p n && has n xs)
has_filter p n [] = none_kept (p n)
has_filter p n (x ∷ xs) = kept_by p n x xs (has_filter p n xs) (p x) refl (bytes_eq n x) refl

-- ---- where a name stands

abbrev pub StandsIn : List ℕ → List (List ℕ) → Type 0
StandsIn x xs = (front : List (List ℕ)) × (back : List (List ℕ)) × (xs ≡ front ++ x ∷ back)

stands_by : (x y : List ℕ) (ys : List (List ℕ)) → (has x ys ≡ true → StandsIn x ys) → (b : Bool) → bytes_eq x y ≡ b → (b || has x ys) ≡ true → StandsIn x (y ∷ ys)
stands_by x y ys more true e h = ([], ys, ap (λ z. z ∷ ys) (sym ((bytes_decides x y).0 e)))
stands_by x y ys more false e h = let r = more h in (y ∷ r.0, r.1, ap (λ l. y ∷ l) r.2)

pub stands_in : (x : List ℕ) (xs : List (List ℕ)) → has x xs ≡ true → StandsIn x xs
stands_in x [] h = absurd cc
stands_in x (y ∷ ys) h = stands_by x y ys (stands_in x ys) (bytes_eq x y) refl h

pub all_joined : (P : List ℕ → Type 0) (xs ys : List (List ℕ)) → AllByRecursion P xs → AllByRecursion P ys → AllByRecursion P (xs ++ ys)
all_joined P [] ys a b = b
all_joined P (x ∷ xs) ys a b = (a.0, all_joined P xs ys a.1 b)
