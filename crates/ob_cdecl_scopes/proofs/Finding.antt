-- What is found by the latest place of its name.
use Rattle.std.proofs.Common.{◌≡◌, ℕ, zero, suc, ◌-◌, ◌<◌, Bool, true, false, List, [], ◌∷◌, ◌++◌, length, map, drop, take, Option, Some, None, refl, sym, ap, ◌∙◌, arith}
use Rattle.std.specs.Prelude.{if◌then◌else◌, bytes_eq, reverse, slice_get}
use Rattle.std.specs.List.{find}
use Rattle.std.proofs.lemmas.List.{reverse-append, reverse-reverse, length-reverse, length-map, length-drop, take-append-drop}
use Rattle.ob_cdecl_scopes.specs.Stacks.{latest}

reverse_cons : {A : Type 0} (x : A) (xs : List A) → reverse (x ∷ xs) ≡ reverse xs ++ x ∷ []
reverse_cons x xs = reverse-append (x ∷ []) xs

get_last : {A : Type 0} (ys : List A) (y : A) (n : ℕ) → n ≡ length ys → slice_get (ys ++ y ∷ []) n ≡ Some y
get_last [] y zero e = refl
get_last [] y (suc n) e = absurd (omega arith)
get_last (x ∷ ys) y zero e = absurd (omega arith)
get_last (x ∷ ys) y (suc n) e = get_last ys y n (omega arith)

get_front : {A : Type 0} (ys : List A) (y : A) (n : ℕ) → n < length ys → slice_get (ys ++ y ∷ []) n ≡ slice_get ys n
get_front [] y n lt = absurd (omega arith)
get_front (x ∷ ys) y zero lt = refl
get_front (x ∷ ys) y (suc n) lt = get_front ys y n (omega arith)

some_is : {A : Type 0} (x y : A) → Some x ≡ Some y → x ≡ y
some_is x y e = cc

pub latest_within : (ks : List (List ℕ)) (x : List ℕ) (n : ℕ) → latest ks x ≡ Some n → n < length ks
latest_within [] x n e = absurd cc
latest_within (k ∷ ks) x n e = go (bytes_eq k x) (latest_within ks x n) e
  where
    go : (b : Bool) → (latest ks x ≡ Some n → n < length ks) → (if b then Some (length ks) else latest ks x) ≡ Some n → n < length (k ∷ ks)
    go true r f = let h : length ks ≡ n = some_is (length ks) n f in omega (arith, h)
    go false r f = let h = r f in omega (arith, h)

-- what stands at a place, in a list with the latest first
abbrev at_place : {A : Type 0} → List A → Option ℕ → Option A
at_place xs None = None
at_place xs (Some n) = slice_get (reverse xs) n

behind : {A : Type 0} (name : A → List ℕ) (x : A) (xs : List A) (o : Option ℕ) → ((n : ℕ) → o ≡ Some n → n < length (map name xs)) → at_place (x ∷ xs) o ≡ at_place xs o
behind name x xs None h = refl
behind name x xs (Some n) h = ap (λ l. slice_get l n) (reverse_cons x xs) ∙ get_front (reverse xs) x n (let f = h n refl in omega (arith, f, length-map xs name, length-reverse xs))

pub find_at : {A : Type 0} (name : A → List ℕ) (xs : List A) (x : List ℕ) → find (λ y. bytes_eq (name y) x) xs ≡ at_place xs (latest (map name xs) x)
find_at name [] x = refl
find_at name (y ∷ xs) x = go (bytes_eq (name y) x) (find_at name xs x)
  where
    go : (b : Bool) → find (λ z. bytes_eq (name z) x) xs ≡ at_place xs (latest (map name xs) x) → (if b then Some y else find (λ z. bytes_eq (name z) x) xs) ≡ at_place (y ∷ xs) (if b then Some (length (map name xs)) else latest (map name xs) x)
    go true r = sym (ap (λ l. slice_get l (length (map name xs))) (reverse_cons y xs) ∙ get_last (reverse xs) y (length (map name xs)) (length-map xs name ∙ sym (length-reverse xs)))
    go false r = r ∙ sym (behind name y xs (latest (map name xs) x) (λ n. latest_within (map name xs) x n))

pub finds : {A : Type 0} (name : A → List ℕ) (items : List A) (x : List ℕ) (n : ℕ) → Some n ≡ latest (map name (reverse items)) x → slice_get items n ≡ find (λ y. bytes_eq (name y) x) (reverse items)
finds name items x n e = ap (λ l. slice_get l n) (sym (reverse-reverse items)) ∙ ap (at_place (reverse items)) e ∙ sym (find_at name (reverse items) x)

pub finds_none : {A : Type 0} (name : A → List ℕ) (items : List A) (x : List ℕ) → None ≡ latest (map name (reverse items)) x → None ≡ find (λ y. bytes_eq (name y) x) (reverse items)
finds_none name items x e = ap (at_place (reverse items)) e ∙ sym (find_at name (reverse items) x)

-- CUT

drop_map : {A B : Type 0} (f : A → B) (n : ℕ) (xs : List A) → drop n (map f xs) ≡ map f (drop n xs)
drop_map f zero xs = refl
drop_map f (suc n) [] = refl
drop_map f (suc n) (x ∷ xs) = drop_map f n xs

pub drop_mapped : {A B : Type 0} (f : A → B) (left : ℕ) (xs : List A) → drop (length (map f xs) - left) (map f xs) ≡ map f (drop (length xs - left) xs)
drop_mapped f left xs = ap (λ n. drop (n - left) (map f xs)) (length-map xs f) ∙ drop_map f (length xs - left) xs

drop_front : {A : Type 0} (xs ys : List A) (n : ℕ) → n ≡ length xs → drop n (xs ++ ys) ≡ ys
drop_front [] ys zero e = refl
drop_front [] ys (suc n) e = absurd (omega arith)
drop_front (x ∷ xs) ys zero e = absurd (omega arith)
drop_front (x ∷ xs) ys (suc n) e = drop_front xs ys n (omega arith)

-- the front of a list, turned, is the end of the turned list
pub reverse_taken : {A : Type 0} (xs : List A) (n : ℕ) → reverse (take n xs) ≡ drop (length (reverse xs) - n) (reverse xs)
reverse_taken xs n = sym (ap (λ l. drop (length (reverse xs) - n) l) (ap reverse (sym (take-append-drop n xs)) ∙ reverse-append (take n xs) (drop n xs)) ∙ drop_front (reverse (drop n xs)) (reverse (take n xs)) (length (reverse xs) - n) (ap (λ m. m - n) (length-reverse xs) ∙ sym (length-reverse (drop n xs) ∙ length-drop n xs)))
