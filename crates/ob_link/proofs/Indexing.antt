-- The index of names when one is added or taken out.
use Rattle.std.proofs.Common.{◌≡◌, ℕ, zero, suc, ◌+◌, ◌<◌, ◌≤◌, Bool, true, false, List, [], ◌∷◌, ◌++◌, length, take, get_or, Option, Some, None, Result, Ok, Err, IsOk, is_ok, refl, sym, ap, subst, ◌∙◌, arith}
use Rattle.std.specs.Prelude.{if◌then◌else◌}
use Rattle.std.specs.Option.{option_or}
use Rattle.ob_obj.specs.Images.{same}
use Rattle.ob_link.specs.Index.{Places, place_in, place_from, Notes, Forgets, IsIndexed, without}
use Rattle.ob_link.proofs.Maps.{none_else, this_one, another}

-- ONE NAME MORE

abbrev last_one : List ℕ → List ℕ → ℕ → Option ℕ
last_one n x k = if same n x then Some k else None

-- with what the rest of the list finds, and where the last one stands
pub one_before : {A : Type 0} (b : Bool) (n : A) (rest front last : Option A) → rest ≡ option_or front last → (if b then Some n else rest) ≡ option_or (if b then Some n else front) last
one_before true n rest front last e = refl
one_before false n rest front last e = e

pub place_behind : (n : ℕ) (names : List (List ℕ)) (x q : List ℕ) (k : ℕ) → k ≡ n + length names → place_from n (names ++ x ∷ []) q ≡ option_or (place_from n names q) (last_one q x k)
place_behind n [] x q k e = let f : n ≡ k = omega arith in ap (last_one q x) f
place_behind n (y ∷ names) x q k e = one_before (same q y) n (place_from (suc n) (names ++ x ∷ []) q) (place_from (suc n) names q) (last_one q x k) (place_behind (suc n) names x q k (omega arith))

pub indexed_more : (old new : Places) (names : List (List ℕ)) (x : List ℕ) (k : ℕ) → k ≡ length names → IsIndexed old names → Notes old new x k → IsIndexed new (names ++ x ∷ [])
indexed_more old new names x k e is notes n = notes n ∙ ap (λ o. option_or o (last_one n x k)) (is n) ∙ sym (place_behind 0 names x n k (omega arith))

-- ONE NAME LESS

abbrev pub Below : ℕ → Option ℕ → Type 0
Below k None = Unit {0}
Below k (Some n) = n < k

below_one : (b : Bool) (n k : ℕ) (o : Option ℕ) → n < k → Below k o → Below k (if b then Some n else o)
below_one true n k o lt h = lt
below_one false n k o lt h = h

pub place_below : (n : ℕ) (names : List (List ℕ)) (q : List ℕ) (k : ℕ) → k ≡ n + length names → Below k (place_from n names q)
place_below n [] q k e = tt
place_below n (x ∷ names) q k e = below_one (same q x) n k (place_from (suc n) names q) (omega arith) (place_below (suc n) names q k (omega arith))

cut_back : (k : ℕ) (o : Option ℕ) → Below k o → without k (option_or o (Some k)) ≡ o
cut_back k None below = this_one k
cut_back k (Some n) below = another k n (λ e. omega arith)

indexed_front : (old new : Places) (names : List (List ℕ)) (x : List ℕ) → IsIndexed old (names ++ x ∷ []) → Forgets old new x (length names) → IsIndexed new names
indexed_front old new names x is forgets n = go (same n x) (forgets n) (is n ∙ place_behind 0 names x n (length names) (omega arith))
  where
    go : (b : Bool) → place_in new n ≡ (if b then without (length names) (place_in old n) else place_in old n) → place_in old n ≡ option_or (place_from 0 names n) (if b then Some (length names) else None) → place_in new n ≡ place_from 0 names n
    go true e f = e ∙ ap (without (length names)) f ∙ cut_back (length names) (place_from 0 names n) (place_below 0 names n (length names) (omega arith))
    go false e f = e ∙ f ∙ none_else (place_from 0 names n)

-- the last one of a list
pub record Ending {A : Type 0} (k : ℕ) (l : List A) (x : A) : Type 0 where
  pub last : A
  pub whole : l ≡ take k l ++ last ∷ []
  pub at : get_or l k x ≡ last

pub ending : {A : Type 0} (k : ℕ) (l : List A) (x : A) → length l ≡ suc k → Ending k l x
ending k [] x e = absurd (omega arith)
ending zero (d ∷ []) x e = record { last = d; whole = refl; at = refl }
ending zero (d ∷ y ∷ l) x e = absurd (omega arith)
ending (suc k) (d ∷ l) x e = let r = ending k l x (omega arith) in record { last = r.last; whole = ap (λ m. d ∷ m) r.whole; at = r.at }

pub length_front : {A : Type 0} (k : ℕ) (l : List A) → k ≤ length l → length (take k l) ≡ k
length_front zero l le = refl
length_front (suc k) [] le = absurd (omega arith)
length_front (suc k) (d ∷ l) le = ap suc (length_front k l (omega arith))

pub indexed_less : (old new : Places) (names : List (List ℕ)) (k : ℕ) (x : List ℕ) → length names ≡ suc k → x ≡ get_or names k x → IsIndexed old names → Forgets old new x k → IsIndexed new (take k names)
indexed_less old new names k x e at is forgets =
    let r = ending k names x e in
    let n : length (take k names) ≡ k = length_front k names (omega arith) in
    let name : x ≡ r.last = at ∙ r.at in
    indexed_front old new (take k names) r.last (subst (IsIndexed old) r.whole is) (subst (λ m. Forgets old new r.last m) (sym n) (subst (λ y. Forgets old new y k) name forgets))

-- a push that found room
pub pushed : {T E : Type 0} (r : Result T E) (a b : List (List ℕ)) → IsOk r → (if is_ok r then a else b) ≡ a
pushed (Ok x) a b h = refl
pushed (Err e) a b h = absurd cc
