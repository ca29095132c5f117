-- Names and their positions.
use Rattle.std.proofs.Common.{◌≡◌, ℕ, suc, ◌+◌, ◌-◌, ◌≤◌, Bool, true, false, cond, List, [], ◌∷◌, map, Option, Some, None, refl, sym, ap, subst, ◌∙◌, arith}
use Rattle.std.specs.Prelude.{Vec, bytes_eq, slice_get}
use Rattle.std.specs.Option.{option_or}
use Rattle.std.specs.Cmp.Lexicographic.{bytes_decides}
use Rattle.std.specs.HashMap.{UpdatesBy}
use Rattle.std.specs.Map.{KeepsOthers}
use Rattle.std.specs.declared.alloc.Global.{Global}
use Rattle.ob_layout.specs.Index.{Positions, at_name, Puts, Notes, position_from, IsIndexOf, first_by}

abbrev by_items : Vec ℕ Global → Vec ℕ Global → Bool
by_items x y = bytes_eq x.items y.items

equal_names : (a b : List ℕ) → bytes_eq a b ≡ true → a ≡ b
equal_names a b e = (bytes_decides a b).0 e

other_name : (name n : List ℕ) (old new : Positions) (w : Option ℕ) → UpdatesBy by_items (λ k. bytes_eq name k.items) old new w → bytes_eq n name ≡ false → at_name new n ≡ at_name old n
unfolding KeepsOthers
other_name name n old new w h e = h.3 (λ k. bytes_eq n k.items) (λ x y t. ap (λ l. bytes_eq l y.items) (equal_names n x.items t)) (λ k t. subst (λ l. bytes_eq n l ≡ false) (equal_names name k.items t) e)

pub puts : (name : List ℕ) (old new : Positions) (w : ℕ) → UpdatesBy by_items (λ k. bytes_eq name k.items) old new (Some w) → Puts old new name w
puts name old new w h n = go (bytes_eq n name) refl
  where
    go : (b : Bool) → bytes_eq n name ≡ b → at_name new n ≡ cond b (Some w) (at_name old n)
    go true e = subst (λ l. at_name new l ≡ Some w) (sym (equal_names n name e)) h.1
    go false e = other_name name n old new (Some w) h e

pub puts_at : (bytes name : List ℕ) (old new : Positions) (w : ℕ) → bytes ≡ name → UpdatesBy by_items (λ k. bytes_eq bytes k.items) old new (Some w) → Puts old new name w
puts_at bytes name old new w e h = subst (λ l. Puts old new l w) e (puts bytes old new w h)

-- ---- an index that is made name by name

-- what is noted so far, and what is to come
abbrev pub IsIndexing : Positions → ℕ → List (List ℕ) → List (List ℕ) → Type 0
IsIndexing m at more names = (x : List ℕ) → option_or (at_name m x) (position_from at x more) ≡ position_from 0 x names

regroup : (o : Option ℕ) (b : Bool) (n : ℕ) (r : Option ℕ) → option_or (option_or o (cond b (Some n) None)) r ≡ option_or o (cond b (Some n) r)
regroup None true n r = refl
regroup None false n r = refl
regroup (Some k) b n r = refl

pub indexing_more : (old new : Positions) (at : ℕ) (name : List ℕ) (more names : List (List ℕ)) → IsIndexing old at (name ∷ more) names → Notes old new name at → IsIndexing new (at + 1) more names
indexing_more old new at name more names so_far note x =
    let one : at + 1 ≡ suc at = omega arith in
    ap (λ k. option_or (at_name new x) (position_from k x more)) one ∙ ap (λ o. option_or o (position_from (suc at) x more)) (note x) ∙ regroup (at_name old x) (bytes_eq x name) at (position_from (suc at) x more) ∙ so_far x

pub indexing_none : (m : Positions) (names : List (List ℕ)) → ((x : List ℕ) → at_name m x ≡ None) → IsIndexing m 0 names names
indexing_none m names none x = ap (λ o. option_or o (position_from 0 x names)) (none x)

none_else : (o : Option ℕ) → o ≡ option_or o None
none_else None = refl
none_else (Some k) = refl

pub indexing_all : (m : Positions) (at : ℕ) (names : List (List ℕ)) → IsIndexing m at [] names → IsIndexOf m names
indexing_all m at names so_far x = none_else (at_name m x) ∙ so_far x

-- ---- what stands at a position

AtPosition : {A : Type 0} → ℕ → List A → Option A → Option ℕ → Type 0
AtPosition n xs r None = r ≡ None
AtPosition n xs r (Some k) = (n ≤ k) × (r ≡ slice_get xs (k - n))

step_position : {A : Type 0} (n : ℕ) (a : A) (xs : List A) (later : Option ℕ) (r : Option A) → ((o : Option ℕ) → later ≡ o → AtPosition (suc n) xs r o) → (b : Bool) (o : Option ℕ) → cond b (Some n) later ≡ o → AtPosition n (a ∷ xs) (cond b (Some a) r) o
unfolding AtPosition
step_position n a xs later r more true None h = absurd cc
step_position n a xs later r more true (Some k) h =
    let e : n ≡ k = cc in
    let z : k - n ≡ 0 = omega (arith, e) in
    (omega (arith, e), ap (λ (i : ℕ). slice_get (a ∷ xs) i) (sym z))
step_position n a xs later r more false None h = more None h
step_position n a xs later r more false (Some k) h =
    let f = more (Some k) h in
    let l : suc n ≤ k = f.0 in
    let s : k - n ≡ suc (k - suc n) = omega (arith, l) in
    (omega (arith, l), f.1 ∙ ap (λ (i : ℕ). slice_get (a ∷ xs) i) (sym s))

from_position : {A : Type 0} (name : A → List ℕ) (n : ℕ) (xs : List A) (x : List ℕ) (o : Option ℕ) → position_from n x (map name xs) ≡ o → AtPosition n xs (first_by name xs x) o
unfolding AtPosition
from_position name n [] x None h = refl
from_position name n [] x (Some k) h = absurd cc
from_position name n (a ∷ xs) x o h = step_position n a xs (position_from (suc n) x (map name xs)) (first_by name xs x) (λ o h. from_position name (suc n) xs x o h) (bytes_eq x (name a)) o h

pub first_at : {A : Type 0} (name : A → List ℕ) (xs : List A) (x : List ℕ) (k : ℕ) → position_from 0 x (map name xs) ≡ Some k → first_by name xs x ≡ slice_get xs k
unfolding AtPosition
first_at name xs x k e =
    let r = from_position name 0 xs x (Some k) e in
    let z : k - 0 ≡ k = omega arith in
    r.1 ∙ ap (λ (i : ℕ). slice_get xs i) z

pub first_none : {A : Type 0} (name : A → List ℕ) (xs : List A) (x : List ℕ) → position_from 0 x (map name xs) ≡ None → first_by name xs x ≡ None
unfolding AtPosition
first_none name xs x e = from_position name 0 xs x None e

-- what an index finds
pub by_index : {A : Type 0} (name : A → List ℕ) (m : Positions) (xs : List A) (x : List ℕ) (k : ℕ) → IsIndexOf m (map name xs) → Some k ≡ at_name m x → first_by name xs x ≡ slice_get xs k
by_index name m xs x k is found = first_at name xs x k (sym (is x) ∙ sym found)

pub by_index_none : {A : Type 0} (name : A → List ℕ) (m : Positions) (xs : List A) (x : List ℕ) → IsIndexOf m (map name xs) → None ≡ at_name m x → first_by name xs x ≡ None
by_index_none name m xs x is found = first_none name xs x (sym (is x) ∙ sym found)
