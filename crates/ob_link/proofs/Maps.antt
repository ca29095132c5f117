-- Maps by names.
use Rattle.std.proofs.Common.{◌≡◌, ◌≢◌, ℕ, Bool, true, false, List, Option, Some, None, Result, Ok, Err, OnOk, refl, sym, ap, subst, ◌∙◌, arith}
use Rattle.std.specs.Prelude.{nat_eq, if◌then◌else◌, Vec}
use Rattle.std.specs.Option.{option_or}
use Rattle.std.specs.Ordering.{nat_cmp}
use Rattle.std.specs.Cmp.{Equal-is}
use Rattle.std.specs.Cmp.Lexicographic.{slice_cmp}
use Rattle.std.specs.declared.cmp.Ordering.{Ordering}
use Rattle.std.specs.BTreeMap.{UpdatesBy}
use Rattle.std.specs.Map.{KeepsOthers}
use Rattle.std.specs.declared.alloc.Global.{Global}
use Rattle.std.proofs.lemmas.Bool.Decides.{nat_tests}
use Rattle.std.proofs.lemmas.Map.Lookups.{exact_bytes}
use Rattle.ob_obj.specs.Images.{same}
use Rattle.ob_link.specs.Index.{Places, place_in, Puts, Notes, Forgets, without}

pub equal_names : (a b : List ℕ) → same a b ≡ true → a ≡ b
equal_names a b e = exact_bytes a b ((Equal-is (slice_cmp nat_cmp a b)).0 e)

-- ONE MAP

abbrev by_items : Vec ℕ Global → Vec ℕ Global → Ordering
by_items x y = slice_cmp nat_cmp x.items y.items

other_name : (name n : List ℕ) (old new : Places) (w : Option ℕ) → UpdatesBy by_items (λ k. slice_cmp nat_cmp name k.items) old new w → same n name ≡ false → place_in new n ≡ place_in old n
unfolding KeepsOthers
other_name name n old new w h e = h.3 (λ k. same n k.items) (λ x y t. ap (λ l. same l y.items) (equal_names n x.items t)) (λ k t. subst (λ l. same n l ≡ false) (equal_names name k.items t) e)

pub puts : (name : List ℕ) (old new : Places) (w : Option ℕ) → UpdatesBy by_items (λ k. slice_cmp nat_cmp name k.items) old new w → Puts old new name w
puts name old new w h n = go (same n name) refl
  where
    go : (b : Bool) → same n name ≡ b → place_in new n ≡ (if b then w else place_in old n)
    go true e = subst (λ l. place_in new l ≡ w) (sym (equal_names n name e)) h.1
    go false e = other_name name n old new w h e

pub puts_at : (bytes name : List ℕ) (old new : Places) (w : Option ℕ) → bytes ≡ name → UpdatesBy by_items (λ k. slice_cmp nat_cmp bytes k.items) old new w → Puts old new name w
puts_at bytes name old new w e h = subst (λ l. Puts old new l w) e (puts bytes old new w h)

-- a clause at the same result
pub on_ok : {T E : Type 0} (r : Result T E) (P Q : Type 0) → OnOk r P → (P → Q) → OnOk r Q
on_ok (Ok x) P Q h f = f h
on_ok (Err e) P Q h f = tt

-- NOTING AND FORGETTING

pub none_else : (o : Option ℕ) → option_or o None ≡ o
none_else None = refl
none_else (Some n) = refl

pub notes_new : (old new : Places) (r : List ℕ) (place : ℕ) → place_in old r ≡ None → Puts old new r (Some place) → Notes old new r place
notes_new old new r place none put n = go (same n r) refl
  where
    go : (b : Bool) → same n r ≡ b → place_in new n ≡ option_or (place_in old n) (if b then Some place else None)
    go true e = put n ∙ ap (λ b. if b then Some place else place_in old n) e ∙ sym (ap (λ o. option_or o (Some place)) (ap (place_in old) (equal_names n r e) ∙ none))
    go false e = put n ∙ ap (λ b. if b then Some place else place_in old n) e ∙ sym (none_else (place_in old n))

pub notes_none : (places : Places) (r : List ℕ) (place k : ℕ) → place_in places r ≡ Some k → Notes places places r place
notes_none places r place k there n = go (same n r) refl
  where
    go : (b : Bool) → same n r ≡ b → place_in places n ≡ option_or (place_in places n) (if b then Some place else None)
    go true e = let f = ap (place_in places) (equal_names n r e) ∙ there in f ∙ sym (ap (λ o. option_or o (Some place)) f)
    go false e = sym (none_else (place_in places n))

pub this_one : (n : ℕ) → without n (Some n) ≡ None
this_one n = let e : nat_eq n n ≡ true = grind (arith, nat_tests) in ap (λ b. if b then None else Some n) e

pub another : (place n : ℕ) → n ≢ place → without place (Some n) ≡ Some n
another place n ne = let e : nat_eq n place ≡ false = grind (arith, nat_tests) in ap (λ b. if b then None else Some n) e

pub forgets_it : (old new : Places) (r : List ℕ) (place : ℕ) → place_in old r ≡ Some place → Puts old new r None → Forgets old new r place
forgets_it old new r place there put n = go (same n r) refl
  where
    go : (b : Bool) → same n r ≡ b → place_in new n ≡ (if b then without place (place_in old n) else place_in old n)
    go true e = put n ∙ ap (λ b. if b then None else place_in old n) e ∙ sym (ap (without place) (ap (place_in old) (equal_names n r e) ∙ there) ∙ this_one place)
    go false e = put n ∙ ap (λ b. if b then None else place_in old n) e

forgets_none : (places : Places) (r : List ℕ) (place : ℕ) → without place (place_in places r) ≡ place_in places r → Forgets places places r place
forgets_none places r place kept n = go (same n r) refl
  where
    go : (b : Bool) → same n r ≡ b → place_in places n ≡ (if b then without place (place_in places n) else place_in places n)
    go true e = let f = ap (place_in places) (equal_names n r e) in f ∙ sym kept ∙ sym (ap (without place) f)
    go false e = refl

pub forgets_another : (places : Places) (r : List ℕ) (place k : ℕ) → place_in places r ≡ Some k → k ≢ place → Forgets places places r place
forgets_another places r place k there ne = forgets_none places r place (ap (without place) there ∙ another place k ne ∙ sym there)

pub forgets_nothing : (places : Places) (r : List ℕ) (place : ℕ) → place_in places r ≡ None → Forgets places places r place
forgets_nothing places r place none = forgets_none places r place (ap (without place) none ∙ sym none)
