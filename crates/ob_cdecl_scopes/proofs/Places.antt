-- Maps from names to places.
use Rattle.std.proofs.Common.{◌≡◌, ℕ, Bool, true, false, List, Option, refl, sym, ap, subst, ◌∙◌}
use Rattle.std.specs.Prelude.{if◌then◌else◌, bytes_eq, Vec}
use Rattle.std.specs.HashMap.{UpdatesBy}
use Rattle.std.specs.Map.{KeepsOthers}
use Rattle.std.specs.declared.alloc.Global.{Global}
use Rattle.std.proofs.lemmas.Slice.Eq.{bytes_eq-Decides}
use Rattle.ob_cdecl_scopes.specs.Stacks.{Places, place_at, Puts}

abbrev by_items : Vec ℕ Global → Vec ℕ Global → Bool
by_items x y = bytes_eq x.items y.items

pub equal_names : (a b : List ℕ) → bytes_eq a b ≡ true → a ≡ b
equal_names a b e = (bytes_eq-Decides a b).0 e

pub same_name : (a b : List ℕ) → a ≡ b → bytes_eq a b ≡ true
same_name a b e = (bytes_eq-Decides a b).1 e

false_or : (b : Bool) → (b ≡ true → ⊥) → b ≡ false
false_or true f = absurd (f refl)
false_or false f = refl

apart : (name n : List ℕ) → bytes_eq name n ≡ false → bytes_eq n name ≡ false
apart name n e = false_or (bytes_eq n name) (λ t. let f = same_name name n (sym (equal_names n name t)) in absurd cc)

other_name : (name n : List ℕ) (old new : Places) (w : Option ℕ) → UpdatesBy by_items (λ k. bytes_eq name k.items) old new w → bytes_eq name n ≡ false → place_at new n ≡ place_at old n
unfolding KeepsOthers
other_name name n old new w h e = h.3 (λ k. bytes_eq n k.items) (λ x y t. ap (λ l. bytes_eq l y.items) (equal_names n x.items t)) (λ k t. subst (λ l. bytes_eq n l ≡ false) (equal_names name k.items t) (apart name n e))

pub puts : (name : List ℕ) (old new : Places) (w : Option ℕ) → UpdatesBy by_items (λ k. bytes_eq name k.items) old new w → Puts old new name w
puts name old new w h n = go (bytes_eq name n) refl
  where
    go : (b : Bool) → bytes_eq name n ≡ b → place_at new n ≡ (if b then w else place_at old n)
    go true e = subst (λ l. place_at new l ≡ w) (equal_names name n e) h.1
    go false e = other_name name n old new w h e

pub puts_at : (bytes name : List ℕ) (old new : Places) (w : Option ℕ) → bytes ≡ name → UpdatesBy by_items (λ k. bytes_eq bytes k.items) old new w → Puts old new name w
puts_at bytes name old new w e h = subst (λ l. Puts old new l w) e (puts bytes old new w h)
