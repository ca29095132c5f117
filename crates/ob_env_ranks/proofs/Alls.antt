-- Tests of all items.
use Rattle.std.proofs.Common.{◌≡◌, Bool, true, false, List, [], ◌∷◌, ◌++◌, refl}
use Rattle.std.specs.Prelude.{◌&&◌}
use Rattle.std.specs.List.{list_all}
use Rattle.std.proofs.lemmas.List.Folds.{list_all-append}

pub all_append : {X : Type 0} (p : X → Bool) (xs ys : List X) → list_all p (xs ++ ys) ≡ (list_all p xs && list_all p ys)
all_append p xs ys = list_all-append p xs ys

pub all_one : {X : Type 0} (p : X → Bool) (x : X) → list_all p (x ∷ []) ≡ p x
all_one p x = go (p x)
  where
    go : (b : Bool) → (b && true) ≡ b
    go true = refl
    go false = refl
