-- Lists whose items rise, and lists whose items differ.
use Rattle.std.specs.Prelude.{Bool, true, ◌&&◌, not, List, [], ◌∷◌}
use Rattle.std.specs.List.{list_all}
use Rattle.std.specs.Ordering.{is_lt, is_eq}
use Rattle.std.specs.declared.cmp.Ordering.{Ordering}

-- each item is below the next one
abbrev pub rises : {A : Type 0} → (A → A → Ordering) → List A → Bool
rises R [] = true
rises R (x ∷ []) = true
rises R (x ∷ y ∷ ys) = is_lt (R x y) && rises R (y ∷ ys)

-- no item is equal to a later one
abbrev pub differ : {A : Type 0} → (A → A → Ordering) → List A → Bool
differ R [] = true
differ R (x ∷ xs) = list_all (λ y. not (is_eq (R x y))) xs && differ R xs
