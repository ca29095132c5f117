-- A list of fewer than two items rises.
use Rattle.std.proofs.Common.{◌≡◌, ◌<◌, true, List, [], ◌∷◌, length, refl, arith}
use Rattle.std.specs.declared.cmp.Ordering.{Ordering}
use Rattle.ob_format.specs.Order.{rises}

pub short : {A : Type 0} (R : A → A → Ordering) (xs : List A) → length xs < 2 → rises R xs ≡ true
short R [] lt = refl
short R (x ∷ []) lt = refl
short R (x ∷ y ∷ ys) lt = absurd (omega arith)
